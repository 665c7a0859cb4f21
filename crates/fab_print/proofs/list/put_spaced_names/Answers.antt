use Rattle.std.proofs.Common.{refl}
use Rattle.fab_base.specs.declared.token.Mark.TheVariants as m
use Rattle.fab_tree.specs.Print.{space}
use Rattle.fab_print.proofs.Added.{both, word, names_behind}
use Rattle.fab_print.proofs.list.put_spaced_names.Goals as goal

pub returns-in_ok-print_separated-in-Some : goal.returns-in_ok-print_separated-in-Some
returns-in_ok-print_separated-in-Some c = names_behind _ _ _ c.in-Some.ensures.cases.0 (both (word _ (space) c.in_ok-push-in-Some.ensures.ok (λ _. refl)) (c.in_ok-print_separated-in-Some.ensures m.Comma refl))
