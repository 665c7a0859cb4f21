use Rattle.std.proofs.Common.{refl}
use Rattle.fab_base.specs.declared.token.Mark.TheVariants as m
use Rattle.fab_tree.specs.Print.{◌>>◌, space, mark}
use Rattle.fab_print.proofs.Added.{both, word, power_behind}
use Rattle.fab_print.proofs.program.put_authority.Goals as goal

pub returns-in_ok-put_spaced_names-in-Some : goal.returns-in_ok-put_spaced_names-in-Some
returns-in_ok-put_spaced_names-in-Some c = power_behind _ _ _ c.in-Some.ensures.cases.0 (both (word _ (space >> mark m.Authority) c.in_ok-extend-in-Some.ensures.ok (λ _. refl)) (c.in_ok-put_spaced_names-in-Some.ensures))
