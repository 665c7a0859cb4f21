use Rattle.std.proofs.Common.{refl, ap}
use Rattle.fab_base.specs.declared.token.Mark.TheVariants as m
use Rattle.fab_tree.specs.Print as p
use Rattle.fab_tree.specs.Print.{◌>>◌, space, mark}
use Rattle.fab_print.proofs.Added.{both, word, known}
use Rattle.fab_print.proofs.program.put_returns.Goals as goal

pub returns-in_ok-push-in-Some : goal.returns-in_ok-push-in-Some
returns-in_ok-push-in-Some c = known (ap p.returns c.in-Some.is) (both (word _ (mark m.Returns >> space) c.in_ok-extend-in-Some.ensures.ok (λ _. refl)) (both (c.in_ok-put_sort-in-Some.ensures) (both (word _ (space >> mark m.Colon >> space) c.in_ok-extend-in-Some-2.ensures.ok (λ _. refl)) (both (c.in_ok-put_name-in-Some.ensures) (word _ (space) c.in_ok-push-in-Some.ensures.ok (λ _. refl))))))
