use Rattle.std.proofs.Common.{refl, ap}
use Rattle.fab_base.specs.declared.token.Mark.TheVariants as m
use Rattle.fab_tree.specs.Print as p
use Rattle.fab_tree.specs.Print.{◌>>◌, space, mark}
use Rattle.fab_print.proofs.Added.{both, word, known}
use Rattle.fab_print.proofs.run.put_step.Goals as goal

pub returns-in_ok-put_name-in-Deliver-2 : goal.returns-in_ok-put_name-in-Deliver-2
returns-in_ok-put_name-in-Deliver-2 c = known (ap p.step c.in-Deliver.is) (both (word _ (mark m.Deliver >> space) c.in_ok-extend-in-Deliver.ensures.ok (λ _. refl)) (both (c.in_ok-put_name-in-Deliver.ensures) (both (word _ (space) c.in_ok-push-in-Deliver.ensures.ok (λ _. refl)) (c.in_ok-put_name-in-Deliver-2.ensures))))

pub returns-in_ok-put_name-in-Idle-2 : goal.returns-in_ok-put_name-in-Idle-2
returns-in_ok-put_name-in-Idle-2 c = known (ap p.step c.in-Idle.is) (both (word _ (mark m.Idle >> space) c.in_ok-extend-in-Idle.ensures.ok (λ _. refl)) (both (c.in_ok-put_name-in-Idle.ensures) (both (word _ (space) c.in_ok-push-in-Idle.ensures.ok (λ _. refl)) (c.in_ok-put_name-in-Idle-2.ensures))))
