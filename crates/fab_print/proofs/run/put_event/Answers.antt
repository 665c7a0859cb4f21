use Rattle.std.proofs.Common.{refl, ap}
use Rattle.fab_base.specs.declared.token.Mark.TheVariants as m
use Rattle.fab_tree.specs.Print as p
use Rattle.fab_tree.specs.Print.{◌>>◌, space, mark}
use Rattle.fab_print.proofs.Added.{both, word, known}
use Rattle.fab_print.proofs.run.put_event.Goals as goal

pub returns-in_ok-put_step-in-CrashIn : goal.returns-in_ok-put_step-in-CrashIn
returns-in_ok-put_step-in-CrashIn c = known (ap p.event c.in-CrashIn.is) (both (word _ (mark m.CrashIn >> space) c.in_ok-extend-in-CrashIn.ensures.ok (λ _. refl)) (both (c.in_ok-put_number-in-CrashIn.ensures) (both (word _ (space) c.in_ok-push-in-CrashIn.ensures.ok (λ _. refl)) (c.in_ok-put_step-in-CrashIn.ensures))))
