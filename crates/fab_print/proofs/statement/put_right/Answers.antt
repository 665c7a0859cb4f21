use Rattle.std.proofs.Common.{refl, ap}
use Rattle.fab_base.specs.declared.token.Mark.TheVariants as m
use Rattle.fab_tree.specs.Print as p
use Rattle.fab_tree.specs.Print.{◌>>◌, space, mark}
use Rattle.fab_print.proofs.Added.{both, word, known}
use Rattle.fab_print.proofs.statement.put_right.Goals as goal

pub returns-in_ok-put_arguments-in-Call : goal.returns-in_ok-put_arguments-in-Call
returns-in_ok-put_arguments-in-Call c = known (ap p.right c.in-Call.is) (both (c.in_ok-put_name-in-Call.ensures) (rw c.as_slice.ensures at c.in_ok-put_arguments-in-Call.ensures))

pub returns-in_ok-put_arguments-in-New : goal.returns-in_ok-put_arguments-in-New
returns-in_ok-put_arguments-in-New c =
    known (ap p.right c.in-New.is)
    (both (word _ (mark m.New >> space) c.in_ok-extend-in-New.ensures.ok (λ _. refl))
    (both (c.in_ok-put_name-in-New.ensures)
    (both (word _ (space >> mark m.At >> space) c.in_ok-extend-in-New-2.ensures.ok (λ _. refl))
    (both (c.in_ok-put_name-in-New-2.ensures)
    (both
    (word _ (space) c.in_ok-push-in-New.ensures.ok (λ _. refl))
    (rw c.as_slice-in-New.ensures at c.in_ok-put_arguments-in-New.ensures))))))
