use Rattle.std.proofs.Common.{◌≡◌, ℕ, ◌+◌, ◌-◌, vec_len}
use Rattle.fab_record.specs.Kept.{names_at}
use Rattle.fab_record.proofs.past.make_room.Given as goal

abbrev pub invariant-loop-alloc : goal.invariant-loop-alloc
invariant-loop-alloc l = (n : ℕ) → names_at l.touched.items n ≡ names_at l.initial.touched.items n

abbrev pub decreases-loop-alloc : goal.decreases-loop-alloc
decreases-loop-alloc l = l.worker + 1 - vec_len l.touched
