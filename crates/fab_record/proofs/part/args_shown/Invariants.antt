use Rattle.std.proofs.Common.{◌≡◌, ◌-◌, ◌++◌, drop, length}
use Rattle.fab_erasure.specs.Erased.{args_shown}
use Rattle.fab_rights.specs.Computed.{has_bit}
use Rattle.fab_record.proofs.part.args_shown.Given as goal

abbrev pub invariant-loop-i : goal.invariant-loop-i
invariant-loop-i l =
    l.values ++ args_shown (has_bit l.seen.labels) (has_bit l.seen.classes) (drop l.i l.locals) (drop l.i l.args) ≡ args_shown (has_bit l.seen.labels) (has_bit l.seen.classes) l.locals l.args

abbrev pub decreases-loop-i : goal.decreases-loop-i
decreases-loop-i l = length l.args - l.i
