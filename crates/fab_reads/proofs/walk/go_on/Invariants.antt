use Rattle.std.proofs.Common.{◌≡◌, length}
use Rattle.std.specs.List.{fold}
use Rattle.fab_rights.specs.Computed.{has_bit}
use Rattle.fab_serial.specs.Replays.{behind}
use Rattle.fab_reads.proofs.walk.go_on.Given as goal

abbrev pub invariant-loop-commit : goal.invariant-loop-commit
invariant-loop-commit l =
    fold (behind l.program (has_bit l.classes)) l.map l.rest ≡ fold (behind l.program (has_bit l.classes)) l.initial.map l.commits

abbrev pub decreases-loop-commit : goal.decreases-loop-commit
decreases-loop-commit l = length l.rest
