use Rattle.std.proofs.Common.{◌≡◌, length}
use Rattle.std.specs.List.{fold}
use Rattle.fab_language.specs.Evaluation.{map_at_start}
use Rattle.fab_rights.specs.Computed.{has_bit}
use Rattle.fab_world.specs.Serial.{within}
use Rattle.fab_serial.specs.Replays.{behind}
use Rattle.fab_serial.proofs.replaying.replay.Given as goal

abbrev pub invariant-loop-commit : goal.invariant-loop-commit
invariant-loop-commit l =
    fold (behind l.start (has_bit l.classes)) l.map l.rest ≡ fold (behind l.start (has_bit l.classes)) (within (has_bit l.classes) (map_at_start l.start)) l.commits

abbrev pub decreases-loop-commit : goal.decreases-loop-commit
decreases-loop-commit l = length l.rest
