use Rattle.std.proofs.Common.{◌≡◌, ◌++◌, length}
use Rattle.std.specs.List.{flat_map}
use Rattle.fab_world.specs.Serial.{commit_in}
use Rattle.fab_serial.proofs.decisions.add_commits.Given as goal

abbrev pub invariant-loop-note : goal.invariant-loop-note
invariant-loop-note l = l.commits.items ++ flat_map commit_in l.rest ≡ l.fn.commits.items ++ flat_map commit_in l.notes

abbrev pub decreases-loop-note : goal.decreases-loop-note
decreases-loop-note l = length l.rest
