use Rattle.std.proofs.Common.{◌≡◌, ◌+◌, length, map}
use Rattle.fab_wire.specs.Reading.{read_message}
use Rattle.fab_marks.specs.Origins.{latest}
use Rattle.fab_marks.proofs.origins.origin.Given as goal

abbrev pub invariant-events : goal.invariant-events
invariant-events l = record {
  found : latest l.delivery l.message l.row l.found l.events ≡ latest l.delivery l.message 1 (length l.front + 1) l.front;
  read : l.messages ≡ map (λ x. read_message x.bytes) l.events;
  count : l.row + length l.events ≡ 1 + length l.front;
}

abbrev pub decreases-events : goal.decreases-events
decreases-events l = length l.events
