use Rattle.std.proofs.Common.{◌≡◌, map, take}
use Rattle.fab_wire.specs.Reading.{read_message}
use Rattle.fab_marks.proofs.marks.messages_of.Given as goal

abbrev pub invariant-loop-event : goal.invariant-loop-event
invariant-loop-event l = l.heard ≡ map (λ x. read_message x.bytes) (take l.event-index l.events)
