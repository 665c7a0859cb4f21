use Rattle.std.proofs.Common.{◌≡◌, ◌-◌}
use Rattle.fab_wire.proofs.Loop.{with_front}
use Rattle.fab_journal.specs.EntryReading.{ascending_at}
use Rattle.fab_journal.proofs.fields.ascending_of.Given as goal

abbrev pub invariant-loop-i : goal.invariant-loop-i
invariant-loop-i l = with_front l.stores (ascending_at (l.count - l.i) l.low l.rest) ≡ ascending_at l.count 0 l.bytes
