use Rattle.std.proofs.Common.{◌≡◌, ◌-◌}
use Rattle.fab_wire.specs.Reading.{many_at, value_at}
use Rattle.fab_wire.proofs.Loop.{with_front}
use Rattle.fab_wire.proofs.lists.values_of.Given as goal

abbrev pub invariant-loop : goal.invariant-loop
invariant-loop l = with_front l.values (many_at value_at (l.count - l.counter) l.rest) ≡ many_at value_at l.count l.bytes
