use Rattle.std.proofs.Common.{◌≡◌, ◌-◌}
use Rattle.fab_wire.specs.Reading.{many_at, write_at}
use Rattle.fab_wire.proofs.Loop.{with_front}
use Rattle.fab_wire.proofs.lists.writes_of.Given as goal

abbrev pub invariant-loop : goal.invariant-loop
invariant-loop l = with_front l.writes (many_at write_at (l.count - l.counter) l.rest) ≡ many_at write_at l.count l.bytes
