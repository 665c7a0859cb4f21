use Rattle.std.proofs.Common.{refl}
use Rattle.fab_reading.proofs.Rules.{begins_at}
use Rattle.fab_reading.proofs.reading.open.Goals as goal

pub returns-then-room-eq0 : goal.returns-then-room-eq0
returns-then-room-eq0 c = (refl, c.if-room-eq0.true, begins_at c.in-Some.ensures)
