use Rattle.fab_reading.proofs.Rules.{lacks_at, not_true}
use Rattle.fab_reading.proofs.reading.behind.Goals as goal

pub returns-else-is_mark : goal.returns-else-is_mark
returns-else-is_mark c = lacks_at c.in-Some.ensures (λ h. not_true c.if-is_mark.false (c.is_mark.ensures.1 h))
