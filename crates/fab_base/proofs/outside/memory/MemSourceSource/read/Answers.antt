use Rattle.fab_base.proofs.outside.memory.MemSourceSource.read.Goals as goal

pub returns-then-count-clause-cause : goal.returns-then-count-clause-cause
returns-then-count-clause-cause c =
    rw (← c.self.view_is) (record { later = c.count.ensures.cause.later; failed = c.count.ensures.cause.raised c.if-count.true })
