use Rattle.fab_base.proofs.outside.memory.MemSinkSink.write.Goals as goal

pub returns-then-count-clause-cause : goal.returns-then-count-clause-cause
returns-then-count-clause-cause c =
    rw (← c.self.view_is) (record {
      later = c.count.ensures.cause.later;
      failed = λ _. c.count.ensures.cause.raised c.if-count.true;
      unfailed = λ never. absurd (never tt);
    })
