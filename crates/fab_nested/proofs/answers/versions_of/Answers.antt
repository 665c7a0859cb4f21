use Rattle.fab_nested.proofs.Naming.{version_more}
use Rattle.fab_nested.proofs.answers.versions_of.Goals as goal

pub loop-answer-preserved : goal.loop-answer-preserved
loop-answer-preserved c =
    version_more c.args.answers.now c.loop-answer.answer-index c.answer-item.result c.loop-answer.versions.entries c.insert.new.self.entries
    c.requires c.loop-answer-test.true c.answer-item.is c.loop-answer.invariant c.in_ok-insert.ensures.entries
