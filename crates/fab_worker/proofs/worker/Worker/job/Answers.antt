use Rattle.std.proofs.Common.{◌∙◌}
use Rattle.fab_worker.proofs.Begun.{made_before}
use Rattle.fab_worker.proofs.worker.Worker.job.Goals as goal

pub returns-clause-made_before : goal.returns-clause-made_before
returns-clause-made_before c =
    let x = c.self.inside in
    made_before x.program.value x.session x.node x.answers.items c.self.invariant.worker c.self.invariant.answers
    c.tid.result c.tid.ensures.tid c.in_ok-copies.field-0 (c.in_ok-copies.ensures ∙ c.deref.ensures.value)
