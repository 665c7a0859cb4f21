use Rattle.fab_trust.specs.Noted.{guards_at}
use Rattle.fab_trust.proofs.Least.{step}
use Rattle.fab_trust.proofs.guards.note_labels.Goals as goal

pub loop-source-preserved : goal.loop-source-preserved
loop-source-preserved c =
    step c.args.scope.now.start.now (λ l. guards_at c.args.at l c.args.authority.now) c.args.sources.now c.loop-source.source-index _ c.loop-source.found c.note_label-found.result _
    c.loop-source-test.true c.note_label-found.ensures c.loop-source.invariant
