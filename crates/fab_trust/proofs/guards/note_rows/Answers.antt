use Rattle.fab_trust.specs.Noted.{kind_guards}
use Rattle.fab_trust.proofs.Least.{step}
use Rattle.fab_trust.proofs.guards.note_rows.Goals as goal

pub loop-row-preserved : goal.loop-row-preserved
loop-row-preserved c =
    step c.args.scope.now.start.now (kind_guards c.args.scope.now.pcs.now c.args.authority.now) c.args.rows.now c.loop-row.row-index _ c.loop-row.found c.note_row-found.result _
    c.loop-row-test.true c.note_row-found.ensures c.loop-row.invariant
