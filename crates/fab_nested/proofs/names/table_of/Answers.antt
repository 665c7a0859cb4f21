use Rattle.fab_nested.proofs.Holding.{next_taken}
use Rattle.fab_nested.proofs.names.table_of.Goals as goal

pub loop-name-preserved : goal.loop-name-preserved
loop-name-preserved g c =
    next_taken g.met.T.Eq.laws c.args.names.now c.loop-name.name-index c.name-item.result c.loop-name.set.keys c.insert.new.self.keys
    c.requires c.loop-name-test.true c.name-item.is c.loop-name.invariant c.in_ok-insert.ensures.keys
