use Rattle.fab_nested.proofs.Holding.{goes_last}
use Rattle.fab_nested.proofs.names.table_with.Goals as goal

pub returns : goal.returns
returns g c = goes_last g.T.PartialEq.eq c.args.name c.args.names.now c.in_ok-set.set.keys c.insert.new.self.keys c.requires.absent c.in_ok-set.ensures c.in_ok-insert.ensures.keys
