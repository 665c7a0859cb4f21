use Rattle.fab_nested.specs.Listed.{listed}
use Rattle.fab_nested.proofs.Holding.{distinct_front}
use Rattle.fab_nested.proofs.names.Names.truncate.Goals as goal

pub invariant_of-self : goal.invariant_of-self
invariant_of-self g c = distinct_front g.met.T.Eq.laws c.args.len (listed c.self.inside.held) (listed c.truncate.new.self) c.self.invariant c.truncate.ensures
