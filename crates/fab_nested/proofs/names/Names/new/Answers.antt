use Rattle.fab_nested.proofs.Holding.{distinct_none}
use Rattle.fab_nested.proofs.names.Names.new.Goals as goal

pub invariant_of-result : goal.invariant_of-result
invariant_of-result g c = distinct_none g.T.PartialEq.eq c.new.result.items c.new.ensures.items
