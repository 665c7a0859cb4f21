use Rattle.std.proofs.Common.{ap, ◌∙◌}
use Rattle.std.specs.List.{list_any}
use Rattle.fab_nested.specs.Listed.{listed}
use Rattle.fab_nested.proofs.Holding.{distinct_after}
use Rattle.fab_nested.proofs.names.Names.push.Goals as goal

pub push-requires-clause-absent : goal.push-requires-clause-absent
push-requires-clause-absent g c = ap (list_any (g.T.PartialEq.eq c.args.name)) c.self.view_is ∙ c.requires

pub invariant_of-self : goal.invariant_of-self
invariant_of-self g c =
    distinct_after g.met.T.Eq.laws c.push.result (listed c.self.inside.held) (listed c.push.new.self) c.args.name c.self.invariant
    (ap (list_any (g.T.PartialEq.eq c.args.name)) c.self.view_is ∙ c.requires) c.push.ensures.ok c.push.ensures.err
