use Rattle.std.proofs.Common.{take}
use Rattle.fab_flows.specs.Lines.{GrowsByLines}
use Rattle.fab_flows.proofs.covers.put_covers.Given as goal

abbrev pub invariant-loop-at : goal.invariant-loop-at
invariant-loop-at l = GrowsByLines l.start l.sign l.by (take l.at l.policies) l.fn.out l.out
