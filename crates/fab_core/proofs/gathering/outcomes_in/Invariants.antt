use Rattle.std.proofs.Common.{◌≡◌}
use Rattle.fab_core.specs.Cores.{slot}
use Rattle.fab_nodes.specs.Seen.{outcomes_in}
use Rattle.fab_core.proofs.gathering.outcomes_in.Given as goal

abbrev pub invariant-loop-request : goal.invariant-loop-request
invariant-loop-request g l = l.all ≡ outcomes_in (slot l.nodes l.worker) l.request
