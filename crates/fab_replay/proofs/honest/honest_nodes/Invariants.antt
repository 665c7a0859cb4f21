use Rattle.std.proofs.Common.{◌≡◌}
use Rattle.fab_core.specs.Starts.{given_by}
use Rattle.fab_core.specs.Honest.{honest_up}
use Rattle.fab_replay.proofs.honest.honest_nodes.Given as goal

-- the honest ones of the numbers so far
abbrev pub invariant-loop-number : goal.invariant-loop-number
invariant-loop-number l = l.nodes ≡ honest_up (given_by l.program l.rights) l.number
