use Rattle.std.proofs.Common.{◌≡◌, ◌++◌, drop}
use Rattle.fab_trace.specs.Report.{outcomes_of}
use Rattle.fab_trace.proofs.requests.put_outcomes_of.Given as goal

abbrev pub invariant-loop-index : goal.invariant-loop-index
invariant-loop-index l = l.out ++ outcomes_of l.start l.node l.index (drop l.index l.outcomes) ≡ l.fn.out ++ outcomes_of l.start l.node 0 l.outcomes
