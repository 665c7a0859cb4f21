use Rattle.std.proofs.Common.{◌≡◌, ◌++◌, drop}
use Rattle.fab_trace.specs.Report.{outcomes_text}
use Rattle.fab_trace.proofs.requests.put_outcomes.Given as goal

abbrev pub invariant-loop-node : goal.invariant-loop-node
invariant-loop-node l = l.out ++ outcomes_text l.start l.node (drop l.node l.workers) ≡ l.fn.out ++ outcomes_text l.start 0 l.workers
