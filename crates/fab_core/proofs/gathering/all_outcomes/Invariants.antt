use Rattle.std.proofs.Common.{◌≡◌, length, map}
use Rattle.std.specs.List.{range_with_len}
use Rattle.fab_attempts.specs.Sessions.{requests_of}
use Rattle.fab_core.specs.Cores.{slot}
use Rattle.fab_nodes.specs.Seen.{outcomes_in}
use Rattle.fab_core.proofs.gathering.all_outcomes.Given as goal

abbrev pub invariant-loop-worker : goal.invariant-loop-worker
invariant-loop-worker g l = l.all ≡ map (λ n. outcomes_in (slot l.nodes n) (length (requests_of l.given.program n))) (range_with_len 0 l.worker)
