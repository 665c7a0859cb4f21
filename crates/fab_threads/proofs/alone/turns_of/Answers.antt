use Rattle.std.proofs.Common.{subst}
use Rattle.fab_tree.specs.declared.resolved.Resolved.{Resolved}
use Rattle.fab_threads.specs.Counts.{JobIsReady}
use Rattle.fab_threads.proofs.alone.turns_of.Goals as goal

pub returns-in_default-clause-job : goal.returns-in_default-clause-job
returns-in_default-clause-job g c = subst (λ (p : Resolved). JobIsReady p c.in_ok-turn.turn) c.loop.invariant.2 c.in_ok-turn.ensures.job
