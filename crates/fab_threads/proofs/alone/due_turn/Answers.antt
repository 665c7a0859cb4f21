use Rattle.std.proofs.Common.{sym, subst}
use Rattle.fab_tree.specs.declared.resolved.Resolved.{Resolved}
use Rattle.fab_threads.specs.Counts.{IsReady, JobIsReady}
use Rattle.fab_threads.proofs.alone.due_turn.Goals as goal

pub evaluated_or_left-requires-clause-job : goal.evaluated_or_left-requires-clause-job
evaluated_or_left-requires-clause-job g c =
    subst (λ (p : Resolved). IsReady p c.in-Evaluate.job) (sym c.requires) (rw c.in-Evaluate.is at c.in_ok-turn.ensures.job)

pub returns-in_default-clause-job : goal.returns-in_default-clause-job
returns-in_default-clause-job g c = subst (λ (p : Resolved). JobIsReady p c.in_ok-turn.turn) (sym c.requires) c.in_ok-turn.ensures.job
