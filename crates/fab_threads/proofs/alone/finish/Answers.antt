use Rattle.std.specs.Prelude.{All}
use Rattle.std.proofs.Common.{sym, subst}
use Rattle.fab_tree.specs.declared.resolved.Resolved.{Resolved}
use Rattle.fab_threads.specs.Counts.{IsReady}
use Rattle.fab_threads.proofs.alone.finish.Goals as goal

pub evaluate_all-requires-clause-ready : goal.evaluate_all-requires-clause-ready
evaluate_all-requires-clause-ready g c κs within =
    subst (λ (p : Resolved). All (IsReady p) c.in-Ok-Jobs.jobs) (sym c.left_over.ensures.program) (rw c.in-Ok-Jobs.field-0-is at c.in-Ok-Jobs.ensures.left)
