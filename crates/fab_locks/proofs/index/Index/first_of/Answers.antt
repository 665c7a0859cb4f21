use Rattle.fab_locks.proofs.Walking.{no_tid, no_tids}
use Rattle.fab_locks.proofs.index.Index.first_of.Goals as goal

-- nothing stands from the worker's least tid on
pub returns-in_err-tid-clause-none : goal.returns-in_err-tid-clause-none
returns-in_err-tid-clause-none c =
    rw c.from_residual.ensures (no_tids c.args.worker c.args.self.now.places c.range.result (c.range.ensures.in_range tt) c.in_err-tid.ensures.steps.0)

-- or a greater worker's first
pub returns-else-tid-worker-clause-none : goal.returns-else-tid-worker-clause-none
returns-else-tid-worker-clause-none c =
    no_tid c.args.worker c.args.self.now.places c.range.result (c.range.ensures.in_range tt) (c.in_ok-tid.tid.now, c.in_ok-tid.field-0-1.now)
    c.next.new.self c.in_ok-tid.ensures.steps c.if-tid-worker.false
