use Rattle.std.proofs.Common.{sym, subst, ap, ◌∙◌}
use Rattle.fab_locks.specs.Conflicts.{IsHeldAt, holds_tid}
use Rattle.fab_locks.proofs.Tids.{removed_at, taken_at, without_absent, prepared_absent}
use Rattle.fab_locks.proofs.locks.free_beside.Goals as goal

-- the tid stands at the place that is taken out
pub returns-in-Some-clause-items : goal.returns-in-Some-clause-items
returns-in-Some-clause-items c =
    let at = subst (λ l. IsHeldAt c.args.tid l c.in-Some.at) c.as_slice.ensures.value c.in-Some.ensures in
    taken_at c.args.tid c.args.held.now.items c.in-Some.at c.requires.distinct at c.remove.result c.remove.ensures.value

pub returns-in-Some-clause-held : goal.returns-in-Some-clause-held
returns-in-Some-clause-held c =
    let at = subst (λ l. IsHeldAt c.args.tid l c.in-Some.at) c.as_slice.ensures.value c.in-Some.ensures in
    c.remove.ensures.items ∙ sym (removed_at c.args.tid c.args.held.now.items c.in-Some.at c.requires.distinct at)

-- it isn't held
pub returns-in-None-clause-items : goal.returns-in-None-clause-items
returns-in-None-clause-items c =
    prepared_absent c.args.tid c.args.held.now.items (ap (holds_tid c.args.tid) (sym c.as_slice.ensures.value) ∙ c.in-None.ensures)

pub returns-in-None-clause-held : goal.returns-in-None-clause-held
returns-in-None-clause-held c =
    sym (without_absent c.args.tid c.args.held.now.items (ap (holds_tid c.args.tid) (sym c.as_slice.ensures.value) ∙ c.in-None.ensures))
