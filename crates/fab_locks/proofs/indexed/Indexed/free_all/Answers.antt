use Rattle.std.proofs.Common.{◌==◌, not, sym, ap, ◌∙◌}
use Rattle.std.specs.List.{filter}
use Rattle.fab_locks.proofs.Going.{others_stay, shorter}
use Rattle.fab_locks.proofs.indexed.Indexed.free_all.Goals as goal

-- one more of the worker's transactions went
pub loop-tid-preserved : goal.loop-tid-preserved
loop-tid-preserved c =
    ap (filter (λ p. not (p.0.worker == c.args.worker))) c.free.ensures.held
    ∙ others_stay c.args.worker c.in-Some.tid c.loop-tid.self c.in-Some.ensures.worker
    ∙ c.loop-tid.invariant

pub loop-tid-smaller : goal.loop-tid-smaller
loop-tid-smaller c = rw c.free.ensures.held (shorter c.in-Some.tid c.loop-tid.self c.in-Some.ensures.held)

-- none is left
pub returns : goal.returns
returns c = sym c.in_default.ensures.none ∙ c.loop-tid.invariant
