use Rattle.std.proofs.Common.{sym, ◌∙◌}
use Rattle.fab_locks.proofs.Walking.{least_number, no_names, no_number}
use Rattle.fab_locks.proofs.names.first_number.Goals as goal

-- nothing stands from the name on
pub returns-in_err-first : goal.returns-in_err-first
returns-in_err-first c =
    rw c.from_residual.ensures (no_names c.args.oid c.args.names.now c.range.result (c.range.ensures.in_range tt) c.in_err-first.ensures.steps.0)

-- the walk begins at the name
pub returns-then-is_same_name : goal.returns-then-is_same_name
returns-then-is_same_name c =
    least_number c.args.oid c.args.names.now c.range.result (c.range.ensures.in_range tt) c.in_ok-first.first.now c.next.new.self
    c.in_ok-first.ensures.steps (sym c.is_same_name.ensures ∙ c.if-is_same_name.true)

-- or behind it
pub returns-else-is_same_name : goal.returns-else-is_same_name
returns-else-is_same_name c =
    no_number c.args.oid c.args.names.now c.range.result (c.range.ensures.in_range tt) c.in_ok-first.first.now c.next.new.self
    c.in_ok-first.ensures.steps (sym c.is_same_name.ensures ∙ c.if-is_same_name.false)
