use Rattle.std.proofs.Common.{sym, ap, ◌∙◌}
use Rattle.fab_locks.specs.Conflicts.{first_barring}
use Rattle.fab_locks.proofs.Finding.{all_found, least_bars, least_is_held, none_bars}
use Rattle.fab_locks.proofs.indexed.Indexed.conflict.Goals as goal

-- no number is under the name
pub returns-in_err-number : goal.returns-in_err-number
returns-in_err-number c =
    let x = c.self.inside in
    c.from_residual.ensures ∙ sym (none_bars x.held.entries x.index c.self.invariant (all_found x.held c.self.invariant.ordered) c.args.oid c.args.writing c.in_err-number.ensures)
    ∙ ap (first_barring c.args.oid c.args.writing) c.self.view_is

-- the least is that of the first transaction
pub returns : goal.returns
returns c =
    let x = c.self.inside in
    sym (least_bars x.held.entries x.index c.self.invariant (all_found x.held c.self.invariant.ordered) c.args.oid c.args.writing c.in_ok-number.number
    c.in-Some.transaction.now c.in_ok-number.ensures (sym c.in-Some.ensures.value))
    ∙ ap (first_barring c.args.oid c.args.writing) c.self.view_is

pub unreachable-requires : goal.unreachable-requires
unreachable-requires c =
    let x = c.self.inside in
    least_is_held x.held.entries x.index c.self.invariant (all_found x.held c.self.invariant.ordered) c.args.oid c.args.writing c.in_ok-number.number
    c.in_ok-number.ensures (sym c.in-None.ensures.value)
