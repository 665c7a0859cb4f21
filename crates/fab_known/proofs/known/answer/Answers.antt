use Rattle.std.proofs.Common.{sym, ◌∙◌}
use Rattle.fab_known.proofs.Knowing.{is_answer}
use Rattle.fab_known.proofs.known.answer.Goals as goal

pub returns-then-is_next : goal.returns-then-is_next
returns-then-is_next c =
    is_answer c.args.rows.now c.in-Some.before.now c.in-Some.row.now c.args.last.now c.args.number c.args.tid c.in_ok-copy.field-0
    c.in-Some.ensures.cases.0 (sym c.is_next.ensures ∙ c.if-is_next.true) c.in_ok-copy.ensures
