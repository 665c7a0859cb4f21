use Rattle.std.proofs.Common.{length, ap, sym, subst, ◌∙◌, arith}
use Rattle.std.proofs.lemmas.Bool.{iff_false}
use Rattle.fab_evidence.proofs.Parts.{IsSought, fewer_behind, one_line_on}
use Rattle.fab_evidence.proofs.Steps.{some_length}
use Rattle.fab_evidence.proofs.place.report_place.Goals as goal

pub lines-smaller : goal.lines-smaller
lines-smaller c =
    omega (arith, ap length c.behind_line-rest.ensures, fewer_behind c.lines.rest.now (some_length c.lines.rest.now (sym c.is_empty.ensures ∙ c.lines-test.true)))

pub lines-preserved : goal.lines-preserved
lines-preserved c =
    subst (IsSought c.args.text.now) (sym c.behind_line-rest.ensures)
    (one_line_on c.args.text.now c.lines.rest.now c.lines.invariant (iff_false c.begins_report.ensures c.if-begins_report.false))
