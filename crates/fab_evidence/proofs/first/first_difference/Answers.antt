use Rattle.std.proofs.Common.{◌∷◌, ◌∙◌, map, ap, sym}
use Rattle.fab_evidence.specs.First.{row_of, rows_of}
use Rattle.fab_evidence.proofs.Walking.{differ_rows}
use Rattle.fab_evidence.proofs.first.first_difference.Goals as goal

pub returns-then-not-is_same : goal.returns-then-not-is_same
returns-then-not-is_same c =
    differ_rows c.differing.result c.lines.line c.lines.left.now c.first_line.result.0.now c.first_line.result.1.now (rows_of c.lines.right.now) (rows_of c.first_line-in-lines.result.1.now)
    (record { kind = c.kind_of.result; text = c.first_line-in-lines.result.0.now }) _ c.first_line.ensures.lines
    (ap (map row_of) c.first_line-in-lines.ensures.lines
    ∙ ap (λ k. record { kind = k; text = c.first_line-in-lines.result.0.now } ∷ rows_of c.first_line-in-lines.result.1.now) (sym c.kind_of.ensures))
    c.lines.invariant.same (c.differing.ensures (rows_of c.first_line.result.1.now) (rows_of c.first_line-in-lines.result.1.now))
