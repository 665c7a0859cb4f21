use Rattle.std.proofs.Common.{◌∷◌, ◌∙◌, ◌<◌, ◌-◌, map, ap, sym, arith, add-one}
use Rattle.fab_evidence.specs.First.{row_of, rows_of, up_to_barred}
use Rattle.fab_evidence.proofs.Walking.{differ_rows, first_up_to, same_rows}
use Rattle.fab_evidence.proofs.first.first_before_barred.Goals as goal

pub returns-then-not-is_same : goal.returns-then-not-is_same
returns-then-not-is_same c =
    let some : 0 < c.lines.more = omega arith in
    differ_rows c.differing.result c.lines.line c.lines.left.now c.first_line.result.0.now c.first_line.result.1.now (up_to_barred c.lines.more (rows_of c.lines.right.now))
    (up_to_barred (c.lines.more - 1) (rows_of c.first_line-in-lines.result.1.now)) (record { kind = c.kind_of.result; text = c.first_line-in-lines.result.0.now }) _ c.first_line.ensures.lines
    (ap (λ ls. up_to_barred c.lines.more (map row_of ls)) c.first_line-in-lines.ensures.lines
    ∙ first_up_to c.lines.more (row_of c.first_line-in-lines.result.0.now) (rows_of c.first_line-in-lines.result.1.now) some
    ∙ ap (λ k. record { kind = k; text = c.first_line-in-lines.result.0.now } ∷ up_to_barred (c.lines.more - 1) (rows_of c.first_line-in-lines.result.1.now)) (sym c.kind_of.ensures))
    c.lines.invariant.same (c.differing.ensures (rows_of c.first_line.result.1.now) (up_to_barred (c.lines.more - 1) (rows_of c.first_line-in-lines.result.1.now)))

pub lines-preserved : goal.lines-preserved
lines-preserved c =
    let some : 0 < c.lines.more = omega arith in
    record {
      same =
          rw add-one
          (sym (same_rows c.lines.line c.lines.left.now c.first_line.result.0.now c.first_line.result.1.now (up_to_barred c.lines.more (rows_of c.lines.right.now))
          (up_to_barred (c.lines.more - 1) (rows_of c.first_line-in-lines.result.1.now)) (row_of c.first_line-in-lines.result.0.now) c.first_line.ensures.lines
          (ap (λ ls. up_to_barred c.lines.more (map row_of ls)) c.first_line-in-lines.ensures.lines
          ∙ first_up_to c.lines.more (row_of c.first_line-in-lines.result.0.now) (rows_of c.first_line-in-lines.result.1.now) some)
          (sym c.is_same.ensures ∙ c.if-not-is_same.false))
          ∙ c.lines.invariant.same);
      few = omega (arith, c.first_line.ensures.shorter, c.lines.invariant.few);
    }
