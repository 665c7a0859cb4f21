use Rattle.std.proofs.Common.{◌≡◌, false, sym, ◌∙◌, arith}
use Rattle.std.proofs.lemmas.Result.{err_from_is_err_and}
use Rattle.fab_reports.specs.Reading.{is_over, report_at}
use Rattle.fab_reports.proofs.Loops.{line_on, line_wrong, lines_end, counts_on, head_read, head_wrong, head_shorter}
use Rattle.fab_reports.proofs.reading.report_of.Goals as goal

pub returns-in_err-rest : goal.returns-in_err-rest
returns-in_err-rest c =
    let p = err_from_is_err_and c.from_residual.result c.from_residual.ensures.1 in
    rw (p.1, p.2) (head_wrong c.in_err-rest.field-0.0 c.args.bytes.now c.in_err-rest.ensures)

pub lines-init : goal.lines-init
lines-init c =
    let shorter = head_shorter c.args.bytes.now c.in_ok-rest.rest.now (λ i. omega (arith, c.type_inv.bytes i)) c.in_ok-rest.ensures in
    record {
      going = rw (c.in_ok-push.ensures.ok, c.new-lines.ensures) (head_read c.args.bytes.now c.in_ok-rest.rest.now c.in_ok-rest.ensures);
      events = omega (arith, shorter.0);
      commits = omega (arith, shorter.0);
      are_bytes = shorter.1;
    }

pub returns-in_err-line : goal.returns-in_err-line
returns-in_err-line c =
    let p = err_from_is_err_and c.from_residual-in_err-line.result c.from_residual-in_err-line.ensures.1 in
    let going : is_over c.lines.place ≡ false = sym c.was_last.ensures ∙ c.lines-test.true in
    rw (p.1, p.2) (line_wrong c.in_err-line.field-0.0 c.lines.lines c.lines.place c.lines.rest.now (report_at c.args.bytes.now) c.lines.invariant.are_bytes going c.in_err-line.ensures c.lines.invariant.going)

pub lines-smaller : goal.lines-smaller
lines-smaller c =
    let going : is_over c.lines.place ≡ false = sym c.was_last.ensures ∙ c.lines-test.true in
    (line_on c.lines.lines c.lines.place c.lines.rest.now c.in_ok-line.line c.in_ok-line.after.now (report_at c.args.bytes.now) c.lines.invariant.are_bytes going c.in_ok-line.ensures c.lines.invariant.going).1

pub lines-preserved : goal.lines-preserved
lines-preserved c =
    let going : is_over c.lines.place ≡ false = sym c.was_last.ensures ∙ c.lines-test.true in
    let on = line_on c.lines.lines c.lines.place c.lines.rest.now c.in_ok-line.line c.in_ok-line.after.now (report_at c.args.bytes.now) c.lines.invariant.are_bytes going c.in_ok-line.ensures c.lines.invariant.going in
    let counts = counts_on c.lines.place c.in_ok-line.line in
    rw c.behind_line-place.ensures (record {
      going = rw c.in_ok-push-2.ensures.ok on.0;
      events = omega (arith, on.1, counts.0, c.lines.invariant.events);
      commits = omega (arith, on.1, counts.1, c.lines.invariant.commits);
      are_bytes = on.2;
    })

pub returns : goal.returns
returns c = lines_end c.lines.lines c.lines.place c.lines.rest.now (report_at c.args.bytes.now) (sym c.was_last.ensures ∙ c.lines-test.false) c.lines.invariant.going
