use Rattle.std.proofs.Common.{arith}
use Rattle.std.proofs.lemmas.Result.{err_from_is_err_and}
use Rattle.fab_evidence.proofs.Audits.{both_read, stop_behind, stop_first}
use Rattle.fab_evidence.proofs.text.evidence_of.Goals as goal

pub returns-in_err-lines : goal.returns-in_err-lines
returns-in_err-lines c =
    let p = err_from_is_err_and c.from_residual.result c.from_residual.ensures.1 in
    rw (p.1, p.2) (stop_first c.args.program.now c.args.nodes.now c.in_err-lines.field-0.0 c.args.text.now (λ i. omega (arith, c.type_inv.text i)) c.in_err-lines.ensures)

pub returns-in_err-journals : goal.returns-in_err-journals
returns-in_err-journals c =
    let p = err_from_is_err_and c.from_residual-in_err-journals.result c.from_residual-in_err-journals.ensures.1 in
    rw (p.1, p.2)
    (stop_behind c.args.program.now c.args.nodes.now c.in_err-journals.field-0.0 c.args.text.now (λ i. omega (arith, c.type_inv.text i)) c.in_ok-lines.lines c.in_ok-lines.rest.now
    c.in_ok-lines.ensures c.in_err-journals.ensures)

pub returns : goal.returns
returns c =
    both_read c.args.program.now c.args.nodes.now c.args.text.now (λ i. omega (arith, c.type_inv.text i)) c.in_ok-lines.lines c.in_ok-lines.rest.now c.in_ok-lines.ensures
    c.in_ok-journals.journals c.in_ok-journals.ensures
