use Rattle.std.proofs.Common.{sym, ◌∙◌, arith}
use Rattle.std.proofs.lemmas.Bool.{eqb-true}
use Rattle.std.proofs.lemmas.List.{nil_from_length}
use Rattle.std.proofs.lemmas.Result.{err_from_is_err_and}
use Rattle.fab_evidence.proofs.Steps.{at_first, ended, first_in, goes_on, no_more, smaller, some_length, stopped}
use Rattle.fab_evidence.proofs.journals.journals_of.Goals as goal

pub journals-init : goal.journals-init
journals-init c = rw c.new-journals.ensures (at_first c.args.program.now c.args.nodes.now c.args.bytes.now c.requires (λ i. omega (arith, c.type_inv.bytes i)))

pub returns-then-is_empty : goal.returns-then-is_empty
returns-then-is_empty c =
    no_more c.args.program.now c.args.nodes.now c.args.bytes.now c.journals.left.now c.journals.rest.now c.journals.journals c.journals.invariant
    (nil_from_length c.journals.left.now (eqb-true _ _ (sym c.is_empty-in-journals.ensures ∙ c.if-is_empty.true)))
    (some_length c.journals.rest.now (sym c.is_empty.ensures ∙ c.journals-test.true))

pub returns-in_err-journal : goal.returns-in_err-journal
returns-in_err-journal c =
    let p = err_from_is_err_and c.from_residual.result c.from_residual.ensures.1 in
    let one = first_in c.journals.left.now (some_length c.journals.left.now (sym c.is_empty-in-journals.ensures ∙ c.if-is_empty.false)) in
    rw (p.1, p.2)
    (stopped c.args.program.now c.in_err-journal.field-0.0 c.args.nodes.now c.args.bytes.now c.journals.left.now c.journals.rest.now c.journals.journals one.0 one.1 c.journals.invariant
    (some_length c.journals.rest.now (sym c.is_empty.ensures ∙ c.journals-test.true)) c.in_err-journal.ensures)

pub journals-smaller : goal.journals-smaller
journals-smaller c =
    let one = first_in c.journals.left.now (some_length c.journals.left.now (sym c.is_empty-in-journals.ensures ∙ c.if-is_empty.false)) in
    smaller c.args.program.now c.args.nodes.now c.args.bytes.now c.journals.left.now c.journals.rest.now c.in_ok-journal.after.now c.journals.journals c.in_ok-journal.journal one.0 one.1
    c.in_ok-journal.ensures c.journals.invariant

pub journals-preserved : goal.journals-preserved
journals-preserved c =
    let one = first_in c.journals.left.now (some_length c.journals.left.now (sym c.is_empty-in-journals.ensures ∙ c.if-is_empty.false)) in
    rw (c.in_ok-push.ensures.ok, c.nodes_behind-left.ensures)
    (goes_on c.args.program.now c.args.nodes.now c.args.bytes.now c.journals.left.now c.journals.rest.now c.in_ok-journal.after.now c.journals.journals c.in_ok-journal.journal one.0 one.1
    c.in_ok-journal.ensures c.journals.invariant)

pub returns : goal.returns
returns c =
    ended c.args.program.now c.args.nodes.now c.args.bytes.now c.journals.left.now c.journals.rest.now c.journals.journals c.journals.invariant
    (nil_from_length c.journals.rest.now (eqb-true _ _ (sym c.is_empty.ensures ∙ c.journals-test.false)))
