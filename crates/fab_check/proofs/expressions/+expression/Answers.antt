use Rattle.std.proofs.Common.{◌++◌, List, sym, ap, ◌∙◌, refl, arith}
use Rattle.std.specs.List.{flat_map}
use Rattle.std.proofs.lemmas.Result.{on_ok_weaker}
use Rattle.fab_tree.specs.declared.resolved.Expression.{Expression}
use Rattle.fab_tree.specs.declared.resolved.Operand.{Operand, out-Operand}
use Rattle.fab_labelling.specs.Obligations.{division}
use Rattle.fab_check.specs.Noted.{all_noted}
use Rattle.fab_check.specs.Shown.{labels_of, owes_of}
use Rattle.fab_check.proofs.Forms.{chain_owes, compared_owes, tail_owed, number_owes}
use Rattle.fab_check.proofs.Parts.{in_two, in_none, one_more, at_end}
use Rattle.fab_check.proofs.expressions.+expression.Goals as goal

pub note_expression-returns-in_ok-note_expression-in-Chain :
    goal.note_expression-returns-in_ok-note_expression-in-Chain
note_expression-returns-in_ok-note_expression-in-Chain t c =
    let n = c.args.names.now in
    let u = c.args.under.now in
    on_ok_weaker c.note_operands.result
    (in_two c.args.verdicts.now c.note_expression-in-Chain.new.verdicts c.note_operands.new.verdicts (owes_of n u c.in-Chain.first) (flat_map (tail_owed n u) c.as_slice.result.now) (owes_of n u c.args.expression.now)
    (chain_owes n.classes.now n.locals.now c.args.expression.now c.in-Chain.first c.in-Chain.others u.pc.now u.failure c.in-Chain.is ∙ ap (λ (us : List Operand). owes_of n u c.in-Chain.first ++ flat_map (tail_owed n u) us) (sym c.as_slice.ensures))
    (c.in_ok-note_expression-in-Chain.ensures ∙ ap (λ (e : Expression). all_noted c.args.verdicts.now (owes_of n u e)) c.get-in-Chain.ensures))
    c.note_operands.ensures

pub note_expression-returns-in_ok-note_expression-in-Compared :
    goal.note_expression-returns-in_ok-note_expression-in-Compared
note_expression-returns-in_ok-note_expression-in-Compared t c =
    let n = c.args.names.now in
    let u = c.args.under.now in
    on_ok_weaker c.note_expression-in-Compared-2.result
    (in_two c.args.verdicts.now c.note_expression-in-Compared.new.verdicts c.note_expression-in-Compared-2.new.verdicts (owes_of n u c.in-Compared.left) (owes_of n u c.get-in-Compared-2.result.now) (owes_of n u c.args.expression.now)
    (compared_owes n.classes.now n.locals.now c.args.expression.now c.in-Compared.left c.in-Compared.right c.in-Compared.comparison u.pc.now u.failure c.in-Compared.is ∙ ap (λ (e : Expression). owes_of n u c.in-Compared.left ++ owes_of n u e) (sym c.get-in-Compared-2.ensures))
    (c.in_ok-note_expression-in-Compared.ensures ∙ ap (λ (e : Expression). all_noted c.args.verdicts.now (owes_of n u e)) c.get-in-Compared.ensures))
    c.note_expression-in-Compared-2.ensures

pub note_operands-loop-other-preserved : goal.note_operands-loop-other-preserved
note_operands-loop-other-preserved t c =
    let n = c.args.names.now in
    let u = c.args.under.now in
    let o = out-Operand c.other-item.result in
    one_more (flat_map (tail_owed n u)) (tail_owed n u) (λ _ _. refl) c.loop-other.verdicts c.note_division.new.verdicts (all_noted c.args.verdicts.now (flat_map (tail_owed n u) c.args.others.now)) c.args.others.now c.loop-other.other-index c.other-item.result
    c.loop-other-test.true c.other-item.is
    (in_two c.loop-other.verdicts c.note_expression.new.verdicts c.note_division.new.verdicts (owes_of n u o.operand) (division o.operator o.at (u.pc.now ++ labels_of n o.operand) u.failure) (tail_owed n u c.other-item.result) refl c.in_ok-note_expression.ensures c.in_ok-note_division.ensures)
    c.loop-other.invariant

pub note_operands-returns : goal.note_operands-returns
note_operands-returns t c =
    let n = c.args.names.now in
    let u = c.args.under.now in
    at_end (flat_map (tail_owed n u)) c.loop-other.verdicts (all_noted c.args.verdicts.now (flat_map (tail_owed n u) c.args.others.now)) c.args.others.now c.loop-other.other-index refl
    (omega arith) c.loop-other.invariant

pub note_expression-returns-in-Number : goal.note_expression-returns-in-Number
note_expression-returns-in-Number t c =
    let n = c.args.names.now in
    let u = c.args.under.now in
    sym (in_none c.args.verdicts.now) ∙ ap (all_noted c.args.verdicts.now) (sym (number_owes n.classes.now n.locals.now c.args.expression.now u.pc.now u.failure c.in-Number.is))

pub note_expression-returns-in-Number-2 : goal.note_expression-returns-in-Number-2
note_expression-returns-in-Number-2 t c =
    let n = c.args.names.now in
    let u = c.args.under.now in
    sym (in_none c.args.verdicts.now) ∙ ap (all_noted c.args.verdicts.now) (sym (number_owes n.classes.now n.locals.now c.args.expression.now u.pc.now u.failure c.in-Number.is))

pub note_expression-returns-in-Number-3 : goal.note_expression-returns-in-Number-3
note_expression-returns-in-Number-3 t c =
    let n = c.args.names.now in
    let u = c.args.under.now in
    sym (in_none c.args.verdicts.now) ∙ ap (all_noted c.args.verdicts.now) (sym (number_owes n.classes.now n.locals.now c.args.expression.now u.pc.now u.failure c.in-Number.is))
