use Rattle.std.proofs.Common.{◌*◌, ◌<◌, [], ◌∷◌, Some, arith, refl, ap, ◌∙◌}
use Rattle.std.proofs.lemmas.Result.{on_ok_weaker}
use Rattle.fab_tree.specs.declared.resolved.Statement.TheVariants as kinds
use Rattle.fab_labelling.specs.declared.rule.LabelRule.TheVariants.{Atomic}
use Rattle.fab_labelling.specs.Obligations.{all_flow, under}
use Rattle.fab_check.specs.Noted.{all_noted}
use Rattle.fab_check.specs.Shown.{block_owes, labels_of, owes_of, statement_owes}
use Rattle.fab_check.proofs.Blocks.{atomic_owes, if_owes, same_block, while_owes, with_both, with_one}
use Rattle.fab_check.proofs.Parts.{at_end, in_three, in_two, one_more}
use Rattle.fab_check.proofs.Weights.{weight, weight_within}
use Rattle.fab_check.proofs.statements.+block.Goals as goal

pub note_block-loop-statement-preserved : goal.note_block-loop-statement-preserved
note_block-loop-statement-preserved t c =
    let s = c.args.scope.now in
    let u = c.args.under.now in
    one_more (block_owes s u.pc.now u.failure) (statement_owes s u) (λ _ _. refl) c.loop-statement.verdicts c.note_statement.new.verdicts (all_noted c.args.verdicts.now (block_owes s u.pc.now u.failure c.args.statements.now)) c.args.statements.now c.loop-statement.statement-index c.statement-item.result
    c.loop-statement-test.true c.statement-item.is c.in_ok-note_statement.ensures c.loop-statement.invariant

pub note_block-note_statement-requires : goal.note_block-note_statement-requires
note_block-note_statement-requires t c =
    let w = weight_within c.args.statements.now c.loop-statement.statement-index c.statement-item.result c.loop-statement-test.true c.statement-item.is in
    let h : 3 * weight c.statement-item.result < t = omega (arith, w, c.decreases) in
    (h, tt)

pub note_block-returns : goal.note_block-returns
note_block-returns t c =
    let s = c.args.scope.now in
    let u = c.args.under.now in
    at_end (block_owes s u.pc.now u.failure) c.loop-statement.verdicts (all_noted c.args.verdicts.now (block_owes s u.pc.now u.failure c.args.statements.now)) c.args.statements.now c.loop-statement.statement-index refl (omega arith) c.loop-statement.invariant

pub note_choice-returns : goal.note_choice-returns
note_choice-returns t c =
    let s = c.args.scope.now in
    let u = c.args.under.now in
    let e = c.args.condition.now in
    let inner = c.of-inner.result in
    let pc = under u.pc.now (labels_of s.names e) in
    let is_pc = c.of-inner.ensures.pc ∙ c.in_ok-pc.ensures.inside in
    let first = c.as_slice.result.now in
    let second = c.as_slice-2.result.now in
    on_ok_weaker c.note_block-2.result
    (in_three c.args.verdicts.now c.note_condition.new.verdicts c.note_block.new.verdicts c.note_block-2.new.verdicts (owes_of s.names u e) (block_owes s inner.pc.now inner.failure first) (block_owes s inner.pc.now inner.failure second) (statement_owes s u (kinds.If c.args.condition.now c.args.block.now c.args.otherwise.now))
    (with_both (statement_owes s u (kinds.If c.args.condition.now c.args.block.now c.args.otherwise.now)) (owes_of s.names u e) (block_owes s inner.pc.now inner.failure first) (block_owes s inner.pc.now inner.failure second) (block_owes s pc u.failure c.args.block.now) (block_owes s pc u.failure c.args.otherwise.now)
    (if_owes s u e c.args.block.now c.args.otherwise.now)
    (same_block s inner pc u.failure first c.args.block.now is_pc c.of-inner.ensures.failure c.as_slice.ensures)
    (same_block s inner pc u.failure second c.args.otherwise.now is_pc c.of-inner.ensures.failure c.as_slice-2.ensures))
    c.in_ok-pc.ensures.owes c.in_ok-note_block.ensures)
    c.note_block-2.ensures

pub note_loop-returns : goal.note_loop-returns
note_loop-returns t c =
    let s = c.args.scope.now in
    let u = c.args.under.now in
    let e = c.args.condition.now in
    let inner = c.of-inner.result in
    let pc = under u.pc.now (labels_of s.names e) in
    let first = c.as_slice.result.now in
    on_ok_weaker c.note_block.result
    (in_two c.args.verdicts.now c.note_condition.new.verdicts c.note_block.new.verdicts (owes_of s.names u e) (block_owes s inner.pc.now inner.failure first) (statement_owes s u (kinds.While c.args.condition.now c.args.block.now))
    (with_one (statement_owes s u (kinds.While c.args.condition.now c.args.block.now)) (owes_of s.names u e) (block_owes s inner.pc.now inner.failure first) (block_owes s pc u.failure c.args.block.now)
    (while_owes s u e c.args.block.now)
    (same_block s inner pc u.failure first c.args.block.now (c.of-inner.ensures.pc ∙ c.in_ok-pc.ensures.inside) c.of-inner.ensures.failure c.as_slice.ensures))
    c.in_ok-pc.ensures.owes)
    c.note_block.ensures

pub note_atomic-returns : goal.note_atomic-returns
note_atomic-returns t c =
    let s = c.args.scope.now in
    let u = c.args.under.now in
    let l = c.args.label in
    let caught = c.of-inner.result in
    let inner = c.of-behind.result in
    let pc = under u.pc.now (l.number ∷ []) in
    let first = c.as_slice.result.now in
    let second = c.as_slice-2.result.now in
    on_ok_weaker c.note_block-2.result
    (in_three c.args.verdicts.now c.note_attempt.new.verdicts c.note_block.new.verdicts c.note_block-2.new.verdicts (all_flow Atomic c.args.at u.pc.now l.number) (block_owes s caught.pc.now caught.failure first) (block_owes s inner.pc.now inner.failure second) (statement_owes s u (kinds.Atomic c.args.label c.args.block.now c.args.otherwise.now c.args.at))
    (with_both (statement_owes s u (kinds.Atomic c.args.label c.args.block.now c.args.otherwise.now c.args.at)) (all_flow Atomic c.args.at u.pc.now l.number) (block_owes s caught.pc.now caught.failure first) (block_owes s inner.pc.now inner.failure second) (block_owes s pc (Some l.number) c.args.block.now) (block_owes s pc u.failure c.args.otherwise.now)
    (atomic_owes s u l c.args.block.now c.args.otherwise.now c.args.at)
    (same_block s caught pc (Some l.number) first c.args.block.now (c.of-inner.ensures.pc ∙ c.in_ok-pc.ensures.inside) c.of-inner.ensures.failure c.as_slice.ensures)
    (same_block s inner pc u.failure second c.args.otherwise.now (c.of-behind.ensures.pc ∙ c.in_ok-pc.ensures.inside) c.of-behind.ensures.failure c.as_slice-2.ensures))
    c.in_ok-pc.ensures.owes c.in_ok-note_block.ensures)
    c.note_block-2.ensures
