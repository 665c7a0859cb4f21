use Rattle.std.proofs.Common.{refl, ap, ◌∙◌, arith, ◌+◌}
use Rattle.fab_base.specs.declared.token.Mark.TheVariants as m
use Rattle.fab_tree.specs.Print.{◌>>◌, space, line_end, mark, all}
use Rattle.fab_print.proofs.Added.{both, word, known, at_level_all}
use Rattle.fab_print.proofs.Stated.{without_other, with_other, atomic_with, one_more, passed}
use Rattle.fab_print.proofs.statement.+statement.Goals as goal

pub put_atomic-returns : goal.put_atomic-returns
put_atomic-returns t c = both (c.in_ok-put_indent.ensures) (both (word _ (mark m.Atomic >> space) c.in_ok-extend.ensures.ok (λ _. refl)) (both (c.in_ok-put_name.ensures) (both (word _ (space) c.in_ok-push.ensures.ok (λ _. refl)) (c.in_ok-put_block.ensures))))

pub put_block-returns : goal.put_block-returns
put_block-returns t c = both (word _ (mark m.LeftBrace >> line_end) c.in_ok-extend.ensures.ok (λ _. refl)) (both (known (ap all (at_level_all (c.args.level + 1) c.args.statements.now)) (rw c.in_ok-inner.ensures at c.in_ok-put_statements.ensures)) (both (c.in_ok-put_indent.ensures) (word _ (mark m.RightBrace) c.in_ok-push.ensures.ok (λ _. refl))))

pub put_guarded-returns : goal.put_guarded-returns
put_guarded-returns t c x e = both (c.in_ok-put_indent.ensures) (both (c.in_ok-put_head.ensures x e) (c.in_ok-put_block.ensures))

pub put_statement-returns-in-None : goal.put_statement-returns-in-None
put_statement-returns-in-None t c = passed c.put_end.result (without_other c.args.statement.now _ _ c.in-If.otherwise c.args.level c.in-If.is c.in-None.is (rw c.as_slice.ensures at (c.in_ok-put_guarded-in-If.ensures m.If refl))) c.put_end.ensures

pub put_statement-returns-in-Some : goal.put_statement-returns-in-Some
put_statement-returns-in-Some t c = passed c.put_else.result (λ h. with_other c.args.statement.now _ _ c.in-If.otherwise c.in-Some.other c.args.level c.in-If.is c.in-Some.is (rw c.as_slice.ensures at (c.in_ok-put_guarded-in-If.ensures m.If refl)) (rw c.as_slice-in-Some.ensures at h)) c.put_else.ensures

pub put_statement-returns-in_ok-put_atomic-in-Atomic : goal.put_statement-returns-in_ok-put_atomic-in-Atomic
put_statement-returns-in_ok-put_atomic-in-Atomic t c = passed c.put_else-in-Atomic.result (λ h. atomic_with c.args.statement.now _ _ c.in-Atomic.otherwise _ c.args.level c.in-Atomic.is (rw c.as_slice-in-Atomic.ensures at c.in_ok-put_atomic-in-Atomic.ensures) (rw c.as_slice-in-Atomic-2.ensures at h)) c.put_else-in-Atomic.ensures

pub put_statements-statements-preserved : goal.put_statements-statements-preserved
put_statements-statements-preserved t c more = one_more c.args.level c.statements.statement-index c.args.statements.now c.statement-item.result (omega arith) c.statement-item.is c.in_ok-put_statement.ensures more ∙ c.statements.invariant more

pub put_loop-returns : goal.put_loop-returns
put_loop-returns t c = both (c.in_ok-put_guarded.ensures m.While refl) (c.in_ok-put_end.ensures)
