use Rattle.std.proofs.Common.{refl}
use Rattle.fab_base.specs.declared.token.Mark.TheVariants as m
use Rattle.fab_tree.specs.Print.{◌>>◌, space, line_end, mark}
use Rattle.fab_print.proofs.Added.{both, word, margin}
use Rattle.fab_print.proofs.program.MethodPrint.print.Goals as goal

pub returns : goal.returns
returns c =
    margin
    (both (word _ (mark m.Method >> space) c.in_ok-extend.ensures.ok (λ _. refl))
    (both (c.in_ok-put_name.ensures)
    (both (rw c.as_slice.ensures at c.in_ok-print_in_brackets.ensures)
    (both (word _ (space) c.in_ok-push.ensures.ok (λ _. refl))
    (both (c.in_ok-put_returns.ensures)
    (both (word _ (mark m.Begin >> space) c.in_ok-extend-2.ensures.ok (λ _. refl))
    (both (c.in_ok-put_name-2.ensures)
    (both (c.in_ok-put_fails.ensures)
    (both (rw c.as_slice-2.ensures at c.in_ok-put_authority.ensures)
    (both (word _ (space >> mark m.LeftBrace >> line_end) c.in_ok-extend-3.ensures.ok (λ _. refl))
    (both (rw c.as_slice-3.ensures at c.in_ok-put_statements.ensures)
    (both (c.in_ok-put_result.ensures)
    (word _ (mark m.RightBrace >> line_end) c.in_ok-extend-4.ensures.ok (λ _. refl))))))))))))))
