use Rattle.std.proofs.Common.{refl}
use Rattle.fab_base.specs.declared.token.Mark.TheVariants as m
use Rattle.fab_tree.specs.Print.{◌>>◌, space, mark}
use Rattle.fab_print.proofs.Added.{both, word, said}
use Rattle.fab_print.proofs.statement.put_downgrade.Goals as goal

pub returns : goal.returns
returns c =
    both (said _ c.downgrade_text.ensures c.as_bytes.ensures.value c.in_ok-extend.ensures.ok)
    (both (word _ (mark m.LeftParen) c.in_ok-push.ensures.ok (λ _. refl))
    (both (c.in_ok-put_expression.ensures)
    (both (word _ (mark m.Comma >> space) c.in_ok-extend-2.ensures.ok (λ _. refl))
    (both (c.in_ok-put_name.ensures)
    (both (word _ (space >> mark m.To >> space) c.in_ok-extend-3.ensures.ok (λ _. refl))
    (both (c.in_ok-put_name-2.ensures)
    (word _ (mark m.RightParen) c.in_ok-push-2.ensures.ok (λ _. refl))))))))
