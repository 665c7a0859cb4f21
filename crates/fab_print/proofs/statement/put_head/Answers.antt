use Rattle.std.proofs.Common.{◌++◌, refl, ap}
use Rattle.fab_base.specs.declared.token.Mark.TheVariants as m
use Rattle.fab_tree.specs.Print.{text_of, ◌>>◌, space, mark}
use Rattle.fab_print.proofs.Added.{both, word}
use Rattle.fab_print.proofs.statement.put_head.Goals as goal

pub returns : goal.returns
returns c x e = both (word _ (mark x) c.in_ok-extend.ensures.ok (λ more. ap (λ z. z ++ text_of more) e)) (both (word _ (space >> mark m.LeftParen) c.in_ok-extend-2.ensures.ok (λ _. refl)) (both (c.in_ok-put_expression.ensures) (word _ (mark m.RightParen >> space) c.in_ok-extend-3.ensures.ok (λ _. refl))))
