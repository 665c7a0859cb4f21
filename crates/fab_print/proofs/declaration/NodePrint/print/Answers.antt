use Rattle.std.proofs.Common.{refl}
use Rattle.fab_base.specs.declared.token.Mark.TheVariants as m
use Rattle.fab_tree.specs.Print.{◌>>◌, space, line_end, mark}
use Rattle.fab_print.proofs.Added.{both, word, said, margin}
use Rattle.fab_print.proofs.declaration.NodePrint.print.Goals as goal

pub returns : goal.returns
returns c = margin (both (said _ c.role_text.ensures c.as_bytes.ensures.value c.in_ok-extend.ensures.ok) (both (word _ (space) c.in_ok-push.ensures.ok (λ _. refl)) (both (c.in_ok-put_name.ensures) (word _ (mark m.Semicolon >> line_end) c.in_ok-extend-2.ensures.ok (λ _. refl)))))
