use Rattle.std.proofs.Common.{refl}
use Rattle.fab_base.specs.declared.token.Mark.TheVariants as m
use Rattle.fab_tree.specs.Print.{◌>>◌, space, line_end, mark}
use Rattle.fab_print.proofs.Added.{both, word, margin}
use Rattle.fab_print.proofs.declaration.ClassPrint.print.Goals as goal

pub returns : goal.returns
returns c =
    margin
    (both (word _ (mark m.Class >> space) c.in_ok-extend.ensures.ok (λ _. refl))
    (both (c.in_ok-put_name.ensures)
    (both (word _ (space >> mark m.Label >> space) c.in_ok-extend-2.ensures.ok (λ _. refl))
    (both (c.in_ok-put_name-2.ensures)
    (both (word _ (space >> mark m.Access >> space) c.in_ok-extend-3.ensures.ok (λ _. refl))
    (both (c.in_ok-put_name-3.ensures)
    (both (word _ (space >> mark m.LeftBrace >> space) c.in_ok-extend-4.ensures.ok (λ _. refl))
    (both (rw c.as_slice.ensures at c.in_ok-print_all.ensures)
    (word _ (mark m.RightBrace >> line_end) c.in_ok-extend-5.ensures.ok (λ _. refl))))))))))
