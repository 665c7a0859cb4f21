use Rattle.std.proofs.Common.{refl}
use Rattle.fab_base.specs.declared.token.Mark.TheVariants as m
use Rattle.fab_tree.specs.Print.{◌>>◌, space, line_end, mark, indent}
use Rattle.fab_print.proofs.Added.{both, word}
use Rattle.fab_print.proofs.run.RootPrint.print.Goals as goal

pub returns : goal.returns
returns c =
    both (word _ (indent 1 >> mark m.Root >> space) c.in_ok-extend.ensures.ok (λ _. refl))
    (both (c.in_ok-put_name.ensures)
    (both (word _ (space >> mark m.Colon >> space) c.in_ok-extend-2.ensures.ok (λ _. refl))
    (both (c.in_ok-put_name-2.ensures)
    (both (word _ (space >> mark m.At >> space) c.in_ok-extend-3.ensures.ok (λ _. refl))
    (both (c.in_ok-put_name-3.ensures)
    (both (word _ (space) c.in_ok-push.ensures.ok (λ _. refl))
    (both (rw c.as_slice.ensures at c.in_ok-print_in_brackets.ensures)
    (word _ (mark m.Semicolon >> line_end) c.in_ok-extend-4.ensures.ok (λ _. refl)))))))))
