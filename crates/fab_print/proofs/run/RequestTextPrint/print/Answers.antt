use Rattle.std.proofs.Common.{refl}
use Rattle.fab_base.specs.declared.token.Mark.TheVariants as m
use Rattle.fab_tree.specs.Print.{◌>>◌, line_end, mark, indent}
use Rattle.fab_print.proofs.Added.{both, word}
use Rattle.fab_print.proofs.run.RequestTextPrint.print.Goals as goal

pub returns : goal.returns
returns c = both (word _ (indent 2) c.in_ok-extend.ensures.ok (λ _. refl)) (both (c.in_ok-put_name.ensures) (both (rw c.as_slice.ensures at c.in_ok-print_in_brackets.ensures) (word _ (mark m.Semicolon >> line_end) c.in_ok-extend-2.ensures.ok (λ _. refl))))
