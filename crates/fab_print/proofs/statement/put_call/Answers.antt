use Rattle.std.proofs.Common.{refl}
use Rattle.fab_base.specs.declared.token.Mark.TheVariants as m
use Rattle.fab_tree.specs.Print.{◌>>◌, line_end, mark}
use Rattle.fab_print.proofs.Added.{both, word}
use Rattle.fab_print.proofs.statement.put_call.Goals as goal

pub returns : goal.returns
returns c = both (c.in_ok-put_indent.ensures) (both (c.in_ok-put_name.ensures) (both (rw c.as_slice.ensures at c.in_ok-put_arguments.ensures) (word _ (mark m.Semicolon >> line_end) c.in_ok-extend.ensures.ok (λ _. refl))))
