use Rattle.std.proofs.Common.{refl}
use Rattle.fab_base.specs.declared.token.Mark.TheVariants as m
use Rattle.fab_tree.specs.Print.{◌>>◌, line_end, mark}
use Rattle.fab_print.proofs.Added.{both, word}
use Rattle.fab_print.proofs.statement.put_fail.Goals as goal

pub returns : goal.returns
returns c = both (c.in_ok-put_indent.ensures) (word _ (mark m.Fail >> mark m.Semicolon >> line_end) c.in_ok-extend.ensures.ok (λ _. refl))
