use Rattle.std.proofs.Common.{◌≡◌, ◌++◌, List, map, length}
use Rattle.fab_base.specs.declared.token.Mark.{Mark}
use Rattle.fab_base.specs.Tokens.{mark_text}
use Rattle.fab_tree.specs.Print.{Ink, text_of, each_behind}
use Rattle.fab_print.proofs.list.print_each_behind.Given as goal

abbrev pub invariant-others : goal.invariant-others
invariant-others g l = (x : Mark) → mark_text x ≡ l.between → (more : List Ink) → l.out ++ text_of (each_behind x (map g.T.Print.inks l.rest) more) ≡ l.fn.out ++ text_of (each_behind x (map g.T.Print.inks l.items) more)

abbrev pub decreases-others : goal.decreases-others
decreases-others g l = length l.rest
