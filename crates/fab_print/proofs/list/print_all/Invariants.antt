use Rattle.std.proofs.Common.{◌≡◌, ◌++◌, List, map, length}
use Rattle.fab_tree.specs.Print.{Ink, text_of, all}
use Rattle.fab_print.proofs.list.print_all.Given as goal

abbrev pub invariant-items : goal.invariant-items
invariant-items g l = (more : List Ink) → l.out ++ text_of (all (map g.T.Print.inks l.rest) more) ≡ l.fn.out ++ text_of (all (map g.T.Print.inks l.items) more)

abbrev pub decreases-items : goal.decreases-items
decreases-items g l = length l.rest
