use Rattle.std.proofs.Common.{◌≡◌, ◌+◌, ◌++◌, [], take, drop}
use Rattle.fab_marks.specs.Marks.{marks}
use Rattle.fab_marks.proofs.marks.put_marks.Given as goal

abbrev pub invariant-loop-index : goal.invariant-loop-index
invariant-loop-index l =
    l.out ++ marks l.start l.set l.past (take l.index l.drawn) (l.index + 1) (drop l.index l.drawn)
    ≡ l.fn.out ++ marks l.start l.set l.past [] 1 l.drawn
