use Rattle.std.proofs.Common.{◌≡◌, take, false}
use Rattle.std.specs.List.{list_any}
use Rattle.fab_nested.proofs.names.is_one_of.Given as goal

abbrev pub invariant-loop-other : goal.invariant-loop-other
invariant-loop-other g l = list_any (g.T.PartialEq.eq l.name) (take l.other-index l.others) ≡ false
