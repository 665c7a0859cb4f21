use Rattle.std.proofs.Common.{◌≡◌, find, drop}
use Rattle.fab_tree.specs.Limits.{passes}
use Rattle.fab_bundle.proofs.limits.first_of.Given as goal

abbrev pub invariant-loop-what : goal.invariant-loop-what
invariant-loop-what l = find (passes l.start) l.order ≡ find (passes l.start) (drop l.what-index l.order)
