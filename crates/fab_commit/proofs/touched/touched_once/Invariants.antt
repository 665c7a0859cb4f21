use Rattle.std.proofs.Common.{◌≡◌, take}
use Rattle.fab_language.specs.Heaps.{touched}
use Rattle.fab_commit.proofs.touched.touched_once.Given as goal

abbrev pub invariant-loop-touch : goal.invariant-loop-touch
invariant-loop-touch l = l.names.keys ≡ touched (take l.touch-index l.touches)
