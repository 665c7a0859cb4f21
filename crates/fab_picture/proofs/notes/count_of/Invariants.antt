use Rattle.std.proofs.Common.{◌≡◌, ◌≤◌, ◌==◌, count_by, take}
use Rattle.fab_picture.proofs.notes.count_of.Given as goal

abbrev pub invariant-loop-foot : goal.invariant-loop-foot
invariant-loop-foot l = record {
  count : l.count ≡ count_by (λ y. y.node == l.node) (take l.foot-index l.feet);
  few : l.count ≤ l.foot-index;
}
