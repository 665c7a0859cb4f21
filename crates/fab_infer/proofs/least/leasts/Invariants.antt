use Rattle.std.proofs.Common.{◌≡◌, length}
use Rattle.fab_tree.specs.declared.resolved.Resolved.{Resolved}
use Rattle.fab_holes.specs.Least.{AreLeast}
use Rattle.fab_infer.specs.Masks.{AreBelow, IsTable}
use Rattle.fab_infer.proofs.least.leasts.Given as goal

abbrev pub invariant-loop-mask : goal.invariant-loop-mask
invariant-loop-mask l = record {
  many : length l.choice ≡ l.mask-index;
  least : (r : Resolved) → IsTable r l.rows → AreBelow r 0 l.below → AreLeast r 0 l.choice;
}
