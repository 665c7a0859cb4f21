use Rattle.std.proofs.Common.{ℕ, ◌<◌, IsBitSet, true, false}
use Rattle.fab_places.proofs.masks.mask_of.Given as goal

abbrev pub invariant-loop-k : goal.invariant-loop-k
invariant-loop-k g l = record {
  callable : goal.F-IsAlwaysCallable g l.test;
  set : (k : ℕ) → IsBitSet l.mask k → (k < l.k) × goal.F-post g l.test k true;
  clear : (k : ℕ) → k < l.k → ¬ IsBitSet l.mask k → goal.F-post g l.test k false;
}
