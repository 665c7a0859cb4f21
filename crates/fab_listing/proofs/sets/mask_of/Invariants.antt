use Rattle.std.proofs.Common.{◌≡◌, ℕ, ◌<◌, ◌≤◌, false}
use Rattle.fab_rights.specs.Computed.{has_bit}
use Rattle.fab_listing.proofs.sets.mask_of.Given as goal

abbrev pub invariant-loop-k : goal.invariant-loop-k
invariant-loop-k g l = record {
  callable : goal.F-IsAlwaysCallable g l.test;
  tested : (k : ℕ) → k < l.k → goal.F-post g l.test k (has_bit l.mask k);
  others : (k : ℕ) → l.k ≤ k → has_bit l.mask k ≡ false;
}
