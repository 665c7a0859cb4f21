use Rattle.std.proofs.Common.{ℕ, ◌<◌, IsBitSet}
use Rattle.fab_base.specs.Principals.{ActsFor}
use Rattle.fab_labels.proofs.policies.has_authority.Given as goal

abbrev pub invariant-loop-o : goal.invariant-loop-o
invariant-loop-o l = (k : ℕ) → k < l.o → IsBitSet l.set k → ¬ ActsFor l.acts k l.owner
