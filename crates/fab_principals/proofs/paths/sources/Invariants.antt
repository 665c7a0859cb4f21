use Rattle.std.proofs.Common.{ℕ, ◌<◌, ◌↔◌, IsTrue, slice_index}
use Rattle.fab_principals.specs.Sets.{in_set, Meets}
use Rattle.fab_principals.proofs.paths.sources.Given as goal

abbrev pub invariant-loop-p : goal.invariant-loop-p
invariant-loop-p l = (p : ℕ) → IsTrue (in_set l.found p) ↔ ((p < l.p) × Meets (slice_index l.rows p) l.set)
