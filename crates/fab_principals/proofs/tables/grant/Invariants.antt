use Rattle.std.proofs.Common.{◌≡◌, ℕ, ◌<◌, ◌≤◌, ◌||◌, ◌&&◌, slice_index}
use Rattle.fab_principals.specs.Sets.{in_set}
use Rattle.fab_principals.proofs.tables.grant.Given as goal

abbrev pub invariant-loop-row : goal.invariant-loop-row
invariant-loop-row l = record {
  passed : (p : ℕ) → p < l.row-index → (q : ℕ) → in_set (slice_index l.rows p) q ≡ (in_set (slice_index l.initial.rows p) q || (in_set (slice_index l.initial.rows p) l.a && in_set l.gained q));
  ahead : (p : ℕ) → l.row-index ≤ p → slice_index l.rows p ≡ slice_index l.initial.rows p;
}
