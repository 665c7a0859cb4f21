use Rattle.std.proofs.Common.{ℕ, ◌<◌, ◌-◌, ◌^◌, ◌↔◌, IsTrue, length, slice_index}
use Rattle.fab_principals.specs.Sets.{in_set}
use Rattle.fab_principals.specs.Tables.{IsNear}
use Rattle.fab_principals.proofs.paths.rings.Given as goal

abbrev pub invariant-loop-wider : goal.invariant-loop-wider
invariant-loop-wider l = record {
  ring : (j x : ℕ) → j < length l.rings.items → IsTrue (in_set (slice_index l.rings.items j) x) ↔ IsNear l.rows l.q j x;
  far : (j : ℕ) → j < length l.rings.items → ¬ IsNear l.rows l.q j l.p;
  newest : (x : ℕ) → IsTrue (in_set l.near x) ↔ IsNear l.rows l.q (length l.rings.items) x;
  fits : l.near < 2 ^ 64;
}

abbrev pub decreases-loop-wider : goal.decreases-loop-wider
decreases-loop-wider l = 2 ^ 64 - l.near
