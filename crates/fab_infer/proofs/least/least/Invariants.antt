use Rattle.std.proofs.Common.{ℕ, ◌<◌}
use Rattle.fab_tree.specs.declared.resolved.Resolved.{Resolved}
use Rattle.fab_holes.specs.Least.{IsLowest}
use Rattle.fab_infer.specs.Masks.{IsBelow, IsTable}
use Rattle.fab_infer.proofs.least.least.Given as goal

-- none of the labels so far is lowest
abbrev pub invariant-loop-k : goal.invariant-loop-k
invariant-loop-k l = (r : Resolved) (h : ℕ) → IsTable r l.rows → IsBelow r h l.below → (j : ℕ) → j < l.k → ¬ IsLowest r h j
