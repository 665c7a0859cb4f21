-- What a set of nodes can't have influenced of a bundle.
use Rattle.std.specs.Prelude.{◌≡◌, ◌↔◌, ℕ, ◌<◌, Bool, false, IsTrue, length, Some, None, slice_get}
use Rattle.fab_tree.specs.declared.resolved.Class.{Class}
use Rattle.fab_tree.specs.declared.resolved.Resolved.{Resolved}
use Rattle.fab_language.specs.Flows.{delegations_of}
use Rattle.fab_labelling.specs.Readers.{Excludes, label_at}

-- the declared labels that exclude each node of the set, and the classes by their labels
pub record IsTrustedBy (r : Resolved) (nodes : ℕ) (trusts keeps : ℕ → Bool) : Type 0 where
  pub labels : (l : ℕ) → IsTrue (trusts l) ↔ ((l < length r.labels) × Excludes r (delegations_of r) nodes (label_at r l))
  pub classes : (n : ℕ) (class : Class) → slice_get r.classes n ≡ Some class → keeps n ≡ trusts class.label.number
  pub absent : (n : ℕ) → slice_get r.classes n ≡ None → keeps n ≡ false
