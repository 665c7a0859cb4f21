-- What a set of nodes sees of a bundle.
use Rattle.std.specs.Prelude.{◌≡◌, ◌↔◌, ℕ, ◌<◌, Bool, false, IsTrue, [], length, Some, None, slice_get}
use Rattle.fab_base.specs.declared.object.Tid.{Tid}
use Rattle.fab_base.specs.FlatMap.{FlatMap, ascends}
use Rattle.fab_tree.specs.declared.start.Start.{Start}
use Rattle.fab_tree.specs.declared.resolved.Class.{Class}
use Rattle.fab_tree.specs.declared.resolved.Request.{Request}
use Rattle.fab_tree.specs.declared.resolved.Resolved.{Resolved}
use Rattle.fab_tree.specs.Limits.{first_passed}
use Rattle.fab_language.specs.Faults.{faults}
use Rattle.fab_language.specs.Flows.{delegations_of}
use Rattle.fab_language.specs.Meaning.{meaning}
use Rattle.fab_language.specs.Numbers.{resolved}
use Rattle.fab_labelling.specs.Claims.{IsWellLabelled}
use Rattle.fab_labelling.specs.Readers.{IsVisible, label_at}
use Rattle.fab_laws.specs.Shapes.{IsFitting, AreShaped}
use Rattle.fab_erasure.specs.Erased.{erased}
use Rattle.fab_erasure.specs.Agreement.{Agrees, rows_shown, given_by}

-- the declared labels that some node of the set may read, and the classes by their labels
pub record IsSeenBy (r : Resolved) (nodes : ℕ) (sees shows : ℕ → Bool) : Type 0 where
  pub labels : (l : ℕ) → IsTrue (sees l) ↔ ((l < length r.labels) × IsVisible r (delegations_of r) nodes (label_at r l))
  pub classes : (n : ℕ) (class : Class) → slice_get r.classes n ≡ Some class → shows n ≡ sees class.label.number
  pub absent : (n : ℕ) → slice_get r.classes n ≡ None → shows n ≡ false

-- of an accepted bundle and a set of nodes, what is done and what the erased meaning gives agree in what the set may read
abbrev pub BundlesAgree : Type 0
BundlesAgree =
    (s : Start) (nodes : ℕ) (sees shows : ℕ → Bool) → first_passed s ≡ None → faults s ≡ [] → IsWellLabelled (resolved s)
    → IsSeenBy (resolved s) nodes sees shows → (known : FlatMap) (request : Request) (tid : Tid) (fuel : ℕ)
    → IsTrue (ascends known) → AreShaped (resolved s).classes known → IsFitting (resolved s) request
    → let r = resolved s in
    let full = meaning r known request tid fuel in
    Agrees sees shows r request full (erased sees shows r (rows_shown sees shows r known) request tid fuel (given_by sees shows r full))
