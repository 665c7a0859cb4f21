-- The erased meaning over fewer objects: it does the same until it lacks one.
use Rattle.std.specs.Prelude.{◌≡◌, ℕ, Bool, not, List, ◌∷◌, ◌++◌, None}
use Rattle.std.specs.List.{filter}
use Rattle.fab_base.specs.declared.object.Oid.{Oid}
use Rattle.fab_base.specs.declared.object.Tid.{Tid}
use Rattle.fab_base.specs.declared.object.Value.{Value}
use Rattle.fab_base.specs.FlatMap.{FlatMap, get, is_same}
use Rattle.fab_tree.specs.declared.resolved.Resolved.{Resolved}
use Rattle.fab_tree.specs.declared.resolved.Request.{Request}
use Rattle.fab_language.specs.Meaning.{meaning}
pub use Rattle.fab_laws.specs.Fewer.{AreKnown, KnowsTouched, LacksAt, LacksLast, IsOverFewer}
use Rattle.fab_laws.specs.Locality.{IsPart, AgreesOn, IsSameOver}
use Rattle.fab_erasure.specs.Erased.{erased}

-- of any labels and classes, program, request, attempt, fuel and given values, and any two maps of which the one is a part of the other
abbrev pub DoesOverFewer : Type 0
DoesOverFewer =
    (sees shows : ℕ → Bool) (r : Resolved) (request : Request) (tid : Tid) (fuel : ℕ) (given : List Value) (few many : FlatMap)
    → let over = λ (m : FlatMap). erased sees shows r m request tid fuel given in
    IsPart few many → IsOverFewer few many (over many) (over few)

-- a map without an object
abbrev pub less : Oid → FlatMap → FlatMap
less o rows = filter (λ row. not (is_same row.0 o)) rows

-- where it lacks an object, all that was done up to there is what is done over the many without it
abbrev pub DoesWithout : Type 0
DoesWithout =
    (sees shows : ℕ → Bool) (r : Resolved) (request : Request) (tid : Tid) (fuel : ℕ) (given : List Value) (few many : FlatMap)
    → let over = λ (m : FlatMap). erased sees shows r m request tid fuel given in
    IsPart few many → (before : List (ℕ × Oid)) (site : ℕ) (o : Oid) (after : List (ℕ × Oid)) → (over many).touches ≡ before ++ (site, o) ∷ after
    → AreKnown few before → get few o ≡ None → IsSameOver few (over (less o many)) (over few)

-- the meaning itself does the same over fewer
abbrev pub MeaningOverFewer : Type 0
MeaningOverFewer =
    (r : Resolved) (request : Request) (tid : Tid) (fuel : ℕ) (few many : FlatMap)
    → let over = λ (m : FlatMap). meaning r m request tid fuel in
    IsPart few many → IsOverFewer few many (over many) (over few)

-- two maps that agree on what was touched and lacked, neither a part of the other
abbrev pub DoesTheSame : Type 0
DoesTheSame =
    (sees shows : ℕ → Bool) (r : Resolved) (request : Request) (tid : Tid) (fuel : ℕ) (given : List Value) (this that : FlatMap)
    → let over = λ (m : FlatMap). erased sees shows r m request tid fuel given in
    AgreesOn this that (over this) → IsSameOver that (over this) (over that)

abbrev pub KnowsAllTouched : Type 0
KnowsAllTouched =
    (sees shows : ℕ → Bool) (r : Resolved) (known : FlatMap) (request : Request) (tid : Tid) (fuel : ℕ) (given : List Value)
    → KnowsTouched known (erased sees shows r known request tid fuel given)
