-- What is got at a place of a list, with more behind it.
use Rattle.std.proofs.Common.{◌≡◌, ◌⊎◌, inl, inr, ℕ, zero, suc, List, [], ◌∷◌, ◌++◌, length, Option, Some, None, refl, ap}
use Rattle.std.specs.Prelude.{slice_get}
use Rattle.fab_world.specs.Machine.{option_list}

-- what stands at a place stands there still
pub slot_left : {A : Type 0} (xs ys : List A) (k : ℕ) (x : A) → slice_get xs k ≡ Some x → slice_get (xs ++ ys) k ≡ Some x
slot_left [] ys k x h = let no : None ≡ Some x = h in cc
slot_left (z ∷ zs) ys zero x h = h
slot_left (z ∷ zs) ys (suc k) x h = slot_left zs ys k x h

-- what comes next stands at the place that is the length
pub slot_next : {A : Type 0} (xs : List A) (x : A) → slice_get (xs ++ x ∷ []) (length xs) ≡ Some x
slot_next [] x = refl
slot_next (z ∷ zs) x = slot_next zs x

-- with one more at most, what stands at a place stood there, or is that one
pub slot_from : {A : Type 0} (xs : List A) (k : ℕ) (x : A) (more : Option A) → slice_get (xs ++ option_list more) k ≡ Some x
    → (slice_get xs k ≡ Some x) ⊎ ((k ≡ length xs) × (more ≡ Some x))
slot_from [] zero x None h = let no : None ≡ Some x = h in cc
slot_from [] (suc k) x None h = let no : None ≡ Some x = h in cc
slot_from [] zero x (Some y) h = inr (refl, h)
slot_from [] (suc k) x (Some y) h = let no : None ≡ Some x = h in cc
slot_from (z ∷ zs) zero x more h = inl h
slot_from (z ∷ zs) (suc k) x more h = elim (slot_from zs k x more h) [
  | inl old ↦ inl old
  | inr new ↦ inr (ap suc new.0, new.1)
]
