-- What masks come to as what flows is followed from hole to hole.
use Rattle.std.specs.Prelude.{◌≡◌, ℕ, zero, suc, ◌+◌, ◌-◌, ◌<◌, ◌==◌, ◌&&◌, not, nat_lt, if◌then◌else◌, Bool, false, List, [], ◌∷◌, ◌++◌, length, bit_or, IsBitSet}
use Rattle.std.specs.List.{flat_map}
use Rattle.fab_base.specs.Principals.{Leads}
use Rattle.fab_holes.specs.Passes.{mask_at, put_all, with_more}

-- the holes to which the hole of this number flows, of so many declared labels
abbrev pub target_of : ℕ → ℕ → ℕ × ℕ → List ℕ
target_of n h p = if not (nat_lt p.0 n) && (p.0 - n == h) then (p.1 - n) ∷ [] else []

abbrev pub targets_of : ℕ → ℕ → List (ℕ × ℕ) → List ℕ
targets_of n h = flat_map (target_of n h)

-- the list of a number, and none where there is no such list
abbrev pub list_at : List (List ℕ) → ℕ → List ℕ
list_at [] h = []
list_at (xs ∷ lists) zero = xs
list_at (xs ∷ lists) (suc h) = list_at lists h

-- whether these labels add to the mask of the hole of a number
abbrev pub is_gain : List ℕ → ℕ → ℕ → Bool
is_gain [] h more = false
is_gain (mask ∷ masks) zero more = not (bit_or mask more == mask)
is_gain (mask ∷ masks) (suc h) more = is_gain masks h more

-- These labels go on to each of these holes in turn; those that gain by it wait behind the others.
abbrev pub spread : ℕ → List ℕ → List ℕ → List ℕ → List ℕ × List ℕ
spread more masks waiting [] = (masks, waiting)
spread more masks waiting (h ∷ hs) = spread more (with_more masks h more) (waiting ++ (if is_gain masks h more then h ∷ [] else [])) hs

-- a mask for each hole; each of these flows leaves them as they are; and to each hole there leads a chain of flows from each label of its mask
pub record AreClosed (n holes : ℕ) (flows : List (ℕ × ℕ)) (masks : List ℕ) : Type 0 where
  pub many : length masks ≡ holes
  pub closed : put_all n masks flows ≡ masks
  pub led : (h l : ℕ) → IsBitSet (mask_at masks h) l → (l < n) × ((way : List ℕ) × Leads flows l way (n + h))
