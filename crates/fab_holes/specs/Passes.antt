-- Masks of what lies below holes, as what flows is gone through: bit l of the mask of a hole stands for the declared label l.
use Rattle.std.specs.Prelude.{ℕ, zero, suc, ◌-◌, ◌^◌, nat_lt, if◌then◌else◌, List, [], ◌∷◌, bit_or, IsBitSet}
use Rattle.fab_tree.specs.declared.resolved.Resolved.{Resolved}
use Rattle.fab_holes.specs.Least.{LiesBelow}

-- the mask of the hole of a number, 0 where there is none
abbrev pub mask_at : List ℕ → ℕ → ℕ
mask_at [] h = 0
mask_at (m ∷ ms) zero = m
mask_at (m ∷ ms) (suc h) = mask_at ms h

-- these labels, too, for the hole of this number
abbrev pub with_more : List ℕ → ℕ → ℕ → List ℕ
with_more [] h more = []
with_more (m ∷ ms) zero more = bit_or m more ∷ ms
with_more (m ∷ ms) (suc h) more = m ∷ with_more ms h more

-- with so many declared labels
module _ (n : ℕ) where
  -- a declared label itself, and what is known to lie below a hole
  abbrev pub mask_of : List ℕ → ℕ → ℕ
  mask_of ms l = if nat_lt l n then 2 ^ l else mask_at ms (l - n)

  -- the first label flows to the second, which gains by it if it is a hole
  abbrev pub put : List ℕ → ℕ × ℕ → List ℕ
  put ms p = if nat_lt p.1 n then ms else with_more ms (p.1 - n) (mask_of ms p.0)

  abbrev pub put_all : List ℕ → List (ℕ × ℕ) → List ℕ
  put_all ms [] = ms
  put_all ms (p ∷ ps) = put_all (put ms p) ps

-- no hole's mask has more than lies below it
abbrev pub HasNoMore : Resolved → List ℕ → Type 0
HasNoMore r masks = (h l : ℕ) → IsBitSet (mask_at masks h) l → LiesBelow r l h
