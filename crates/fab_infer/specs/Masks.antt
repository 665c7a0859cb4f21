-- What masks say of labels: bit l of a mask stands for label l.
use Rattle.std.specs.Prelude.{◌≡◌, ◌↔◌, ◌==◌, ℕ, suc, ◌<◌, Bool, false, List, [], ◌∷◌, length, Option, Some, None, slice_get, bit_and, IsBitSet}
use Rattle.fab_tree.specs.declared.resolved.Resolved.{Resolved}
use Rattle.fab_holes.specs.Least.{count, LiesBelow, Goes, IsLeast, AreLeast}
use Rattle.fab_infer.specs.declared.rows.Row.{Row}

-- each label of the mask is among those that flow to the one with this row, if there is one
abbrev pub fits_row : ℕ → Option Row → Bool
fits_row mask None = false
fits_row mask (Some row) = bit_and mask row.below == mask

-- the label of this number is one to which each of the mask flows
abbrev pub fits_in : List Row → ℕ → ℕ → Bool
fits_in rows mask k = fits_row mask (slice_get rows k)

module _ (r : Resolved) where
  -- the labels that lie below the hole of this number
  abbrev pub IsBelow : ℕ → ℕ → Type 0
  IsBelow h mask = (l : ℕ) → IsBitSet mask l ↔ LiesBelow r l h

  -- the same of this hole and those behind it, in turn
  abbrev pub AreBelow : ℕ → List ℕ → Type 0
  AreBelow h [] = Unit {0}
  AreBelow h (mask ∷ masks) = IsBelow h mask × AreBelow (suc h) masks

  -- the labels that flow to the one of this number, and those to which it flows
  pub record IsRow (k : ℕ) (row : Row) : Type 0 where
    pub below : (l : ℕ) → IsBitSet row.below l ↔ ((l < count r) × Goes r l k)
    pub above : (l : ℕ) → IsBitSet row.above l ↔ ((l < count r) × Goes r k l)

  -- the same of this label and those behind it, in turn
  abbrev pub AreRows : ℕ → List Row → Type 0
  AreRows k [] = Unit {0}
  AreRows k (row ∷ rows) = IsRow k row × AreRows (suc k) rows

  -- a row for each label
  pub record IsTable (rows : List Row) : Type 0 where
    pub many : length rows ≡ count r
    pub each : AreRows 0 rows

  -- the hole of this number is the first that has no least label: those before it have these
  pub record IsWithout (hole : ℕ) : Type 0 where
    pub before : List ℕ
    pub least : AreLeast r 0 before
    pub many : length before ≡ hole
    pub none : (k : ℕ) → IsLeast r hole k → ⊥
