-- The first refusal so far, as what is owed is gone through.
use Rattle.std.specs.Prelude.{Bool, ◌&&◌, ◌||◌, ◌==◌, nat_lt, if◌then◌else◌, List, [], ◌∷◌, Option, Some, None}
use Rattle.fab_tree.specs.declared.resolved.Resolved.{Resolved}
use Rattle.fab_labelling.specs.declared.rule.Refusal.{Refusal}
use Rattle.fab_labelling.specs.Obligations.{Owed}
use Rattle.fab_labelling.specs.Refusals.{rank, told}
use Rattle.fab_authority.specs.Decided.{decided}

-- the one comes before the other: by its place, and at one place by its rule
abbrev pub is_sooner : Refusal → Refusal → Bool
is_sooner x y = nat_lt x.at y.at || ((x.at == y.at) && nat_lt (rank x.rule) (rank y.rule))

-- the first of the refusal so far and this one; of two at one place under one rule the one so far
abbrev pub sooner : Option Refusal → Refusal → Option Refusal
sooner None x = Some x
sooner (Some y) x = if is_sooner x y then Some x else Some y

-- the first of the refusal so far and of what doesn't hold of these
abbrev pub noted : Resolved → Option Refusal → List Owed → Option Refusal
noted r first [] = first
noted r first (x ∷ xs) = noted r (if decided r x.claim then first else sooner first (told r x)) xs

-- a bundle, and the first refusal so far
pub record Noting : Type 0 where
  pub start : Resolved
  pub first : Option Refusal

-- behind one more refusal
abbrev pub with_refusal : Refusal → Noting → Noting
with_refusal x n = record n { first = sooner n.first x }

-- behind these
unfoldable pub all_noted : Noting → List Owed → Noting
all_noted n xs = record n { first = noted n.start n.first xs }
