-- Tables: rows that each have an object's name, in the order of names.
use Rattle.std.specs.Prelude.{Bool, true, IsFalse, ◌&&◌, if◌then◌else◌, List, [], ◌∷◌, Option, fold}
use Rattle.std.specs.List.{find}
use Rattle.fab_base.specs.declared.object.Oid.{Oid}
use Rattle.fab_base.specs.FlatMap.{is_before, is_same, is_among}

-- the first row of this name
abbrev pub row_of : {R : Type 0} → (R → Oid) → List R → Oid → Option R
row_of name rows o = find (λ r. is_same (name r) o) rows

-- the rows with this one in the place of the one of its name, or beside the others
abbrev pub placed : {R : Type 0} → (R → Oid) → R → List R → List R
placed name r [] = r ∷ []
placed name r (x ∷ xs) =
    if is_before (name r) (name x) then r ∷ x ∷ xs
    else (if is_before (name x) (name r) then x ∷ placed name r xs else r ∷ xs)

-- these rows placed one after the other
abbrev pub placed_all : {R : Type 0} → (R → Oid) → List R → List R → List R
placed_all name rs rows = fold (λ xs r. placed name r xs) rows rs

-- each name once, in the order of names
abbrev pub ascends : {R : Type 0} → (R → Oid) → List R → Bool
ascends name [] = true
ascends name (x ∷ []) = true
ascends name (x ∷ y ∷ rows) = is_before (name x) (name y) && ascends name (y ∷ rows)

-- no name stands twice among these
abbrev pub OnlyOnce : List Oid → Type 0
OnlyOnce [] = Unit {0}
OnlyOnce (o ∷ os) = IsFalse (is_among o os) × OnlyOnce os
