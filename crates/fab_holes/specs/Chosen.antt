-- Labels that are put for the holes of methods in turn, and the places of these.
--
-- A hole is a local whose label has a number behind those of the declared labels.
use Rattle.std.specs.Prelude.{ℕ, not, nat_lt, if◌then◌else◌, List, [], ◌∷◌, map, filter, length}
use Rattle.std.specs.List.{flat_map}
use Rattle.fab_tree.specs.declared.resolved.Local.{Local}
use Rattle.fab_tree.specs.declared.resolved.Method.{Method}
use Rattle.fab_tree.specs.declared.resolved.Resolved.{Resolved}
use Rattle.fab_holes.specs.Open.{with_label}

module _ (count : ℕ) where
  -- a local with the first of the labels if it is a hole, and the labels that are left
  abbrev pub put_first : Local → List ℕ → Local × List ℕ
  put_first x [] = (x, [])
  put_first x (l ∷ ls) = if nat_lt x.label.number count then (x, l ∷ ls) else (with_label l x, ls)

  abbrev pub put_locals : List Local → List ℕ → List Local × List ℕ
  put_locals [] ls = ([], ls)
  put_locals (x ∷ xs) ls = let a = put_first x ls in let b = put_locals xs a.1 in (a.0 ∷ b.0, b.1)

  abbrev pub put_method : Method → List ℕ → Method × List ℕ
  put_method m ls = let a = put_locals m.locals ls in (record m { locals = a.0 }, a.1)

  abbrev pub put_methods : List Method → List ℕ → List Method × List ℕ
  put_methods [] ls = ([], ls)
  put_methods (m ∷ ms) ls = let a = put_method m ls in let b = put_methods ms a.1 in (a.0 ∷ b.0, b.1)

  -- the places of holes
  abbrev pub places_in : List Local → List ℕ
  places_in xs = map (λ x. x.label.at) (filter (λ x. not (nat_lt x.label.number count)) xs)

abbrev pub places_of : Resolved → List ℕ
places_of r = flat_map (λ m. places_in (length r.labels) m.locals) r.methods

-- the bundle with these labels for its holes in turn
abbrev pub with_chosen : Resolved → List ℕ → Resolved
with_chosen r ls = record r { methods = (put_methods (length r.labels) r.methods ls).0 }
