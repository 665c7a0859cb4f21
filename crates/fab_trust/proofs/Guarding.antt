-- The guards that are gone through, over the labels of sites at hand, are those of the program.
use Rattle.std.proofs.Common.{◌≡◌, ℕ, Bool, true, false, if◌then◌else◌, List, [], ◌∷◌, ◌++◌, map, refl, sym, ap, ◌∙◌, append-nil, append_assoc}
use Rattle.std.specs.Prelude.{slice_get, unwrap_or}
use Rattle.std.specs.List.{filter, flat_map}
use Rattle.fab_tree.specs.declared.resolved.Method.{Method}
use Rattle.fab_tree.specs.declared.resolved.Resolved.{Resolved}
use Rattle.fab_tree.specs.declared.resolved.Use.{Use}
use Rattle.fab_labelling.specs.Sites.{pcs_of}
use Rattle.fab_downgrades.specs.declared.rows.Downgraded.{Downgraded}
use Rattle.fab_trusted.specs.declared.rows.Guard.{Guard}
use Rattle.fab_downgrades.specs.Downgraded.{declassifies, downgraded_by}
use Rattle.fab_trusted.specs.Robust as robust
use Rattle.fab_trust.specs.Noted.{guards_at, kind_guards, method_guards, row_guards}

-- for each principal of an authority
at_each : (at l : ℕ) (authority : List Use) → guards_at at l authority ≡ map (λ (p : ℕ). record { at = at; source = l; principal = p }) (map (λ (x : Use). x.number) authority)
at_each at l [] = refl
at_each at l (x ∷ xs) = ap (λ (gs : List Guard). record { at = at; source = l; principal = x.number } ∷ gs) (at_each at l xs)

one_behind : {A B : Type 0} (f : A → List B) (xs : List A) (y : A) → flat_map f (xs ++ y ∷ []) ≡ flat_map f xs ++ f y
one_behind f [] y = append-nil (f y)
one_behind f (x ∷ xs) y = ap (λ l. f x ++ l) (one_behind f xs y) ∙ sym (append_assoc (f x) (flat_map f xs) (f y))

of_row : (r : Resolved) (authority : List Use) (d : Downgraded) → row_guards (pcs_of r) authority d ≡ robust.guards_of r (map (λ (x : Use). x.number) authority) d
of_row r authority d =
    let g : ℕ → List Guard = λ l. map (λ (p : ℕ). record { at = d.at; source = l; principal = p }) (map (λ (x : Use). x.number) authority) in
    let pc = unwrap_or (slice_get (pcs_of r) d.site) [] in
    (λ i. flat_map (λ (l : ℕ). at_each d.at l authority i) pc ++ at_each d.at d.from authority i) ∙ sym (one_behind g pc d.from)

of_rows : (r : Resolved) (authority : List Use) (ds : List Downgraded)
    → flat_map (kind_guards (pcs_of r) authority) ds ≡ flat_map (robust.guards_of r (map (λ (x : Use). x.number) authority)) (filter (λ (d : Downgraded). declassifies d.downgrade) ds)
of_rows r authority [] = refl
of_rows r authority (d ∷ ds) = by (declassifies d.downgrade) (of_rows r authority ds)
  where
    by : (b : Bool)
        → flat_map (kind_guards (pcs_of r) authority) ds ≡ flat_map (robust.guards_of r (map (λ (x : Use). x.number) authority)) (filter (λ (d : Downgraded). declassifies d.downgrade) ds)
        → (if b then row_guards (pcs_of r) authority d else []) ++ flat_map (kind_guards (pcs_of r) authority) ds
        ≡ flat_map (robust.guards_of r (map (λ (x : Use). x.number) authority))
        (if b then d ∷ filter (λ (d : Downgraded). declassifies d.downgrade) ds else filter (λ (d : Downgraded). declassifies d.downgrade) ds)
    by true h = λ i. of_row r authority d i ++ h i
    by false h = h

pub guards_are : (r : Resolved) → flat_map (method_guards (pcs_of r)) r.methods ≡ robust.guards r
guards_are r = ap (λ (f : Method → List Guard). flat_map f r.methods) (λ i m. of_rows r m.authority (downgraded_by m) i)
