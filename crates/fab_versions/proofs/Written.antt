-- Rows with versions: what is found at a place.
use Rattle.std.proofs.Common.{◌≡◌, ℕ, true, get_or, Some, IsSome, is_some, sym, ◌∙◌, ap}
use Rattle.std.proofs.lemmas.Bool.{false≢true}
use Rattle.fab_base.specs.declared.object.Oid.{Oid}
use Rattle.fab_protocol.specs.Tables.{row_of, ascends}
use Rattle.fab_protocol.specs.Versions.{Row, Rows, name_of}
use Rattle.fab_versions.specs.Places.{IsAt, IsGap}
use Rattle.fab_versions.proofs.Found.{row_at, row_in_gap}

-- d is the row at a place
module _ (rows : Rows) (h : ascends name_of rows ≡ true) (o : Oid) (i : ℕ) (at : IsAt name_of rows o i) (d : Row) (e : d ≡ get_or rows i d) where
  pub found_at : row_of name_of rows o ≡ Some (o, d.1, d.2)
  found_at = row_at name_of rows h o i at d ∙ ap Some (sym e ∙ ap (λ n. (n, d.1, d.2)) (ap (λ r. r.0) e ∙ at.name_here d))

-- a name that is there has no place to go to
pub not_in_gap : (rows : Rows) (o : Oid) (i : ℕ) → IsGap name_of rows o i → IsSome (row_of name_of rows o) → ⊥
not_in_gap rows o i gap there = false≢true (ap is_some (sym (row_in_gap name_of rows o i gap)) ∙ there)
