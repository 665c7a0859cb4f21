-- What a table has: the rows of its blocks, and those beside them.
use Rattle.std.proofs.Common.{◌≡◌, false, IsTrue, IsSome, IfSome, [], ◌++◌, Option, Some, None, option_to_list, is_some, refl, sym, subst, ap, ◌∙◌}
use Rattle.std.specs.Option.{option_or}
use Rattle.std.proofs.lemmas.Bool.{false≢true}
use Rattle.fab_base.specs.declared.object.Oid.{Oid}
use Rattle.fab_protocol.specs.Tables.{row_of, placed, placed_all, ascends}
use Rattle.fab_protocol.specs.Versions.{Row, Rows, name_of}
use Rattle.fab_versions.specs.Holdings.{rows_of}
use Rattle.fab_versions.proofs.Merged.{ascends_front, last_alone, last_placed, merged_row, placed_again, put_beside, put_among}

none_from : (found : Option Row) → is_some found ≡ false → found ≡ None
none_from None h = refl
none_from (Some row) h = cc

-- ---- the last row of a list

module _ (old new whole : Rows) (h : IsTrue (ascends name_of old)) (is : old ≡ whole) where
  pub front_ascends : (r : Option Row) → old ≡ new ++ option_to_list r → IsTrue (ascends name_of new)
  front_ascends r e = ascends_front name_of new (option_to_list r) (subst (λ l. IsTrue (ascends name_of l)) e h)

  pub last_row : (r : Option Row) → old ≡ new ++ option_to_list r → IfSome r (λ row. whole ≡ placed name_of row new)
  last_row None e = tt
  last_row (Some row) e = sym is ∙ e ∙ last_placed name_of new row (subst (λ l. IsTrue (ascends name_of l)) e h)

  pub no_other : (r : Option Row) → old ≡ new ++ option_to_list r → IfSome r (λ row. row_of name_of new row.0 ≡ None)
  no_other None e = tt
  no_other (Some row) e = last_alone name_of new row (subst (λ l. IsTrue (ascends name_of l)) e h)

-- ---- blocks and a list

module _ (rows beside : Rows) (h : IsTrue (ascends name_of beside)) where
  -- ---- what is found

  pub found_beside : (o : Oid) (row : Row) → row_of name_of beside o ≡ Some row → row_of name_of (rows_of rows beside) o ≡ Some row
  found_beside o row e = merged_row name_of beside rows o h ∙ ap (λ s. option_or s (row_of name_of rows o)) e

  -- a name that isn't there beside the blocks is as the blocks have it
  pub past_beside : (o : Oid) → row_of name_of beside o ≡ None → row_of name_of (rows_of rows beside) o ≡ row_of name_of rows o
  past_beside o none = merged_row name_of beside rows o h ∙ ap (λ s. option_or s (row_of name_of rows o)) none

  pub not_there : (o : Oid) → is_some (row_of name_of beside o) ≡ false → row_of name_of rows o ≡ None
      → IsSome (row_of name_of (rows_of rows beside) o) → ⊥
  not_there o absent missing there = false≢true (ap is_some (sym (past_beside o (none_from (row_of name_of beside o) absent) ∙ missing)) ∙ there)

  -- ---- what is put

  module _ (g : IsTrue (ascends name_of rows)) (row : Row) where
    pub goes_beside : (new : Rows) → new ≡ placed name_of row beside → rows_of rows new ≡ placed name_of row (rows_of rows beside)
    goes_beside new e = ap (rows_of rows) e ∙ put_beside name_of row beside rows h g

    pub goes_in_blocks : (new : Rows) → is_some (row_of name_of beside (name_of row)) ≡ false → new ≡ placed name_of row rows
        → rows_of new beside ≡ placed name_of row (rows_of rows beside)
    goes_in_blocks new absent e =
        ap (placed_all name_of beside) e
        ∙ put_among name_of row beside rows h g (none_from (row_of name_of beside (name_of row)) absent)

-- ---- a list alone

module _ (rows beside : Rows) (h : IsTrue (ascends name_of beside)) (none : rows ≡ []) where
  pub list_alone : rows_of rows beside ≡ beside
  list_alone = ap (λ l. rows_of l beside) none ∙ placed_again name_of beside h

  pub put_alone : (new : Rows) (row : Row) → new ≡ placed name_of row beside → rows_of rows new ≡ placed name_of row (rows_of rows beside)
  put_alone new row e = goes_beside rows beside h (subst (λ l. IsTrue (ascends name_of l)) (sym none) refl) row new e

  pub there_alone : (o : Oid) → IsSome (row_of name_of (rows_of rows beside) o) → IsSome (row_of name_of beside o)
  there_alone o there = ap (λ l. is_some (row_of name_of l o)) (sym list_alone) ∙ there

-- ---- a row goes from the list into the blocks

pub moved : (rows new before after : Rows) (row : Row) → IsTrue (ascends name_of rows) → IsTrue (ascends name_of after)
    → before ≡ placed name_of row after → row_of name_of after row.0 ≡ None → new ≡ placed name_of row rows
    → rows_of new after ≡ rows_of rows before
moved rows new before after row g h was none is =
    ap (placed_all name_of after) is
    ∙ put_among name_of row after rows h g none
    ∙ sym (put_beside name_of row after rows h g)
    ∙ ap (rows_of rows) (sym was)
