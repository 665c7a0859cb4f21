-- What a search among ascending rows finds, and what is read or written there.
use Rattle.std.proofs.Common.{◌≡◌, ℕ, zero, suc, ◌+◌, ◌<◌, true, List, [], ◌∷◌, length, get_or, set, Some, None, Result, Ok, Err, IfOk, IfErr, refl, sym, ◌∙◌, ap, subst, add-one, arith}
use Rattle.std.specs.List.{AllByRecursion, insert}
use Rattle.std.specs.List.Sorted.{IsSearchInRange, IsBinarySearchResult, IsSortedBy}
use Rattle.std.specs.Ordering.{is_lt, is_eq}
use Rattle.std.proofs.lemmas.List.Elements.{All-from_recursion}
use Rattle.std.proofs.lemmas.List.Sorted.{searchable_from_sorted}
use Rattle.fab_base.specs.declared.object.Oid.{Oid}
use Rattle.fab_base.specs.FlatMap.{is_before, is_same}
use Rattle.fab_base.proofs.Names.{same_self, same_flips}
use Rattle.fab_base.proofs.NameOrder.{name_cmp, name_cmp_total, derived_cmp, derived_is, before_is, same_is, before_from_less, before_from_greater, differ, not_back, before_trans, one_name}
use Rattle.fab_protocol.specs.Tables.{row_of, placed, ascends}
use Rattle.fab_protocol.proofs.TableLaws.{row_here, row_past, parted, leads_all, placed_before, placed_behind, placed_over}
use Rattle.fab_versions.specs.Places.{IsAt, IsGap}

module _ {R : Type 0} (name : R → Oid) where
  -- each row is before the next
  pub adjacent : (rows : List R) → ascends name rows ≡ true → (k : ℕ) (d : R) → suc k < length rows → is_before (name (get_or rows k d)) (name (get_or rows (suc k) d)) ≡ true
  adjacent [] h k d lt = absurd (omega arith)
  adjacent (row ∷ []) h k d lt = absurd (omega arith)
  adjacent (row ∷ next ∷ rows) h zero d lt = (parted name row (next ∷ rows) h).0
  adjacent (row ∷ next ∷ rows) h (suc k) d lt = adjacent (next ∷ rows) (parted name row (next ∷ rows) h).1 k d (omega arith)

  -- as a sort leaves them
  pub sorted_from_ascends : (rows : List R) → ascends name rows ≡ true → IsSortedBy (λ a b. is_lt (name_cmp (name a) (name b))) rows
  sorted_from_ascends rows h k d low lt =
      let next : is_before (name (get_or rows k d)) (name (get_or rows (k + 1) d)) ≡ true = rw add-one (adjacent rows h k d (omega arith)) in
      sym (before_is (name (get_or rows (k + 1) d)) (name (get_or rows k d))) ∙ not_back (name (get_or rows k d)) (name (get_or rows (k + 1) d)) next

  -- what a binary search by name answers
  pub searched : (rows : List R) → ascends name rows ≡ true → (o : Oid) (r : Result ℕ ℕ) → IsSearchInRange r (length rows) → IsBinarySearchResult (λ row. name_cmp (name row) o) rows r → record { found : IfOk r (IsAt name rows o); absent : IfErr r (IsGap name rows o) }
  searched rows h o (Ok at) bound equal = record {
    found = record { in_range = bound; name_here = λ d. one_name (name (get_or rows at d)) o (same_is (name (get_or rows at d)) o ∙ ap is_eq (equal d)) };
    absent = tt;
  }
  searched rows h o (Err at) bound divided =
      let parts = divided (searchable_from_sorted name_cmp_total name rows o (sorted_from_ascends rows h)) in
      record {
        found = tt;
        absent = record {
          in_range = bound;
          before = λ k d low lt. before_from_less (name (get_or rows k d)) o (parts.0 k d low lt);
          behind = λ k d low lt. before_from_greater (name (get_or rows k d)) o (parts.1 k d low lt);
        };
      }

  -- the same of the derived comparison
  pub searched_by_derived : (rows : List R) → ascends name rows ≡ true → (o : Oid) (r : Result ℕ ℕ) → IsSearchInRange r (length rows) → IsBinarySearchResult (λ row. derived_cmp (name row) o) rows r → record { found : IfOk r (IsAt name rows o); absent : IfErr r (IsGap name rows o) }
  searched_by_derived rows h o r bound by = searched rows h o r bound (subst (λ compare. IsBinarySearchResult (λ row. compare (name row) o) rows r) {y = name_cmp} (λ i p q. derived_is p q i) by)

  -- ---- a name that is there
  pub at_tail : (row : R) (rows : List R) (o : Oid) (i : ℕ) → IsAt name (row ∷ rows) o (suc i) → IsAt name rows o i
  at_tail row rows o i at = record { in_range = omega (arith, at.in_range); name_here = at.name_here }

  -- the first row is before one behind it
  pub first_before : (row : R) (rows : List R) (o : Oid) (i : ℕ) → ascends name (row ∷ rows) ≡ true → IsAt name (row ∷ rows) o (suc i) → is_before (name row) o ≡ true
  first_before row rows o i h at =
      let order = parted name row rows h in
      ap (is_before (name row)) (sym (at.name_here row))
      ∙ All-from_recursion (λ x. is_before (name row) (name x) ≡ true) rows (leads_all name (name row) rows order.0 order.1) i row (omega (arith, at.in_range))

  pub row_at : (rows : List R) → ascends name rows ≡ true → (o : Oid) (i : ℕ) → IsAt name rows o i → (d : R) → row_of name rows o ≡ Some (get_or rows i d)
  row_at [] h o i at d = absurd (omega (arith, at.in_range))
  row_at (row ∷ rows) h o zero at d = row_here name row rows o (ap (λ n. is_same n o) (at.name_here row) ∙ same_self o)
  row_at (row ∷ rows) h o (suc i) at d =
      row_past name row rows o (differ (name row) o (first_before row rows o i h at))
      ∙ row_at rows (parted name row rows h).1 o i (at_tail row rows o i at) d

  pub placed_at : (rows : List R) → ascends name rows ≡ true → (o : Oid) (i : ℕ) → IsAt name rows o i → (r : R) → name r ≡ o → placed name r rows ≡ set rows i r
  placed_at [] h o i at r e = absurd (omega (arith, at.in_range))
  placed_at (row ∷ rows) h o zero at r e = placed_over name r row rows (ap (λ n. is_same n (name r)) (at.name_here row ∙ sym e) ∙ same_self (name r))
  placed_at (row ∷ rows) h o (suc i) at r e =
      placed_behind name r (row ∷ []) rows (ap (is_before (name row)) e ∙ first_before row rows o i h at, tt)
      ∙ ap (λ l. row ∷ l) (placed_at rows (parted name row rows h).1 o i (at_tail row rows o i at) r e)

  -- ---- a name that is not there
  gap_tail : (row : R) (rows : List R) (o : Oid) (i : ℕ) → IsGap name (row ∷ rows) o (suc i) → IsGap name rows o i
  gap_tail row rows o i gap = record {
    in_range = omega (arith, gap.in_range);
    before = λ k d low lt. gap.before (suc k) d (omega arith) (omega arith);
    behind = λ k d low lt. gap.behind (suc k) d (omega arith) (omega arith);
  }

  gap_front : (row : R) (rows : List R) (o : Oid) → IsGap name (row ∷ rows) o 0 → IsGap name rows o 0
  gap_front row rows o gap = record {
    in_range = omega arith;
    before = λ k d low lt. absurd (omega arith);
    behind = λ k d low lt. gap.behind (suc k) d (omega arith) (omega arith);
  }

  pub row_in_gap : (rows : List R) (o : Oid) (i : ℕ) → IsGap name rows o i → row_of name rows o ≡ None
  row_in_gap [] o i gap = refl
  row_in_gap (row ∷ rows) o zero gap =
      row_past name row rows o (same_flips (name row) o ∙ differ o (name row) (gap.behind 0 row (omega arith) (omega arith)))
      ∙ row_in_gap rows o 0 (gap_front row rows o gap)
  row_in_gap (row ∷ rows) o (suc i) gap =
      row_past name row rows o (differ (name row) o (gap.before 0 row (omega arith) (omega arith))) ∙ row_in_gap rows o i (gap_tail row rows o i gap)

  pub placed_in_gap : (rows : List R) (o : Oid) (i : ℕ) → IsGap name rows o i → (r : R) → name r ≡ o → placed name r rows ≡ insert rows i r
  placed_in_gap [] o zero gap r e = refl
  placed_in_gap [] o (suc i) gap r e = absurd (omega (arith, gap.in_range))
  placed_in_gap (row ∷ rows) o zero gap r e = placed_before name r (row ∷ rows) (ap (λ n. is_before n (name row)) e ∙ gap.behind 0 row (omega arith) (omega arith))
  placed_in_gap (row ∷ rows) o (suc i) gap r e =
      placed_behind name r (row ∷ []) rows (ap (is_before (name row)) e ∙ gap.before 0 row (omega arith) (omega arith), tt)
      ∙ ap (λ l. row ∷ l) (placed_in_gap rows o i (gap_tail row rows o i gap) r e)

  -- ---- a name behind the last
  pub before_last : (rows : List R) → ascends name rows ≡ true → (o : Oid) (n : ℕ) (d : R) → n + 1 ≡ length rows → is_before (name (get_or rows n d)) o ≡ true
      → AllByRecursion (λ row. is_before (name row) o ≡ true) rows
  before_last [] h o n d e last = tt
  before_last (row ∷ []) h o zero d e last = (last, tt)
  before_last (row ∷ []) h o (suc n) d e last = absurd (omega (arith, e))
  before_last (row ∷ next ∷ rows) h o zero d e last = absurd (omega (arith, e))
  before_last (row ∷ next ∷ rows) h o (suc n) d e last =
      let order = parted name row (next ∷ rows) h in
      let rest = before_last (next ∷ rows) order.1 o n d (omega (arith, e)) last in
      (before_trans (name row) (name next) o order.0 rest.0, rest)

  pub gap_at_end : (rows : List R) (o : Oid) → AllByRecursion (λ row. is_before (name row) o ≡ true) rows → IsGap name rows o (length rows)
  gap_at_end rows o h = record {
    in_range = omega arith;
    before = λ k d low lt. All-from_recursion (λ x. is_before (name x) o ≡ true) rows h k d lt;
    behind = λ k d low lt. absurd (omega (arith, low, lt));
  }
