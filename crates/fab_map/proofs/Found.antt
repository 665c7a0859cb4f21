-- What a search among ascending rows finds, and what is read or written there.
use Rattle.std.proofs.Common.{◌≡◌, ℕ, zero, suc, ◌+◌, ◌<◌, true, [], ◌∷◌, length, get_or, set, Some, None, Result, Ok, Err, IfOk, IfErr, refl, sym, ◌∙◌, ap, subst, add-one, arith}
use Rattle.std.specs.List.{insert}
use Rattle.std.specs.List.Sorted.{IsSearchInRange, IsBinarySearchResult, IsSortedBy}
use Rattle.std.specs.Ordering.{is_lt, is_eq}
use Rattle.std.proofs.lemmas.List.Sorted.{searchable_from_sorted}
use Rattle.fab_base.specs.declared.object.Oid.{Oid}
use Rattle.fab_base.specs.declared.object.Object.{Object}
use Rattle.fab_base.specs.FlatMap.{is_before, is_same, FlatMap, get, put, ascends}
use Rattle.fab_map.specs.Places.{IsAt, IsGap}
use Rattle.fab_base.proofs.Names.{same_self}
use Rattle.fab_base.proofs.NameOrder.{name_cmp, name_cmp_total, derived_cmp, derived_is, before_is, same_is, one_name, not_back, differ, differ_back, before_from_less, before_from_greater}
use Rattle.fab_map.proofs.Rows.{get_here, get_past, put_before, put_behind, put_over, leads, leads_from, ascends_leads, ascends_rest}

-- each row is before the next
pub adjacent : (rows : FlatMap) → ascends rows ≡ true → (k : ℕ) (d : Oid × Object) → suc k < length rows → is_before (get_or rows k d).0 (get_or rows (suc k) d).0 ≡ true
adjacent [] h k d lt = absurd (omega arith)
adjacent (row ∷ []) h k d lt = absurd (omega arith)
adjacent (row ∷ next ∷ rows) h zero d lt = ascends_leads row (next ∷ rows) h
adjacent (row ∷ next ∷ rows) h (suc k) d lt = adjacent (next ∷ rows) (ascends_rest row (next ∷ rows) h) k d (omega arith)

-- as a sort leaves them
pub sorted_from_ascends : (rows : FlatMap) → ascends rows ≡ true → IsSortedBy (λ a b. is_lt (name_cmp a.0 b.0)) rows
sorted_from_ascends rows h k d low lt =
    let next : is_before (get_or rows k d).0 (get_or rows (k + 1) d).0 ≡ true = rw add-one (adjacent rows h k d (omega arith)) in
    sym (before_is (get_or rows (k + 1) d).0 (get_or rows k d).0) ∙ not_back (get_or rows k d).0 (get_or rows (k + 1) d).0 next

-- a name that leads is before each
pub leads_all : (o : Oid) (rows : FlatMap) → ascends rows ≡ true → leads o rows ≡ true → (k : ℕ) (d : Oid × Object) → k < length rows → is_before o (get_or rows k d).0 ≡ true
leads_all o [] h l k d lt = absurd (omega arith)
leads_all o (row ∷ rows) h l zero d lt = l
leads_all o (row ∷ rows) h l (suc k) d lt = leads_all o rows (ascends_rest row rows h) (leads_from o row.0 rows l (ascends_leads row rows h)) k d (omega arith)

-- what a binary search by name answers
pub placed : (rows : FlatMap) → ascends rows ≡ true → (o : Oid) (r : Result ℕ ℕ) → IsSearchInRange r (length rows) → IsBinarySearchResult (λ row. name_cmp row.0 o) rows r → record { found : IfOk r (IsAt rows o); absent : IfErr r (IsGap rows o) }
placed rows h o (Ok at) bound equal = record {
  found = record { in_range = bound; name = λ d. one_name (get_or rows at d).0 o (same_is (get_or rows at d).0 o ∙ ap is_eq (equal d)) };
  absent = tt;
}
placed rows h o (Err at) bound parted =
    let parts = parted (searchable_from_sorted name_cmp_total (λ row. row.0) rows o (sorted_from_ascends rows h)) in
    record {
      found = tt;
      absent = record {
        in_range = bound;
        before = λ k d low lt. before_from_less (get_or rows k d).0 o (parts.0 k d low lt);
        behind = λ k d low lt. before_from_greater (get_or rows k d).0 o (parts.1 k d low lt);
      };
    }

-- the same of the derived comparison
pub placed_by_derived : (rows : FlatMap) → ascends rows ≡ true → (o : Oid) (r : Result ℕ ℕ) → IsSearchInRange r (length rows) → IsBinarySearchResult (λ row. derived_cmp row.0 o) rows r → record { found : IfOk r (IsAt rows o); absent : IfErr r (IsGap rows o) }
placed_by_derived rows h o r bound by = placed rows h o r bound (subst (λ R. IsBinarySearchResult (λ row. R row.0 o) rows r) {y = name_cmp} (λ i p q. derived_is p q i) by)

-- ---- a name that is there
pub at_tail : (row : Oid × Object) (rows : FlatMap) (o : Oid) (i : ℕ) → IsAt (row ∷ rows) o (suc i) → IsAt rows o i
at_tail row rows o i at = record { in_range = omega (arith, at.in_range); name = at.name }

-- the first row is before one behind it
pub first_before : (row : Oid × Object) (rows : FlatMap) (o : Oid) (i : ℕ) → ascends (row ∷ rows) ≡ true → IsAt (row ∷ rows) o (suc i) → is_before row.0 o ≡ true
first_before row rows o i h at =
    ap (is_before row.0) (sym (at.name row))
    ∙ leads_all row.0 rows (ascends_rest row rows h) (ascends_leads row rows h) i row (omega (arith, at.in_range))

pub get_at : (rows : FlatMap) → ascends rows ≡ true → (o : Oid) (i : ℕ) → IsAt rows o i → (d : Oid × Object) → get rows o ≡ Some (get_or rows i d).1
get_at [] h o i at d = absurd (omega (arith, at.in_range))
get_at (row ∷ rows) h o zero at d = get_here row rows o (ap (λ n. is_same n o) (at.name row) ∙ same_self o)
get_at (row ∷ rows) h o (suc i) at d =
    get_past row rows o (differ row.0 o (first_before row rows o i h at))
    ∙ get_at rows (ascends_rest row rows h) o i (at_tail row rows o i at) d

pub put_at : (rows : FlatMap) → ascends rows ≡ true → (o : Oid) (i : ℕ) → IsAt rows o i → (x : Object) → put o x rows ≡ set rows i (o, x)
put_at [] h o i at x = absurd (omega (arith, at.in_range))
put_at (row ∷ rows) h o zero at x = put_over o x row rows (at.name row)
put_at (row ∷ rows) h o (suc i) at x =
    put_behind o x row rows (first_before row rows o i h at)
    ∙ ap (λ l. row ∷ l) (put_at rows (ascends_rest row rows h) o i (at_tail row rows o i at) x)

-- ---- a name that is not there
gap_tail : (row : Oid × Object) (rows : FlatMap) (o : Oid) (i : ℕ) → IsGap (row ∷ rows) o (suc i) → IsGap rows o i
gap_tail row rows o i gap = record {
  in_range = omega (arith, gap.in_range);
  before = λ k d low lt. gap.before (suc k) d (omega arith) (omega arith);
  behind = λ k d low lt. gap.behind (suc k) d (omega arith) (omega arith);
}

gap_front : (row : Oid × Object) (rows : FlatMap) (o : Oid) → IsGap (row ∷ rows) o 0 → IsGap rows o 0
gap_front row rows o gap = record {
  in_range = omega arith;
  before = λ k d low lt. absurd (omega arith);
  behind = λ k d low lt. gap.behind (suc k) d (omega arith) (omega arith);
}

pub get_in_gap : (rows : FlatMap) (o : Oid) (i : ℕ) → IsGap rows o i → get rows o ≡ None
get_in_gap [] o i gap = refl
get_in_gap (row ∷ rows) o zero gap = get_past row rows o (differ_back o row.0 (gap.behind 0 row (omega arith) (omega arith))) ∙ get_in_gap rows o 0 (gap_front row rows o gap)
get_in_gap (row ∷ rows) o (suc i) gap = get_past row rows o (differ row.0 o (gap.before 0 row (omega arith) (omega arith))) ∙ get_in_gap rows o i (gap_tail row rows o i gap)

pub put_in_gap : (rows : FlatMap) (o : Oid) (i : ℕ) → IsGap rows o i → (x : Object) → put o x rows ≡ insert rows i (o, x)
put_in_gap [] o zero gap x = refl
put_in_gap [] o (suc i) gap x = absurd (omega (arith, gap.in_range))
put_in_gap (row ∷ rows) o zero gap x = put_before o x row rows (gap.behind 0 row (omega arith) (omega arith))
put_in_gap (row ∷ rows) o (suc i) gap x = put_behind o x row rows (gap.before 0 row (omega arith) (omega arith)) ∙ ap (λ l. row ∷ l) (put_in_gap rows o i (gap_tail row rows o i gap) x)
