-- That rows of distinct names, once sorted, are what putting them into a map one by one gives.
use Rattle.std.proofs.Common.{◌≡◌, ℕ, suc, ◌+◌, ◌<◌, Bool, true, false, [], ◌∷◌, length, get_or, Option, Some, None, if◌then◌else◌, refl, sym, ◌∙◌, ap, inl, inr, add-one, arith}
use Rattle.std.specs.List.{IsDistinct, AllByRecursion}
use Rattle.std.specs.List.Sorted.{IsPermutation, IsSortedBy}
use Rattle.std.specs.Map.{keys_of, lookup}
use Rattle.std.specs.Ordering.{is_lt}
use Rattle.std.proofs.lemmas.List.Sorted.{IsPermutation-sym, IsPermutation-map, Contains-permutation}
use Rattle.std.proofs.lemmas.Map.Keys.{IsDistinct-head, IsDistinct-tail, IsDistinct-IsPermutation}
use Rattle.std.proofs.lemmas.Map.Views.{Contains-from_lookup, lookup-from_Contains}
use Rattle.fab_base.specs.declared.object.Oid.{Oid}
use Rattle.fab_base.specs.declared.object.Object.{Object}
use Rattle.fab_base.specs.FlatMap.{is_before, is_same, FlatMap, get, put, put_all, map_of, ascends}
use Rattle.fab_base.proofs.Names.{same_self, same_flips, same_is_equivalence}
use Rattle.fab_base.proofs.NameOrder.{name_cmp, derived_cmp, derived_is, before_is, one_name, cases_name, differ}
use Rattle.fab_map.proofs.Rows.{get_here, get_past, leads, leads_from, ascends_leads, ascends_rest, ascends_cons, ascends-put_all, get-put_same, get-put_other, same_from_get}

-- ---- sorted rows of distinct names ascend
before_next : (o p : Oid) → is_same o p ≡ false → is_lt (name_cmp p o) ≡ false → is_before o p ≡ true
before_next o p apart h = elim (cases_name o p) [
  | inl before ↦ before
  | inr (inl same) ↦ let no : true ≡ false = sym (ap (is_same o) (sym same) ∙ same_self o) ∙ apart in cc
  | inr (inr behind) ↦ let no : true ≡ false = sym behind ∙ before_is p o ∙ h in cc
]

ascends_from_steps : (rows : FlatMap) → IsDistinct is_same (keys_of rows) → ((k : ℕ) (d : Oid × Object) → suc k < length rows → is_lt (name_cmp (get_or rows (suc k) d).0 (get_or rows k d).0) ≡ false) → ascends rows ≡ true
ascends_from_steps [] apart h = refl
ascends_from_steps (row ∷ []) apart h = refl
ascends_from_steps (row ∷ next ∷ rows) apart h =
    ascends_cons row (next ∷ rows)
    (before_next row.0 next.0 (IsDistinct-head is_same row.0 (keys_of (next ∷ rows)) apart).0 (h 0 row (omega arith)))
    (ascends_from_steps (next ∷ rows) (IsDistinct-tail is_same row.0 (keys_of (next ∷ rows)) apart) (λ k d lt. h (suc k) d (omega arith)))

pub ascends_from_sorted : (rows : FlatMap) → IsDistinct is_same (keys_of rows) → IsSortedBy (λ a b. is_lt (name_cmp a.0 b.0)) rows → ascends rows ≡ true
ascends_from_sorted rows apart sorted = ascends_from_steps rows apart (λ k d lt. rw add-one at (sorted k d (omega arith) (omega arith)))

-- ---- what a map of rows gets
-- the first that is there
abbrev pub first_of : Option Object → Option Object → Option Object
first_of None w = w
first_of (Some x) w = Some x

first_of-none : (v : Option Object) → first_of v None ≡ v
first_of-none None = refl
first_of-none (Some x) = refl

get_apart : (rows : FlatMap) (o : Oid) → AllByRecursion (λ p. is_same o p ≡ false) (keys_of rows) → get rows o ≡ None
get_apart [] o apart = refl
get_apart (row ∷ rows) o apart = get_past row rows o (same_flips row.0 o ∙ apart.0) ∙ get_apart rows o apart.1

pub get-put_all : (rows m : FlatMap) (q : Oid) → IsDistinct is_same (keys_of rows) → get (put_all rows m) q ≡ first_of (get rows q) (get m q)
get-put_all [] m q apart = refl
get-put_all (row ∷ rows) m q apart = get-put_all rows (put row.0 row.1 m) q (IsDistinct-tail is_same row.0 (keys_of rows) apart) ∙ step (is_same row.0 q) refl
  where
    step : (b : Bool) → is_same row.0 q ≡ b → first_of (get rows q) (get (put row.0 row.1 m) q) ≡ first_of (get (row ∷ rows) q) (get m q)
    step true h =
        let name : row.0 ≡ q = one_name row.0 q h in
        let none : get rows q ≡ None = ap (get rows) (sym name) ∙ get_apart rows row.0 (IsDistinct-head is_same row.0 (keys_of rows) apart) in
        let here : get (put row.0 row.1 m) q ≡ Some row.1 = ap (get (put row.0 row.1 m)) (sym name) ∙ get-put_same row.0 row.1 m in
        ap (λ v. first_of v (get (put row.0 row.1 m) q)) none ∙ here ∙ sym (ap (λ v. first_of v (get m q)) (get_here row rows q h))
    step false h = ap (first_of (get rows q)) (get-put_other row.0 q row.1 m h) ∙ ap (λ v. first_of v (get m q)) (sym (get_past row rows q h))

pub get-map_of : (rows : FlatMap) (q : Oid) → IsDistinct is_same (keys_of rows) → get (map_of rows) q ≡ get rows q
get-map_of rows q apart = get-put_all rows [] q apart ∙ first_of-none (get rows q)

-- ---- what rows in another order get
get_lookup : (rows : FlatMap) (q : Oid) → get rows q ≡ lookup (is_same q) rows
get_lookup [] q = refl
get_lookup (row ∷ rows) q = λ i. if same_flips row.0 q i then Some row.1 else get_lookup rows q i

get_kept : (xs ys : FlatMap) → IsPermutation xs ys → IsDistinct is_same (keys_of ys) → (q : Oid) (v : Object) → get xs q ≡ Some v → get ys q ≡ Some v
get_kept xs ys moved apart q v h =
    get_lookup ys q
    ∙ lookup-from_Contains same_is_equivalence q v ys apart
    (Contains-permutation xs ys (q, v) moved (Contains-from_lookup one_name q v xs (sym (get_lookup xs q) ∙ h)))

same_options : (a b : Option Object) → ((v : Object) → a ≡ Some v → b ≡ Some v) → ((v : Object) → b ≡ Some v → a ≡ Some v) → a ≡ b
same_options None None f g = refl
same_options None (Some y) f g = g y refl
same_options (Some x) b f g = sym (f x refl)

distinct_moved : (xs ys : FlatMap) → IsPermutation xs ys → IsDistinct is_same (keys_of xs) → IsDistinct is_same (keys_of ys)
distinct_moved xs ys moved apart = IsDistinct-IsPermutation is_same same_flips (keys_of xs) (keys_of ys) (IsPermutation-map (λ e. e.0) xs ys moved) apart

pub get-IsPermutation : (xs ys : FlatMap) → IsPermutation xs ys → IsDistinct is_same (keys_of xs) → (q : Oid) → get xs q ≡ get ys q
get-IsPermutation xs ys moved apart q =
    same_options (get xs q) (get ys q)
    (get_kept xs ys moved (distinct_moved xs ys moved apart) q)
    (get_kept ys xs (IsPermutation-sym xs ys moved) apart q)

-- ---- together
-- what a sort by the derived comparison leaves
abbrev pub IsSortedByName : FlatMap → Type 0
IsSortedByName rows = IsSortedBy (λ a b. is_lt (derived_cmp a.0 b.0)) rows

by_name : (rows : FlatMap) → IsSortedByName rows → IsSortedBy (λ a b. is_lt (name_cmp a.0 b.0)) rows
by_name rows h k d low lt = ap is_lt (sym (derived_is (get_or rows (k + 1) d).0 (get_or rows k d).0)) ∙ h k d low lt

module _ (xs ys : FlatMap) (moved : IsPermutation xs ys) (apart : IsDistinct is_same (keys_of xs)) (sorted : IsSortedByName ys) where
  pub ascends_sorted : ascends ys ≡ true
  ascends_sorted = ascends_from_sorted ys (distinct_moved xs ys moved apart) (by_name ys sorted)

  pub sorted_is_map_of : ys ≡ map_of xs
  sorted_is_map_of =
      same_from_get ys (map_of xs) ascends_sorted (ascends-put_all xs [] refl)
      (λ q. sym (get-IsPermutation xs ys moved apart q) ∙ sym (get-map_of xs q apart))

-- ---- a map's own rows
apart_behind : (o : Oid) (rows : FlatMap) → ascends rows ≡ true → leads o rows ≡ true → AllByRecursion (λ p. is_same o p ≡ false) (keys_of rows)
apart_behind o [] h l = tt
apart_behind o (row ∷ rows) h l = (differ o row.0 l, apart_behind o rows (ascends_rest row rows h) (leads_from o row.0 rows l (ascends_leads row rows h)))

pub distinct_from_ascends : (rows : FlatMap) → ascends rows ≡ true → IsDistinct is_same (keys_of rows)
unfolding IsDistinct
distinct_from_ascends [] h = tt
distinct_from_ascends (row ∷ rows) h = (apart_behind row.0 rows (ascends_rest row rows h) (ascends_leads row rows h), distinct_from_ascends rows (ascends_rest row rows h))

pub map_of_own : (m : FlatMap) → ascends m ≡ true → map_of m ≡ m
map_of_own m h = same_from_get (map_of m) m (ascends-put_all m [] refl) h (λ q. get-map_of m q (distinct_from_ascends m h))

pub map_of-IsPermutation : (xs ys : FlatMap) → IsPermutation xs ys → IsDistinct is_same (keys_of xs) → map_of xs ≡ map_of ys
map_of-IsPermutation xs ys moved apart =
    same_from_get (map_of xs) (map_of ys) (ascends-put_all xs [] refl) (ascends-put_all ys [] refl)
    (λ q. get-map_of xs q apart ∙ get-IsPermutation xs ys moved apart q ∙ sym (get-map_of ys q (distinct_moved xs ys moved apart)))
