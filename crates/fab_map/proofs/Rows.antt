-- `get`, `put` and `ascends` by their cases, and what they do together.
use Rattle.std.proofs.Common.{◌≡◌, Bool, true, false, [], ◌∷◌, ◌++◌, Some, None, if◌then◌else◌, refl, sym, ◌∙◌, ap, inl, inr}
use Rattle.std.proofs.lemmas.Bool.{and_parts, and_from}
use Rattle.fab_base.specs.declared.object.Oid.{Oid}
use Rattle.fab_base.specs.declared.object.Object.{Object}
use Rattle.fab_base.specs.FlatMap.{is_before, is_same, FlatMap, get, put, put_all, ascends}
use Rattle.fab_base.proofs.Names.{same_self}
use Rattle.fab_base.proofs.NameOrder.{one_name, not_itself, not_back, before_trans, cases_name, differ, differ_back}

-- ---- the cases of `get`
pub get_here : (row : Oid × Object) (rows : FlatMap) (o : Oid) → is_same row.0 o ≡ true → get (row ∷ rows) o ≡ Some row.1
get_here row rows o h = ap (λ b. if b then Some row.1 else get rows o) h

pub get_past : (row : Oid × Object) (rows : FlatMap) (o : Oid) → is_same row.0 o ≡ false → get (row ∷ rows) o ≡ get rows o
get_past row rows o h = ap (λ b. if b then Some row.1 else get rows o) h

-- ---- the cases of `put`
module _ (o : Oid) (x : Object) (row : Oid × Object) (rows : FlatMap) where
  pub put_before : is_before o row.0 ≡ true → put o x (row ∷ rows) ≡ (o, x) ∷ row ∷ rows
  put_before h = ap (λ b. if b then (o, x) ∷ row ∷ rows else (if is_before row.0 o then row ∷ put o x rows else (o, x) ∷ rows)) h

  put_other : is_before o row.0 ≡ false → put o x (row ∷ rows) ≡ (if is_before row.0 o then row ∷ put o x rows else (o, x) ∷ rows)
  put_other h = ap (λ b. if b then (o, x) ∷ row ∷ rows else (if is_before row.0 o then row ∷ put o x rows else (o, x) ∷ rows)) h

  pub put_behind : is_before row.0 o ≡ true → put o x (row ∷ rows) ≡ row ∷ put o x rows
  put_behind h = put_other (not_back row.0 o h) ∙ ap (λ b. if b then row ∷ put o x rows else (o, x) ∷ rows) h

  pub put_over : row.0 ≡ o → put o x (row ∷ rows) ≡ (o, x) ∷ rows
  put_over e =
      put_other (ap (is_before o) e ∙ not_itself o)
      ∙ ap (λ b. if b then row ∷ put o x rows else (o, x) ∷ rows) (ap (λ n. is_before n o) e ∙ not_itself o)

-- ---- the cases of `ascends`
-- the name is before the first of the rows
abbrev pub leads : Oid → FlatMap → Bool
leads o [] = true
leads o (row ∷ rows) = is_before o row.0

pub ascends_leads : (row : Oid × Object) (rows : FlatMap) → ascends (row ∷ rows) ≡ true → leads row.0 rows ≡ true
ascends_leads row [] h = refl
ascends_leads row (next ∷ rows) h = (and_parts _ _ h).0

pub ascends_rest : (row : Oid × Object) (rows : FlatMap) → ascends (row ∷ rows) ≡ true → ascends rows ≡ true
ascends_rest row [] h = refl
ascends_rest row (next ∷ rows) h = (and_parts _ _ h).1

pub ascends_cons : (row : Oid × Object) (rows : FlatMap) → leads row.0 rows ≡ true → ascends rows ≡ true → ascends (row ∷ rows) ≡ true
ascends_cons row [] h k = refl
ascends_cons row (next ∷ rows) h k = and_from _ _ h k

-- a name before one that leads leads too
pub leads_from : (o p : Oid) (rows : FlatMap) → is_before o p ≡ true → leads p rows ≡ true → leads o rows ≡ true
leads_from o p [] h k = refl
leads_from o p (row ∷ rows) h k = before_trans o p row.0 h k

-- ---- `put` keeps the order
leads-put : (p o : Oid) (x : Object) (rows : FlatMap) → is_before p o ≡ true → leads p rows ≡ true → leads p (put o x rows) ≡ true
leads-put p o x [] h k = h
leads-put p o x (row ∷ rows) h k = elim (cases_name o row.0) [
  | inl before ↦ ap (leads p) (put_before o x row rows before) ∙ h
  | inr (inl same) ↦ ap (leads p) (put_over o x row rows (sym same)) ∙ h
  | inr (inr behind) ↦ ap (leads p) (put_behind o x row rows behind) ∙ k
]

pub ascends-put : (o : Oid) (x : Object) (rows : FlatMap) → ascends rows ≡ true → ascends (put o x rows) ≡ true
ascends-put o x [] h = refl
ascends-put o x (row ∷ rows) h = elim (cases_name o row.0) [
  | inl before ↦ ap ascends (put_before o x row rows before) ∙ ascends_cons (o, x) (row ∷ rows) before h
  | inr (inl same) ↦ ap ascends (put_over o x row rows (sym same)) ∙ ascends_cons (o, x) rows (ap (λ n. leads n rows) same ∙ ascends_leads row rows h) (ascends_rest row rows h)
  | inr (inr behind) ↦ ap ascends (put_behind o x row rows behind) ∙ ascends_cons row (put o x rows) (leads-put row.0 o x rows behind (ascends_leads row rows h)) (ascends-put o x rows (ascends_rest row rows h))
]

pub ascends-put_all : (rows m : FlatMap) → ascends m ≡ true → ascends (put_all rows m) ≡ true
ascends-put_all [] m h = h
ascends-put_all (row ∷ rows) m h = ascends-put_all rows (put row.0 row.1 m) (ascends-put row.0 row.1 m h)

-- ---- rows that are put one after the other
pub put_more : (rows : FlatMap) (row : Oid × Object) (known : FlatMap) → put_all (rows ++ row ∷ []) known ≡ put row.0 row.1 (put_all rows known)
put_more [] row known = refl
put_more (first ∷ rows) row known = put_more rows row (put first.0 first.1 known)

-- ---- `get` after `put`
pub get-put_same : (o : Oid) (x : Object) (rows : FlatMap) → get (put o x rows) o ≡ Some x
get-put_same o x [] = get_here (o, x) [] o (same_self o)
get-put_same o x (row ∷ rows) = elim (cases_name o row.0) [
  | inl before ↦ ap (λ m. get m o) (put_before o x row rows before) ∙ get_here (o, x) (row ∷ rows) o (same_self o)
  | inr (inl same) ↦ ap (λ m. get m o) (put_over o x row rows (sym same)) ∙ get_here (o, x) rows o (same_self o)
  | inr (inr behind) ↦ ap (λ m. get m o) (put_behind o x row rows behind) ∙ get_past row (put o x rows) o (differ row.0 o behind) ∙ get-put_same o x rows
]

-- two lists with one row in front, which differ behind it
get_same_front : (row : Oid × Object) (l m : FlatMap) (p : Oid) → get l p ≡ get m p → get (row ∷ l) p ≡ get (row ∷ m) p
get_same_front row l m p e = ap (λ v. if is_same row.0 p then Some row.1 else v) e

pub get-put_other : (o p : Oid) (x : Object) (rows : FlatMap) → is_same o p ≡ false → get (put o x rows) p ≡ get rows p
get-put_other o p x [] h = get_past (o, x) [] p h
get-put_other o p x (row ∷ rows) h = elim (cases_name o row.0) [
  | inl before ↦ ap (λ m. get m p) (put_before o x row rows before) ∙ get_past (o, x) (row ∷ rows) p h
  | inr (inl same) ↦ ap (λ m. get m p) (put_over o x row rows (sym same)) ∙ get_past (o, x) rows p h ∙ sym (get_past row rows p (ap (λ n. is_same n p) (sym same) ∙ h))
  | inr (inr behind) ↦ ap (λ m. get m p) (put_behind o x row rows behind) ∙ get_same_front row (put o x rows) rows p (get-put_other o p x rows h)
]

-- ---- an ascending list is determined by `get`
pub get_none_before : (o : Oid) (rows : FlatMap) → ascends rows ≡ true → leads o rows ≡ true → get rows o ≡ None
get_none_before o [] h k = refl
get_none_before o (row ∷ rows) h k =
    get_past row rows o (differ_back o row.0 k)
    ∙ get_none_before o rows (ascends_rest row rows h) (leads_from o row.0 rows k (ascends_leads row rows h))

get_first : (row : Oid × Object) (rows : FlatMap) → get (row ∷ rows) row.0 ≡ Some row.1
get_first row rows = get_here row rows row.0 (same_self row.0)

pub same_from_get : (l m : FlatMap) → ascends l ≡ true → ascends m ≡ true → ((o : Oid) → get l o ≡ get m o) → l ≡ m
same_from_get [] [] h k e = refl
same_from_get [] (row ∷ m) h k e = let no : None ≡ Some row.1 = e row.0 ∙ get_first row m in cc
same_from_get (row ∷ l) [] h k e = let no : Some row.1 ≡ None = sym (get_first row l) ∙ e row.0 in cc
same_from_get (r ∷ l) (s ∷ m) h k e = elim (cases_name r.0 s.0) [
  | inl before ↦ let no : Some r.1 ≡ None = sym (get_first r l) ∙ e r.0 ∙ get_none_before r.0 (s ∷ m) k before in cc
  | inr (inl same) ↦
      let one : Some r.1 ≡ Some s.1 = sym (get_first r l) ∙ e r.0 ∙ ap (get (s ∷ m)) same ∙ get_first s m in
      let object : r.1 ≡ s.1 = cc in
      λ i. (same i, object i) ∷ same_from_get l m (ascends_rest r l h) (ascends_rest s m k) (rest same) i
  | inr (inr behind) ↦ let no : None ≡ Some s.1 = sym (get_none_before s.0 (r ∷ l) h behind) ∙ e s.0 ∙ get_first s m in cc
]
  where
    rest_at : r.0 ≡ s.0 → (o : Oid) (b : Bool) → is_same r.0 o ≡ b → get l o ≡ get m o
    rest_at same o true q =
        let here : r.0 ≡ o = one_name r.0 o q in
        get_none_before o l (ascends_rest r l h) (ap (λ n. leads n l) (sym here) ∙ ascends_leads r l h)
        ∙ sym (get_none_before o m (ascends_rest s m k) (ap (λ n. leads n m) (sym here ∙ same) ∙ ascends_leads s m k))
    rest_at same o false q = sym (get_past r l o q) ∙ e o ∙ get_past s m o (ap (λ n. is_same n o) (sym same) ∙ q)

    rest : r.0 ≡ s.0 → (o : Oid) → get l o ≡ get m o
    rest same o = rest_at same o (is_same r.0 o) refl
