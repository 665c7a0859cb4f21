-- Flat maps and rows: what is got behind puts, of parts, and of the rows that were answered; and the rows that are committed.
use Rattle.std.specs.Prelude.{◌≡◌, ◌⊎◌, ℕ, Bool, true, false, IsTrue, IsFalse, cond, if◌then◌else◌, List, [], ◌∷◌, map, Option, Some, None, option_map}
use Rattle.std.specs.Prelude.{length, ◌≤◌, ◌||◌}
use Rattle.std.specs.List.{filter, AllByRecursion, list_any, IsDistinct}
use Rattle.std.proofs.Common.{refl, sym, ap, ◌∙◌, subst, inl, inr, true≢false, arith}
use Rattle.std.proofs.lemmas.Bool.{or_parts, or_cases, or_left, or_right}
use Rattle.fab_base.specs.declared.object.Oid.{Oid}
use Rattle.fab_base.specs.declared.object.Object.{Object}
use Rattle.fab_base.specs.FlatMap.{FlatMap, get, put, put_all, map_of, ascends, is_before, is_same, is_among}
use Rattle.fab_base.proofs.Names.{same_self, same_flips, same_is_equivalence}
use Rattle.fab_base.proofs.NameOrder.{differ, one_name, same_name}
use Rattle.fab_base.proofs.Lists.{all_of_map, all_along}
use Rattle.fab_protocol.specs.Tables.{row_of, placed, placed_all, OnlyOnce}
use Rattle.fab_protocol.specs.Tables as tables
use Rattle.fab_protocol.specs.Versions.{Row, Rows, name_of, names_of, objects_of}
use Rattle.fab_protocol.proofs.NameLists.{none_among}
use Rattle.fab_protocol.proofs.ShelfKept.{as_table}
use Rattle.fab_protocol.proofs.TableLaws.{leads, leads_all, parted, row_here, row_past, row_of_name, row_of_placed}
use Rattle.fab_protocol.proofs.TableLaws.{row_of_before, row_of_none, ascends_placed_all, all_placed, ascends_placed, ascends_once, all_placed_all}
use Rattle.fab_protocol.proofs.TableLaws as laws
use Rattle.fab_world.specs.Serial.{within}
use Rattle.fab_integrity.proofs.Invariant.{In, State, committed}
use Rattle.fab_integrity.proofs.Lists.{each_of, map_in, in_map}
use Rattle.std.proofs.lemmas.Option.{none-some, same_Some}
use Rattle.std.specs.Map.{keys_of}
use Rattle.std.specs.Set.{is_member}
use Rattle.std.proofs.lemmas.List.{length-map}
use Rattle.std.proofs.lemmas.Map.Keys.{IsDistinct-cons, IsDistinct-from_apart}
use Rattle.std.proofs.lemmas.Map.Made.{IsDistinct-keys_filter, length-le_from_is_member}
use Rattle.fab_protocol.proofs.VersionLaws.{version_in}

-- ---- a flat map is a table of its objects

-- the name of a row of a map
abbrev pub key : Oid × Object → Oid
key r = r.0

-- what is got is the object of its row
pub get_row : (m : FlatMap) (o : Oid) → get m o ≡ option_map (λ r. r.1) (row_of (λ (r : Oid × Object). r.0) m o)
get_row [] o = refl
get_row (x ∷ xs) o =
    elim (is_same x.0 o) as (λ b. (if b then Some x.1 else get xs o) ≡ option_map (λ r. r.1) (cond b (Some x) (row_of key xs o))) [
      | true ↦ refl
      | false ↦ get_row xs o
    ]

-- what is put is placed
pub put_placed : (p : Oid) (x : Object) (m : FlatMap) → put p x m ≡ placed key (p, x) m
put_placed p x [] = refl
put_placed p x (r ∷ m) =
    ap (λ rows. if is_before p r.0 then (p, x) ∷ r ∷ m else (if is_before r.0 p then r ∷ rows else (p, x) ∷ m)) (put_placed p x m)

pub put_all_placed : (rows m : FlatMap) → put_all rows m ≡ placed_all key rows m
put_all_placed [] m = refl
put_all_placed (r ∷ rows) m = ap (λ k. put_all rows k) (put_placed r.0 r.1 m) ∙ put_all_placed rows (placed key r m)

-- ---- what is got behind puts

pub get_here : (x : Oid × Object) (xs : FlatMap) → get (x ∷ xs) x.0 ≡ Some x.1
get_here x xs = ap (λ b. if b then Some x.1 else get xs x.0) (same_self x.0)

-- behind a put: what was put under its name, and what was there under others
pub get_put : (p : Oid) (x : Object) (m : FlatMap) (o : Oid) → get (put p x m) o ≡ (if is_same p o then Some x else get m o)
get_put p x m o =
    get_row (put p x m) o
    ∙ ap (λ rows. option_map (λ r. r.1) (row_of key rows o)) (put_placed p x m)
    ∙ ap (option_map (λ r. r.1)) (row_of_placed key (p, x) m o)
    ∙ elim (is_same p o) as (λ b. option_map (λ r. r.1) (if b then Some (p, x) else row_of key m o) ≡ (if b then Some x else get m o)) [
      | true ↦ refl
      | false ↦ sym (get_row m o)
    ]

-- under other names there is what was there
pub put_all_other : (rows m : FlatMap) (o : Oid) → IsFalse (is_among o (map (λ r. r.0) rows)) → get (put_all rows m) o ≡ get m o
put_all_other [] m o h = refl
put_all_other (r ∷ rows) m o h =
    let g = or_parts (is_same r.0 o) (is_among o (map key rows)) h in
    put_all_other rows (put r.0 r.1 m) o g.1 ∙ get_put r.0 r.1 m o ∙ ap (λ b. if b then Some r.1 else get m o) g.0

-- under a name of which one object is put, that one
pub put_all_one : (rows m : FlatMap) (o : Oid) (x : Object) → ((y : Object) → In (o, y) rows → y ≡ x) → IsTrue (is_among o (map (λ r. r.0) rows))
    → get (put_all rows m) o ≡ Some x
put_all_one [] m o x same h = absurd (true≢false (sym h))
put_all_one (r ∷ rows) m o x same h =
    elim (is_among o (map key rows)) as (λ b. is_among o (map key rows) ≡ b → get (put_all rows (put r.0 r.1 m)) o ≡ Some x) [
      | true ↦ λ e. put_all_one rows (put r.0 r.1 m) o x (λ y i. same y (inr i)) e
      | false ↦ λ e. elim (or_cases (is_same r.0 o) (is_among o (map key rows)) h) [
        | inl f ↦ put_all_other rows (put r.0 r.1 m) o e ∙ get_put r.0 r.1 m o ∙ ap (λ b. if b then Some r.1 else get m o) f
            ∙ ap Some (same r.1 (inl (λ i. (sym (one_name r.0 o f) i, r.1))))
        | inr f ↦ absurd (true≢false (sym f ∙ e))
      ]
    ] refl

-- names still ascend behind puts
pub ascends_put_all : (rows m : FlatMap) → IsTrue (ascends m) → IsTrue (ascends (put_all rows m))
ascends_put_all rows m h =
    sym (as_table (put_all rows m)) ∙ ap (tables.ascends key) (put_all_placed rows m) ∙ ascends_placed_all key rows m (as_table m ∙ h)

pub ascends_map_of : (rows : FlatMap) → IsTrue (ascends (map_of rows))
ascends_map_of rows = ascends_put_all rows [] refl

-- what holds of each row that is put, and of each that was there, holds of each behind
pub all_put : (P : Oid × Object → Type 0) (rows m : FlatMap) → AllByRecursion P rows → AllByRecursion P m → AllByRecursion P (put_all rows m)
all_put P rows m h g = subst (AllByRecursion P) (sym (put_all_placed rows m)) (all_placed_all key P rows m h g)

-- ---- parts of a map

filter_step : (test : Oid → Bool) (x : Oid × Object) (rest : FlatMap) (o : Oid) (found : Option Object)
    → get rest o ≡ (if test o then found else None) → (b : Bool) → is_same x.0 o ≡ b → (c : Bool) → test x.0 ≡ c
    → get (cond c (x ∷ rest) rest) o ≡ (if test o then (if b then Some x.1 else found) else None)
filter_step test x rest o found h true e true f =
    ap (λ b. if b then Some x.1 else get rest o) e ∙ sym (ap (λ b. if b then Some x.1 else None) (sym (ap test (one_name x.0 o e)) ∙ f))
filter_step test x rest o found h true e false f =
    let g : test o ≡ false = sym (ap test (one_name x.0 o e)) ∙ f in
    h ∙ ap (λ b. if b then found else None) g ∙ sym (ap (λ b. if b then Some x.1 else None) g)
filter_step test x rest o found h false e true f = ap (λ b. if b then Some x.1 else get rest o) e ∙ h
filter_step test x rest o found h false e false f = h

-- of the objects whose names pass a test
pub get_filter : (test : Oid → Bool) (m : FlatMap) (o : Oid) → get (filter (λ r. test r.0) m) o ≡ (if test o then get m o else None)
get_filter test [] o = nothing (test o)
  where
    nothing : (b : Bool) → ◌≡◌ {A = Option Object} None (if b then None else None)
    nothing true = refl
    nothing false = refl
get_filter test (x ∷ xs) o =
    filter_step test x (filter (λ r. test r.0) xs) o (get xs o) (get_filter test xs o) (is_same x.0 o) refl (test x.0) refl

-- of the objects of the classes in ex
pub get_within : (ex : ℕ → Bool) (m : FlatMap) (o : Oid) → get (within ex m) o ≡ (if ex o.class then get m o else None)
get_within ex m o = get_filter (λ p. ex p.class) m o

pub ascends_filter : (test : Oid × Object → Bool) (m : FlatMap) → IsTrue (ascends m) → IsTrue (ascends (filter test m))
ascends_filter test m h = sym (as_table (filter test m)) ∙ laws.ascends_filter key test m (as_table m ∙ h)

-- ---- maps that give the same are one

get_before : (m : FlatMap) (o : Oid) → IsTrue (leads key o m) → IsTrue (tables.ascends key m) → get m o ≡ None
get_before m o h g = get_row m o ∙ ap (option_map (λ r. r.1)) (row_of_before key m o h g)

-- so the first names are one
not_first : (x y : Oid × Object) (xs ys : FlatMap) → IsTrue (tables.ascends key (y ∷ ys)) → get (x ∷ xs) x.0 ≡ get (y ∷ ys) x.0
    → (b : Bool) → is_before x.0 y.0 ≡ b → b ≡ false
not_first x y xs ys g h true e = absurd (none-some x.1 (sym (get_before (y ∷ ys) x.0 e g) ∙ sym h ∙ get_here x xs))
not_first x y xs ys g h false e = refl

rest_step : (x y : Oid × Object) (xs ys : FlatMap) (o : Oid) → x.0 ≡ y.0 → get xs x.0 ≡ None → get ys x.0 ≡ None
    → get (x ∷ xs) o ≡ get (y ∷ ys) o → (b : Bool) → is_same x.0 o ≡ b → get xs o ≡ get ys o
rest_step x y xs ys o same f g h true e = let p = one_name x.0 o e in subst (λ q. get xs q ≡ get ys q) p (f ∙ sym g)
rest_step x y xs ys o same f g h false e =
    sym (ap (λ b. if b then Some x.1 else get xs o) e) ∙ h
    ∙ ap (λ b. if b then Some y.1 else get ys o) (subst (λ p. is_same p o ≡ false) same e)

same_tables : (m k : FlatMap) → IsTrue (tables.ascends key m) → IsTrue (tables.ascends key k) → ((o : Oid) → get m o ≡ get k o) → m ≡ k
same_tables [] [] h g same = refl
same_tables [] (y ∷ ys) h g same = absurd (none-some y.1 (same y.0 ∙ get_here y ys))
same_tables (x ∷ xs) [] h g same = absurd (none-some x.1 (sym (same x.0) ∙ get_here x xs))
same_tables (x ∷ xs) (y ∷ ys) h g same =
    let p : x.0 ≡ y.0 = same_name x.0 y.0 (not_first x y xs ys g (same x.0) (is_before x.0 y.0) refl)
    (not_first y x ys xs h (sym (same y.0)) (is_before y.0 x.0) refl) in
    let q : x.1 ≡ y.1 = same_Some x.1 y.1 (sym (get_here x xs) ∙ same x.0 ∙ ap (λ o. get (y ∷ ys) o) p ∙ get_here y ys) in
    let a = parted key x xs h in
    let b = parted key y ys g in
    let rest : xs ≡ ys = same_tables xs ys a.1 b.1 (λ o. rest_step x y xs ys o p (get_before xs x.0 a.0 a.1)
    (get_before ys x.0 (subst (λ o. IsTrue (leads key o ys)) (sym p) b.0) b.1) (same o) (is_same x.0 o) refl) in
    λ i. (p i, q i) ∷ rest i

-- two maps that give the same at each name are one
pub same_maps : (m k : FlatMap) → IsTrue (ascends m) → IsTrue (ascends k) → ((o : Oid) → get m o ≡ get k o) → m ≡ k
same_maps m k h g same = same_tables m k (as_table m ∙ h) (as_table k ∙ g) same

-- ---- what stands in a map is got, and the other way

-- what is got stands in the map
pub get_in : (m : FlatMap) (o : Oid) (x : Object) → get m o ≡ Some x → In (o, x) m
get_in [] o x h = absurd (none-some x h)
get_in (r ∷ m) o x h =
    elim (is_same r.0 o) as (λ b. is_same r.0 o ≡ b → (if b then Some r.1 else get m o) ≡ Some x → In (o, x) (r ∷ m)) [
      | true ↦ λ e f. inl (λ i. (sym (one_name r.0 o e) i, sym (same_Some r.1 x f) i))
      | false ↦ λ e f. inr (get_in m o x f)
    ] refl h

in_table : (m : FlatMap) (o : Oid) (x : Object) → IsTrue (tables.ascends key m) → In (o, x) m → get m o ≡ Some x
in_table [] o x h i = absurd i
in_table (r ∷ m) o x h (inl e) = subst (λ (q : Oid × Object). get (q ∷ m) o ≡ Some x) e (get_here (o, x) m)
in_table (r ∷ m) o x h (inr i) =
    let g = parted key r m h in
    let first : IsTrue (is_before r.0 o) = each_of (λ (y : Oid × Object). IsTrue (is_before r.0 y.0)) m (o, x) (leads_all key r.0 m g.0 g.1) i in
    ap (λ b. if b then Some r.1 else get m o) (differ r.0 o first) ∙ in_table m o x g.1 i

-- and what stands there is got, as names ascend
pub in_get : (m : FlatMap) (o : Oid) (x : Object) → IsTrue (ascends m) → In (o, x) m → get m o ≡ Some x
in_get m o x h i = in_table m o x (as_table m ∙ h) i

-- ---- the objects that were answered

abbrev or_found : Option Row → Option Object → Option Object
or_found None found = found
or_found (Some r) found = Some r.2

rows_step : (r : Row) (rows : Rows) (o : Oid) (found : Option Object) → IsFalse (is_among r.0 (names_of rows)) → (b : Bool) → is_same r.0 o ≡ b
    → or_found (row_of name_of rows o) (if b then Some r.2 else found) ≡ or_found (cond b (Some r) (row_of name_of rows o)) found
rows_step r rows o found h true e =
    ap (λ (s : Option Row). or_found s (Some r.2)) (row_of_none name_of rows o (all_of_map (λ p. IsFalse (is_same p o)) name_of rows
    (none_among o (names_of rows) (subst (λ p. IsFalse (is_among p (names_of rows))) (one_name r.0 o e) h))))
rows_step r rows o found h false e = refl

put_rows : (rows : Rows) (m : FlatMap) (o : Oid) → OnlyOnce (names_of rows)
    → get (put_all (objects_of rows) m) o ≡ or_found (row_of name_of rows o) (get m o)
put_rows [] m o h = refl
put_rows (r ∷ rows) m o h =
    put_rows rows (put r.0 r.2 m) o h.1 ∙ ap (or_found (row_of name_of rows o)) (get_put r.0 r.2 m o)
    ∙ rows_step r rows o (get m o) h.0 (is_same r.0 o) refl

-- what is got of the answers is the object of the row
pub get_answers : (rows : Rows) (o : Oid) → OnlyOnce (names_of rows) → get (map_of (objects_of rows)) o ≡ option_map (λ r. r.2) (row_of name_of rows o)
get_answers rows o h =
    put_rows rows [] o h ∙ elim (row_of name_of rows o) as (λ s. or_found s None ≡ option_map (λ (r : Row). r.2) s) [ None ↦ refl | Some r ↦ refl ]

-- ---- where nothing is found, there is no answer of the name

none_step : (b among : Bool) (x : Object) (rest : Option Object) → among ≡ false → (if b then Some x else rest) ≡ None
    → ((b || among) ≡ false) × (rest ≡ None)
none_step true among x rest a e = let no : Some x ≡ None = e in cc
none_step false among x rest a e = (a, e)

none_put : (rows : Rows) (m : FlatMap) (o : Oid) → get (put_all (objects_of rows) m) o ≡ None → (is_among o (names_of rows) ≡ false) × (get m o ≡ None)
none_put [] m o h = (refl, h)
none_put (row ∷ rows) m o h =
    let g = none_put rows (put row.0 row.2 m) o h in
    none_step (is_same row.0 o) (is_among o (names_of rows)) row.2 (get m o) g.0 (sym (get_put row.0 row.2 m o) ∙ g.1)

-- so of what isn't got there is no answer
pub none_answered : (answers : Rows) (o : Oid) → get (map_of (objects_of answers)) o ≡ None → is_among o (names_of answers) ≡ false
none_answered answers o h = (none_put answers [] o h).0

-- ---- names of rows

-- a name among these is one of them
pub among_in : (o : Oid) (os : List Oid) → IsTrue (is_among o os) → In o os
among_in o [] h = absurd (true≢false (sym h))
among_in o (p ∷ os) h = elim (or_cases (is_same p o) (is_among o os) h) [ inl e ↦ inl (sym (one_name p o e)) | inr t ↦ inr (among_in o os t) ]

pub in_among : (o : Oid) (os : List Oid) → In o os → IsTrue (is_among o os)
in_among o [] h = absurd h
in_among o (p ∷ os) (inl e) = or_left (is_same p o) (is_among o os) (subst (λ q. is_same q o ≡ true) e (same_self o))
in_among o (p ∷ os) (inr i) = or_right (is_same p o) (is_among o os) (in_among o os i)

-- and the same of the names of a map's rows
pub row_among : (o : Oid) (x : Object) (rows : FlatMap) → In (o, x) rows → IsTrue (is_among o (map (λ (r : Oid × Object). r.0) rows))
row_among o x rows h = in_among o (map key rows) (map_in key (o, x) rows h)

pub among_row : (o : Oid) (rows : FlatMap) → IsTrue (is_among o (map (λ (r : Oid × Object). r.0) rows)) → (x : Object) × In (o, x) rows
among_row o rows h =
    let r = in_map key o rows (among_in o (map key rows) h) in
    (r.0.1, subst (λ p. In (p, r.0.1) rows) (sym r.2) r.1)

-- the row of a name is among the rows
pub row_listed : {R : Type 0} (name : R → Oid) (rows : List R) (o : Oid) (r : R) → row_of name rows o ≡ Some r → In r rows
row_listed name [] o r h = absurd (none-some r h)
row_listed name (x ∷ xs) o r h =
    elim (is_same (name x) o) as (λ b. cond b (Some x) (row_of name xs o) ≡ Some r → In r (x ∷ xs)) [
      | true ↦ λ e. inl (sym (same_Some x r e))
      | false ↦ λ e. inr (row_listed name xs o r e)
    ] h

-- of rows that have each name once, each is the row of its name
pub row_once : {R : Type 0} (name : R → Oid) (rows : List R) (r : R) → OnlyOnce (map name rows) → In r rows → row_of name rows (name r) ≡ Some r
row_once name [] r h i = absurd i
row_once name (x ∷ xs) r h (inl e) = subst (λ y. row_of name (y ∷ xs) (name r) ≡ Some r) e (row_here name r xs (name r) (same_self (name r)))
row_once name (x ∷ xs) r h (inr i) =
    elim (is_same (name x) (name r)) as (λ b. is_same (name x) (name r) ≡ b → row_of name (x ∷ xs) (name r) ≡ Some r) [
      | true ↦ λ e. absurd (true≢false (sym (in_among (name x) (map name xs)
          (subst (λ o. In o (map name xs)) (sym (one_name (name x) (name r) e)) (map_in name r xs i))) ∙ h.0))
      | false ↦ λ e. row_past name x xs (name r) e ∙ row_once name xs r h.1 i
    ] refl

-- what is got behind puts was put, or there before
pub put_all_from : (rows m : FlatMap) (o : Oid) (x : Object) → get (put_all rows m) o ≡ Some x → In (o, x) rows ⊎ (get m o ≡ Some x)
put_all_from [] m o x h = inr h
put_all_from (r ∷ rows) m o x h = elim (put_all_from rows (put r.0 r.1 m) o x h) [
  | inl i ↦ inl (inr i)
  | inr g ↦ elim (is_same r.0 o) as (λ b. is_same r.0 o ≡ b → (if b then Some r.1 else get m o) ≡ Some x → In (o, x) (r ∷ rows) ⊎ (get m o ≡ Some x)) [
    | true ↦ λ e f. inl (inl (λ i. (sym (one_name r.0 o e) i, sym (same_Some r.1 x f) i)))
    | false ↦ λ e f. inr f
  ] refl (sym (get_put r.0 r.1 m o) ∙ g)
]

-- the row that was answered for an object
pub record IsAnswer (rows : Rows) (o : Oid) (x : Object) : Type 0 where
  pub row : Row
  pub listed : In row rows
  pub name : row.0 ≡ o
  pub object : row.2 ≡ x
  pub found : row_of name_of rows o ≡ Some row

answer_in : (rows : Rows) (o : Oid) (x : Object) (found : Option Row) → row_of name_of rows o ≡ found → option_map (λ (r : Row). r.2) found ≡ Some x
    → IsAnswer rows o x
answer_in rows o x None e h = absurd (none-some x h)
answer_in rows o x (Some r) e h =
    record { row = r; listed = row_listed name_of rows o r e; name = row_of_name name_of rows o r e; object = same_Some r.2 x h; found = e }

-- what is got of the answers is one of them
pub answer_of : (rows : Rows) (o : Oid) (x : Object) → OnlyOnce (names_of rows) → get (map_of (objects_of rows)) o ≡ Some x → IsAnswer rows o x
answer_of rows o x once h = answer_in rows o x (row_of name_of rows o) refl (sym (get_answers rows o once) ∙ h)

-- ---- committed rows

-- an object in a row of this name and version
abbrev pub in_row : Oid → ℕ → Object → Row
in_row o k x = (o, k, x)

-- a row that has a version is there, at its own
pub version_there : (o : Oid) (k : ℕ) (found : Option Object) → (version_in (option_map (in_row o k) found) ≡ 0 → ⊥)
    → version_in (option_map (in_row o k) found) ≡ k
version_there o k None h = absurd (h refl)
version_there o k (Some x) h = refl

-- where there is no row there is no object
pub nothing_there : (o : Oid) (k : ℕ) (found : Option Object) → option_map (in_row o k) found ≡ None → found ≡ None
nothing_there o k None h = refl
nothing_there o k (Some x) h = absurd (none-some (o, k, x) (sym h))

-- a committed row is of the committed version
pub version_committed : (C : State) (o : Oid) (r : Row) → committed C o ≡ Some r → C.version o ≡ r.1
version_committed C o r h =
    elim (get C.map o) as (λ x. option_map (in_row o (C.version o)) x ≡ Some r → C.version o ≡ r.1) [
      | None ↦ λ g. absurd (none-some r g)
      | Some x ↦ λ g. ap (λ (q : Row). q.1) (same_Some (in_row o (C.version o) x) r g)
    ] h

-- and of the committed object
pub object_committed : (C : State) (o : Oid) (r : Row) → committed C o ≡ Some r → get C.map o ≡ Some r.2
object_committed C o r h =
    elim (get C.map o) as (λ x. option_map (in_row o (C.version o)) x ≡ Some r → x ≡ Some r.2) [
      | None ↦ λ g. absurd (none-some r g)
      | Some x ↦ λ g. ap (λ (q : Row). Some q.2) (same_Some (in_row o (C.version o) x) r g)
    ] h

-- ---- how many rows have one of some names

distinct : (os : List Oid) → OnlyOnce os → IsDistinct is_same os
distinct [] h = IsDistinct-from_apart is_same [] (λ i j d lt low. absurd (omega (arith, low)))
distinct (o ∷ os) h =
    IsDistinct-cons is_same o os
    (all_along (λ p. IsFalse (is_same p o)) (λ p. is_same o p ≡ false) (λ p g. same_flips o p ∙ g) os (none_among o os h.0)) (distinct os h.1)

among_flips : (q : Oid) (names : List Oid) → is_member is_same names q ≡ is_among q names
among_flips q names = λ i. list_any (λ p. same_flips q p i) names

kept_among : (names : List Oid) (rows : FlatMap) (q : Oid) → is_member is_same (keys_of (filter (λ c. is_among c.0 names) rows)) q ≡ true
    → is_member is_same names q ≡ true
kept_among names [] q h = absurd (true≢false (sym h))
kept_among names (row ∷ rows) q h =
    elim (is_among row.0 names) as (λ b. is_among row.0 names ≡ b
    → is_member is_same (keys_of (cond b (row ∷ filter (λ c. is_among c.0 names) rows) (filter (λ c. is_among c.0 names) rows))) q ≡ true
    → is_member is_same names q ≡ true) [
      | true ↦ λ i g. elim (is_same q row.0) as (λ b. is_same q row.0 ≡ b
          → (b || is_member is_same (keys_of (filter (λ c. is_among c.0 names) rows)) q) ≡ true → is_member is_same names q ≡ true) [
            | true ↦ λ j k. among_flips q names ∙ ap (λ p. is_among p names) (one_name q row.0 j) ∙ i
            | false ↦ λ j k. kept_among names rows q k
          ] refl g
      | false ↦ λ i g. kept_among names rows q g
    ] refl h

-- no more than there are names
pub few_rows : (names : List Oid) (rows : FlatMap) → IsTrue (ascends rows) → length (filter (λ c. is_among c.0 names) rows) ≤ length names
few_rows names rows h =
    let kept = filter (λ (c : Oid × Object). is_among c.0 names) rows in
    let once = ascends_once key rows (as_table rows ∙ h) in
    let apart = IsDistinct-keys_filter is_same (λ (c : Oid × Object). is_among c.0 names) rows (distinct (map key rows) once) in
    let n = length-le_from_is_member same_is_equivalence (keys_of kept) names apart (kept_among names rows) in
    let m = length-map kept key in
    omega (arith, n, m)
