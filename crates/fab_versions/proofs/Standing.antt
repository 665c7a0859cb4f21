-- Blocks of rows in the order of names: the block of a name, and what is found, put and moved there.
use Rattle.std.proofs.Common.{◌≡◌, ◌⊎◌, inl, inr, ℕ, zero, suc, ◌+◌, ◌-◌, ◌<◌, ◌≤◌, Bool, true, false, cond, ◌&&◌, ◌||◌, ◌==◌, if◌then◌else◌, IsTrue, List, [], ◌∷◌, ◌++◌, map, length, get_or, set, take, drop, Option, Some, None, MatchOption, Result, Ok, Err, OnOk, OnErr, is_ok, refl, sym, subst, ap, ◌∙◌, append_assoc, take-append-drop, arith}
use Rattle.std.specs.Prelude.{nat_lt}
use Rattle.std.specs.List.{AllByRecursion, HoldsAt, insert}
use Rattle.std.specs.Option.{SomeIff}
use Rattle.std.proofs.lemmas.Bool.{true≢false}
use Rattle.std.proofs.lemmas.Bool.Decides.{nat_tests}
use Rattle.std.proofs.lemmas.List.{map-append}
use Rattle.fab_base.specs.declared.object.Oid.{Oid}
use Rattle.fab_base.specs.declared.object.Object.{Object}
use Rattle.fab_base.specs.FlatMap.{is_before, is_same}
use Rattle.fab_base.proofs.Names.{same_flips}
use Rattle.fab_base.proofs.NameOrder.{cases_name, before_trans, not_itself, not_back, differ}
use Rattle.fab_base.proofs.Lists.{all_append, all_split, all_along, all_two, all_map, all_of_map, front_at}
use Rattle.fab_protocol.specs.Tables.{row_of, placed, ascends}
use Rattle.fab_protocol.specs.Versions.{Rows, name_of}
use Rattle.fab_protocol.proofs.TableLaws.{leads, leads_all, parted, headed, row_of_none, row_of_behind, placed_before, placed_behind, all_placed, ascends_placed, ascends_parts}
use Rattle.fab_versions.specs.Blocked.{Block, rows_in, AreFrom, AreBefore, Precedes, IsBlock, InBlocks, AreBehind, IsBlockAt, IsCut}
use Rattle.fab_versions.specs.Places.{IsAt, IsGap}
use Rattle.fab_versions.specs.Holdings.{Holding}
use Rattle.fab_versions.proofs.Merged.{ascends_front}

-- ---- results

module _ {T E : Type 0} where
  pub by_result : (r : Result T E) (P A B : Type 0) → OnOk r A → OnErr r B → (A → P) → (B → P) → P
  by_result (Ok x) P A B a b f g = f a
  by_result (Err e) P A B a b f g = g b

  pub on_ok : (r : Result T E) (A B : Type 0) → (A → B) → OnOk r A → OnOk r B
  on_ok (Ok x) A B f a = f a
  on_ok (Err e) A B f a = a

  pub on_err : (r : Result T E) (A B : Type 0) → (A → B) → OnErr r A → OnErr r B
  on_err (Ok x) A B f a = a
  on_err (Err e) A B f a = f a

  pub at_ok : (r : Result T E) (P : Type 0) → P → OnOk r P
  at_ok (Ok x) P p = p
  at_ok (Err e) P p = tt

  pub at_err : (r : Result T E) (P : Type 0) → P → OnErr r P
  at_err (Ok x) P p = tt
  at_err (Err e) P p = p

  pub not_ok : {e : E} (r : Result T E) (P : Type 0) → r ≡ Err e → OnOk r P
  not_ok r P is = subst (λ s. OnOk s P) (sym is) tt

  pub either_way : (r : Result T E) (P : List Block → Type 0) (xs ys zs : List Block) → xs ≡ (if is_ok r then ys else zs) → P ys → P zs → P xs
  either_way (Ok x) P xs ys zs e p q = subst P (sym e) p
  either_way (Err x) P xs ys zs e p q = subst P (sym e) q

  pub either : (r : Result T E) (P : Rows → Type 0) (xs ys zs : Rows) → xs ≡ (if is_ok r then ys else zs) → P ys → P zs → P xs
  either (Ok x) P xs ys zs e p q = subst P (sym e) p
  either (Err x) P xs ys zs e p q = subst P (sym e) q

-- ---- names

-- before one that is at or before a third
pub before_from : (o p q : Oid) → is_before o p ≡ true → is_before q p ≡ false → is_before o q ≡ true
before_from o p q h k = by_cases (cases_name p q)
  where
    by_cases : (is_before p q ≡ true) ⊎ ((p ≡ q) ⊎ (is_before q p ≡ true)) → is_before o q ≡ true
    by_cases (inl e) = before_trans o p q h e
    by_cases (inr (inl e)) = subst (λ r. is_before o r ≡ true) e h
    by_cases (inr (inr e)) = absurd (true≢false (sym e ∙ k))

-- at or before one that is before a third
pub until_before : (o p q : Oid) → is_before p o ≡ false → is_before p q ≡ true → is_before o q ≡ true
until_before o p q k h = by_cases (cases_name o p)
  where
    by_cases : (is_before o p ≡ true) ⊎ ((o ≡ p) ⊎ (is_before p o ≡ true)) → is_before o q ≡ true
    by_cases (inl e) = before_trans o p q e h
    by_cases (inr (inl e)) = subst (λ r. is_before r q ≡ true) (sym e) h
    by_cases (inr (inr e)) = absurd (true≢false (sym e ∙ k))

-- the least name
abbrev pub least : Oid
least = record { store = 0; class = 0; worker = 0; boot = 0; number = 0; site = 0; index = 0 }

not_below : (x : ℕ) (b : Bool) → b ≡ false → (nat_lt x 0 || ((x == 0) && b)) ≡ false
not_below x b h = grind (arith, nat_tests)

pub none_before_least : (o : Oid) → is_before o least ≡ false
none_before_least o =
    not_below o.store _ (not_below o.class _ (not_below o.worker _ (not_below o.boot _ (not_below o.number _ (not_below o.site _ (not_below o.index false refl))))))

-- ---- rows in two parts

module _ {R : Type 0} (name : R → Oid) where
  leads_from : (o : Oid) (xs : List R) → AllByRecursion (λ x. IsTrue (is_before o (name x))) xs → IsTrue (leads name o xs)
  leads_from o [] h = refl
  leads_from o (x ∷ xs) h = h.0

  -- no row of a name stands among rows behind it
  row_of_front : (xs ys : List R) (o : Oid) → AllByRecursion (λ y. IsTrue (is_before o (name y))) ys → row_of name (xs ++ ys) o ≡ row_of name xs o
  row_of_front [] ys o h =
      row_of_none name ys o
      (all_along (λ y. IsTrue (is_before o (name y))) (λ y. is_same (name y) o ≡ false) (λ y k. same_flips (name y) o ∙ differ o (name y) k) ys h)
  row_of_front (x ∷ xs) ys o h = ap (λ r. cond (is_same (name x) o) (Some x) r) (row_of_front xs ys o h)

  -- nor does it go there
  placed_front : (r : R) (xs ys : List R) → IsTrue (leads name (name r) ys) → placed name r (xs ++ ys) ≡ placed name r xs ++ ys
  placed_front r [] ys h = placed_before name r ys h
  placed_front r (x ∷ xs) ys h =
      elim (is_before (name r) (name x)) as (λ b. (if b then r ∷ x ∷ (xs ++ ys) else (if is_before (name x) (name r) then x ∷ placed name r (xs ++ ys) else r ∷ (xs ++ ys)))
      ≡ (if b then r ∷ x ∷ xs else (if is_before (name x) (name r) then x ∷ placed name r xs else r ∷ xs)) ++ ys) [
        | true ↦ refl
        | false ↦ elim (is_before (name x) (name r)) as (λ b. (if b then x ∷ placed name r (xs ++ ys) else r ∷ (xs ++ ys))
            ≡ (if b then x ∷ placed name r xs else r ∷ xs) ++ ys) [
              | true ↦ ap (λ l. x ∷ l) (placed_front r xs ys h)
              | false ↦ refl
            ]
      ]

  ascends_joined : (xs ys : List R) → IsTrue (ascends name xs) → IsTrue (ascends name ys) → AllByRecursion (λ x. IsTrue (leads name (name x) ys)) xs
      → IsTrue (ascends name (xs ++ ys))
  ascends_joined [] ys h g k = g
  ascends_joined (x ∷ xs) ys h g k =
      let p = parted name x xs h in
      headed name x (xs ++ ys) (led xs p.0) (ascends_joined xs ys p.1 g k.1)
    where
      led : (zs : List R) → IsTrue (leads name (name x) zs) → IsTrue (leads name (name x) (zs ++ ys))
      led [] e = k.0
      led (z ∷ zs) e = e

  ascends_back : (xs ys : List R) → IsTrue (ascends name (xs ++ ys)) → IsTrue (ascends name ys)
  ascends_back [] ys h = h
  ascends_back (x ∷ xs) ys h = ascends_back xs ys (parted name x (xs ++ ys) h).1

  pub ascends_take : (n : ℕ) (rows : List R) → IsTrue (ascends name rows) → IsTrue (ascends name (take n rows))
  ascends_take n rows h = ascends_front name (take n rows) (drop n rows) (subst (λ l. IsTrue (ascends name l)) (sym (take-append-drop n rows)) h)

  pub ascends_drop : (n : ℕ) (rows : List R) → IsTrue (ascends name rows) → IsTrue (ascends name (drop n rows))
  ascends_drop n rows h = ascends_back (take n rows) (drop n rows) (subst (λ l. IsTrue (ascends name l)) (sym (take-append-drop n rows)) h)

-- ---- blocks in parts

pub rows_append : (xs ys : List Block) → rows_in (xs ++ ys) ≡ rows_in xs ++ rows_in ys
rows_append [] ys = refl
rows_append (x ∷ xs) ys = ap (λ l. x.1.rows ++ l) (rows_append xs ys) ∙ sym (append_assoc x.1.rows (rows_in xs) (rows_in ys))

-- what blocks before one have, the one, and those behind it
record AreParts (front : List Block) (b : Block) (back : List Block) : Type 0 where
  before : AllByRecursion (λ x. Precedes x b.0) front
  here : IsBlock b back
  behind : InBlocks back

parts_of : (front : List Block) (b : Block) (back : List Block) → InBlocks (front ++ b ∷ back) → AreParts front b back
parts_of [] b back h = record { before = tt; here = h.0; behind = h.1 }
parts_of (x ∷ front) b back h =
    let g = parts_of front b back h.1 in
    let k = all_split (λ next. Precedes x next.0) front (b ∷ back) h.0.apart in
    record { before = (k.1.0, g.before); here = g.here; behind = g.behind }

-- what precedes a key precedes those at or behind it
precedes_from : (x : Block) (o p : Oid) → Precedes x o → is_before p o ≡ false → Precedes x p
precedes_from x o p h e = (
  before_from x.0 o p h.0 e,
  all_along (λ row. is_before (name_of row) o ≡ true) (λ row. is_before (name_of row) p ≡ true) (λ row k. before_from (name_of row) o p k e) x.1.rows h.1,
)

-- others in the place of one, under its key or behind it
replaced : (front : List Block) (b : Block) (back middle : List Block) → InBlocks (front ++ b ∷ back)
    → AllByRecursion (λ m. is_before m.0 b.0 ≡ false) middle → InBlocks (middle ++ back) → InBlocks (front ++ (middle ++ back))
replaced [] b back middle h from new = new
replaced (x ∷ front) b back middle h from new =
    let k = all_split (λ next. Precedes x next.0) front (b ∷ back) h.0.apart in
    let among : AllByRecursion (λ next. Precedes x next.0) middle =
    all_along (λ m. is_before m.0 b.0 ≡ false) (λ next. Precedes x next.0) (λ m e. precedes_from x b.0 m.0 k.1.0 e) middle from in (
      record {
        ascending = h.0.ascending;
        from_key = h.0.from_key;
        apart = all_append (λ next. Precedes x next.0) front (middle ++ back) k.0 (all_append (λ next. Precedes x next.0) middle back among k.1.1);
      },
      replaced front b back middle h.1 from new,
    )

-- the rows of blocks that precede a key at or before a name are before the name
front_before : (o k : Oid) (front : List Block) → AllByRecursion (λ x. Precedes x k) front → is_before o k ≡ false
    → AllByRecursion (λ row. IsTrue (is_before (name_of row) o)) (rows_in front)
front_before o k [] h e = tt
front_before o k (x ∷ front) h e =
    all_append (λ row. IsTrue (is_before (name_of row) o)) x.1.rows (rows_in front) (precedes_from x k o h.0 e).1 (front_before o k front h.1 e)

-- those of blocks with keys behind a name are behind it
back_behind : (o : Oid) (back : List Block) → InBlocks back → AreBehind o back → AllByRecursion (λ row. IsTrue (is_before o (name_of row))) (rows_in back)
back_behind o [] h e = tt
back_behind o (x ∷ back) h e =
    all_append (λ row. IsTrue (is_before o (name_of row))) x.1.rows (rows_in back)
    (all_along (λ row. is_before (name_of row) x.0 ≡ false) (λ row. IsTrue (is_before o (name_of row))) (λ row k. before_from o x.0 (name_of row) e.0 k) x.1.rows h.0.from_key)
    (back_behind o back h.1 e.1)

-- rows before each key are each before all keys
each_before : (rows : Rows) (blocks : List Block) → AllByRecursion (λ next. AreBefore next.0 rows) blocks → AllByRecursion (λ row. AreBehind (name_of row) blocks) rows
each_before [] blocks h = tt
each_before (row ∷ rows) blocks h = (
  all_along (λ next. AreBefore next.0 (row ∷ rows)) (λ next. is_before (name_of row) next.0 ≡ true) (λ next k. k.0) blocks h,
  each_before rows blocks (all_along (λ next. AreBefore next.0 (row ∷ rows)) (λ next. AreBefore next.0 rows) (λ next k. k.1) blocks h),
)

pub blocks_ascend : (blocks : List Block) → InBlocks blocks → IsTrue (ascends name_of (rows_in blocks))
blocks_ascend [] h = refl
blocks_ascend (b ∷ bs) h =
    let apart : AllByRecursion (λ next. AreBefore next.0 b.1.rows) bs =
    all_along (λ next. Precedes b next.0) (λ next. AreBefore next.0 b.1.rows) (λ next k. k.1) bs h.0.apart in
    ascends_joined name_of b.1.rows (rows_in bs) h.0.ascending (blocks_ascend bs h.1)
    (all_along (λ row. AreBehind (name_of row) bs) (λ row. IsTrue (leads name_of (name_of row) (rows_in bs)))
    (λ row k. leads_from name_of (name_of row) (rows_in bs) (back_behind (name_of row) bs h.1 k)) b.1.rows (each_before b.1.rows bs apart))

-- ---- the block of a name

-- the last with a key at or before it
pub record IsBlockOf (o : Oid) (blocks : List Block) (block : Block) : Type 0 where
  pub front : List Block
  pub back : List Block
  pub parts : blocks ≡ front ++ block ∷ back
  pub reached : is_before o block.0 ≡ false
  pub passed : AreBehind o back

pub parts_at : (xs : List Block) (i : ℕ) (d : Block) → i < length xs → xs ≡ take i xs ++ get_or xs i d ∷ drop (i + 1) xs
parts_at xs i d lt = sym (take-append-drop i xs) ∙ ap (λ l. take i xs ++ l) (front_at xs i d lt)

behind_both : (i : ℕ) → suc (i + 1) ≡ suc i + 1
behind_both i = omega arith

pub set_parts : (xs : List Block) (i : ℕ) (x : Block) → i < length xs → set xs i x ≡ take i xs ++ x ∷ drop (i + 1) xs
set_parts [] i x lt = absurd (omega arith)
set_parts (y ∷ ys) zero x lt = refl
set_parts (y ∷ ys) (suc i) x lt = ap (λ l. y ∷ l) (set_parts ys i x (omega (arith, lt))) ∙ ap (λ n. y ∷ (take i ys ++ x ∷ drop n (y ∷ ys))) (behind_both i)

pub insert_parts : (xs : List Block) (i : ℕ) (x : Block) → i ≤ length xs → insert xs i x ≡ take i xs ++ x ∷ drop i xs
insert_parts [] zero x le = refl
insert_parts [] (suc i) x le = absurd (omega (arith, le))
insert_parts (y ∷ ys) zero x le = refl
insert_parts (y ∷ ys) (suc i) x le = ap (λ l. y ∷ l) (insert_parts ys i x (omega (arith, le)))

-- keys behind a block are behind its own
keys_behind : (blocks : List Block) → InBlocks blocks → (i : ℕ) → i < length blocks → (d : Block) → AreBehind (get_or blocks i d).0 (drop (i + 1) blocks)
keys_behind blocks h i lt d =
    let b = get_or blocks i d in
    let its = parts_of (take i blocks) b (drop (i + 1) blocks) (subst InBlocks (parts_at blocks i d lt) h) in
    all_along (λ next. Precedes b next.0) (λ next. is_before b.0 next.0 ≡ true) (λ next p. p.0) (drop (i + 1) blocks) its.here.apart

any_default : (xs : List Block) (i : ℕ) (d e : Block) → i < length xs → get_or xs i d ≡ get_or xs i e
any_default [] i d e lt = absurd (omega arith)
any_default (x ∷ xs) zero d e lt = refl
any_default (x ∷ xs) (suc i) d e lt = any_default xs i d e (omega (arith, lt))

-- so a block is that of its own key
pub own_place : (blocks : List Block) → InBlocks blocks → (i : ℕ) → i < length blocks → (d : Block) → d ≡ get_or blocks i d → IsBlockAt d.0 blocks i
own_place blocks h i lt d e = record {
  in_range = lt;
  reached = λ f. subst (λ b. is_before d.0 b.0 ≡ false) (e ∙ any_default blocks i d f lt) (not_itself d.0);
  passed = subst (λ b. AreBehind b.0 (drop (i + 1) blocks)) (sym e) (keys_behind blocks h i lt d);
}

-- and one in front of the next key is that of a name between both
pub goes_between : (o : Oid) (blocks : List Block) → InBlocks blocks → (i : ℕ) → i + 1 < length blocks → (d e : Block)
    → is_before o (get_or blocks i d).0 ≡ false → is_before o (get_or blocks (i + 1) e).0 ≡ true → IsBlockAt o blocks i
goes_between o blocks h i lt d e low high =
    let next = get_or blocks (i + 1) e in
    record {
      in_range = omega (arith, lt);
      reached = λ f. subst (λ b. is_before o b.0 ≡ false) (any_default blocks i d f (omega (arith, lt))) low;
      passed = subst (AreBehind o) (sym (front_at blocks (i + 1) e lt)) (
        high,
        all_along (λ b. is_before next.0 b.0 ≡ true) (λ b. is_before o b.0 ≡ true) (λ b k. before_trans o next.0 b.0 high k) (drop (i + 1 + 1) blocks) (keys_behind blocks h (i + 1) lt e),
      );
    }

-- ---- where a search finds it

abbrev pub key_of : Block → Oid
key_of b = b.0

pub keys_ascend : (blocks : List Block) → InBlocks blocks → IsTrue (ascends key_of blocks)
keys_ascend [] h = refl
keys_ascend (b ∷ bs) h = headed key_of b bs (first bs h.0.apart) (keys_ascend bs h.1)
  where
    first : (others : List Block) → AllByRecursion (λ next. Precedes b next.0) others → IsTrue (leads key_of b.0 others)
    first [] k = refl
    first (x ∷ xs) k = k.0.0

all_drop : (P : Block → Type 0) (n : ℕ) (xs : List Block) → ((k : ℕ) (d : Block) → n ≤ k → k < length xs → P (get_or xs k d)) → AllByRecursion P (drop n xs)
all_drop P zero [] f = tt
all_drop P (suc n) [] f = tt
all_drop P zero (x ∷ xs) f = (f 0 x (omega arith) (omega arith), all_drop P zero xs (λ k d low lt. f (suc k) d (omega arith) (omega (arith, lt))))
all_drop P (suc n) (x ∷ xs) f = all_drop P n xs (λ k d low lt. f (suc k) d (omega (arith, low)) (omega (arith, lt)))

none_behind : (o : Oid) (i : ℕ) (xs : List Block) → length xs ≤ i + 1 → AreBehind o (drop (i + 1) xs)
none_behind o i xs le = all_drop (λ b. is_before o b.0 ≡ true) (i + 1) xs (λ k d low lt. absurd (omega (arith, le, low, lt)))

-- the last of all
pub last_is : (o : Oid) (blocks : List Block) (i : ℕ) → i + 1 ≡ length blocks → HoldsAt (λ b. is_before o b.0 ≡ false) blocks i → IsBlockAt o blocks i
last_is o blocks i is up = record { in_range = omega (arith, is); reached = up; passed = none_behind o i blocks (omega (arith, is)) }

-- the block whose key is the name
pub key_is : (o : Oid) (blocks : List Block) → InBlocks blocks → (i : ℕ) → IsAt key_of blocks o i → IsBlockAt o blocks i
key_is o [] h i at = absurd (omega (arith, at.in_range))
key_is o (b ∷ bs) h i at = record {
  in_range = at.in_range;
  reached = λ d. subst (λ k. is_before o k ≡ false) (sym (at.name_here d)) (not_itself o);
  passed = subst (λ k. AreBehind k (drop (i + 1) (b ∷ bs))) (at.name_here b) (keys_behind (b ∷ bs) h i at.in_range b);
}

-- or the one in front of the place where the name would go
pub key_before : (o : Oid) (blocks : List Block) (i : ℕ) → IsGap key_of blocks o (i + 1) → IsBlockAt o blocks i
key_before o blocks i gap = record {
  in_range = omega (arith, gap.in_range);
  reached = λ d. not_back (get_or blocks i d).0 o (gap.before i d (omega arith) (omega arith));
  passed = all_drop (λ b. is_before o b.0 ≡ true) (i + 1) blocks gap.behind;
}

-- where it would go in front of all, all are behind it
pub none_before : (o : Oid) (blocks : List Block) → IsGap key_of blocks o 0 → AreBehind o blocks
none_before o blocks gap = all_drop (λ b. is_before o b.0 ≡ true) 0 blocks gap.behind

-- one step in front of that place
pub before_gap : (o : Oid) (blocks : List Block) (i : ℕ) (r : Option ℕ) → IsGap key_of blocks o i → SomeIff r (1 ≤ i) (i - 1) → MatchOption r (AreBehind o blocks) (IsBlockAt o blocks)
before_gap o blocks zero None gap is = none_before o blocks gap
before_gap o blocks (suc i) None gap is = absurd (is (omega arith))
before_gap o blocks zero (Some n) gap is = absurd (omega (arith, is.0))
before_gap o blocks (suc i) (Some n) gap is = let next : suc i ≡ n + 1 = omega (arith, is.1) in key_before o blocks n (subst (IsGap key_of blocks o) next gap)

module _ (o : Oid) (blocks : List Block) (h : InBlocks blocks) (b : Block) (s : IsBlockOf o blocks b) where
  whole : InBlocks (s.front ++ b ∷ s.back)
  whole = subst InBlocks s.parts h

  its : AreParts s.front b s.back
  its = parts_of s.front b s.back whole

  in_front : AllByRecursion (λ row. IsTrue (is_before (name_of row) o)) (rows_in s.front)
  in_front = front_before o b.0 s.front its.before s.reached

  behind : AllByRecursion (λ row. IsTrue (is_before o (name_of row))) (rows_in s.back)
  behind = back_behind o s.back its.behind s.passed

  rows_are : rows_in blocks ≡ rows_in s.front ++ (b.1.rows ++ rows_in s.back)
  rows_are = ap rows_in s.parts ∙ rows_append s.front (b ∷ s.back)

  -- ---- what is found

  pub row_in_block : row_of name_of (rows_in blocks) o ≡ row_of name_of b.1.rows o
  row_in_block =
      ap (λ l. row_of name_of l o) rows_are
      ∙ row_of_behind name_of (rows_in s.front) (b.1.rows ++ rows_in s.back) o in_front
      ∙ row_of_front name_of b.1.rows (rows_in s.back) o behind

  pub block_ascends : IsTrue (ascends name_of b.1.rows)
  block_ascends = its.here.ascending

  -- ---- what is written over the block

  module _ (w : Holding) (new : List Block) (set_is : new ≡ s.front ++ (b.0, w) ∷ s.back) where
    -- the same rows
    module _ (is : w.rows ≡ b.1.rows) where
      pub rows_stay : rows_in new ≡ rows_in blocks
      rows_stay = ap rows_in set_is ∙ rows_append s.front ((b.0, w) ∷ s.back) ∙ ap (λ l. rows_in s.front ++ (l ++ rows_in s.back)) is ∙ sym rows_are

      pub order_stays : InBlocks new
      order_stays =
          subst InBlocks (sym set_is)
          (replaced s.front b s.back ((b.0, w) ∷ []) whole (not_itself b.0, tt) (
            record {
              ascending = subst (λ l. IsTrue (ascends name_of l)) (sym is) its.here.ascending;
              from_key = subst (AreFrom b.0) (sym is) its.here.from_key;
              apart = all_along (λ next. Precedes b next.0) (λ next. Precedes (b.0, w) next.0) (λ next p. (p.0, subst (AreBefore next.0) (sym is) p.1)) s.back its.here.apart;
            },
            its.behind,
          ))

    -- one row more, or another in the place of one
    module _ (version : ℕ) (object : Object) (is : w.rows ≡ placed name_of (o, version, object) b.1.rows) where
      pub rows_placed : rows_in new ≡ placed name_of (o, version, object) (rows_in blocks)
      rows_placed =
          ap rows_in set_is
          ∙ rows_append s.front ((b.0, w) ∷ s.back)
          ∙ ap (λ l. rows_in s.front ++ (l ++ rows_in s.back)) is
          ∙ sym (ap (placed name_of (o, version, object)) rows_are
          ∙ placed_behind name_of (o, version, object) (rows_in s.front) (b.1.rows ++ rows_in s.back) in_front
          ∙ ap (λ l. rows_in s.front ++ l) (placed_front name_of (o, version, object) b.1.rows (rows_in s.back) (leads_from name_of o (rows_in s.back) behind)))

      pub order_with_placed : InBlocks new
      order_with_placed =
          subst InBlocks (sym set_is)
          (replaced s.front b s.back ((b.0, w) ∷ []) whole (not_itself b.0, tt) (
            record {
              ascending = subst (λ l. IsTrue (ascends name_of l)) (sym is) (ascends_placed name_of (o, version, object) b.1.rows its.here.ascending);
              from_key = subst (AreFrom b.0) (sym is) (all_placed name_of (λ row. is_before (name_of row) b.0 ≡ false) (o, version, object) b.1.rows s.reached its.here.from_key);
              apart = all_two (λ next. Precedes b next.0) (λ next. is_before o next.0 ≡ true) (λ next. Precedes (b.0, w) next.0)
                  (λ next p q. (p.0, subst (AreBefore next.0) (sym is) (all_placed name_of (λ row. is_before (name_of row) next.0 ≡ true) (o, version, object) b.1.rows q p.1)))
                  s.back its.here.apart s.passed;
            },
            its.behind,
          ))
      -- ---- an empty block behind it

-- ---- the same of the block at a place

module _ (o : Oid) (blocks : List Block) (h : InBlocks blocks) (i : ℕ) (at : IsBlockAt o blocks i) (d : Block) (e : d ≡ get_or blocks i d) where
  abbrev pub its_block : IsBlockOf o blocks d
  its_block = record {
    front = take i blocks;
    back = drop (i + 1) blocks;
    parts = parts_at blocks i d at.in_range ∙ ap (λ b. take i blocks ++ b ∷ drop (i + 1) blocks) (sym e);
    reached = subst (λ b. is_before o b.0 ≡ false) (sym e) (at.reached d);
    passed = at.passed;
  }

  pub found_in_block : row_of name_of (rows_in blocks) o ≡ row_of name_of d.1.rows o
  found_in_block = row_in_block o blocks h d its_block

  module _ (w : Holding) where
    over : set blocks i (d.0, w) ≡ take i blocks ++ (d.0, w) ∷ drop (i + 1) blocks
    over = set_parts blocks i (d.0, w) at.in_range

    pub rows_at_stay : w.rows ≡ d.1.rows → rows_in (set blocks i (d.0, w)) ≡ rows_in blocks
    rows_at_stay is = rows_stay o blocks h d its_block w (set blocks i (d.0, w)) over is

    pub order_at_stays : w.rows ≡ d.1.rows → InBlocks (set blocks i (d.0, w))
    order_at_stays is = order_stays o blocks h d its_block w (set blocks i (d.0, w)) over is

    module _ (version : ℕ) (object : Object) (is : w.rows ≡ placed name_of (o, version, object) d.1.rows) where
      pub rows_at_placed : rows_in (set blocks i (d.0, w)) ≡ placed name_of (o, version, object) (rows_in blocks)
      rows_at_placed = rows_placed o blocks h d its_block w (set blocks i (d.0, w)) over version object is

      pub order_at_placed : InBlocks (set blocks i (d.0, w))
      order_at_placed = order_with_placed o blocks h d its_block w (set blocks i (d.0, w)) over version object is

-- where all keys are behind a name there is nothing of the name
pub no_row : (o : Oid) (blocks : List Block) → InBlocks blocks → AreBehind o blocks → row_of name_of (rows_in blocks) o ≡ None
no_row o blocks h e = row_of_front name_of [] (rows_in blocks) o (back_behind o blocks h e)

-- and the least name is before them
least_before : (o : Oid) (blocks : List Block) → AreBehind o blocks → AreBehind least blocks
least_before o blocks e = all_along (λ x. is_before o x.0 ≡ true) (λ x. is_before least x.0 ≡ true) (λ x k. until_before least o x.0 (none_before_least o) k) blocks e

-- ---- an empty block in front of all

module _ (o : Oid) (w : Holding) (none : w.rows ≡ []) (blocks : List Block) (h : InBlocks blocks) (behind : AreBehind o blocks) (new : List Block)
    (is : new ≡ insert blocks 0 (least, w)) where
  opened_is : new ≡ (least, w) ∷ blocks
  opened_is = is ∙ insert_parts blocks 0 (least, w) (omega arith)

  pub opened_rows : rows_in new ≡ rows_in blocks
  opened_rows = ap rows_in opened_is ∙ ap (λ l. l ++ rows_in blocks) none

  pub opened_order : InBlocks new
  opened_order =
      subst InBlocks (sym opened_is) (
        record {
          ascending = subst (λ l. IsTrue (ascends name_of l)) (sym none) refl;
          from_key = subst (AreFrom least) (sym none) tt;
          apart = all_along (λ x. is_before least x.0 ≡ true) (λ x. Precedes (least, w) x.0) (λ x e. (e, subst (AreBefore x.0) (sym none) tt)) blocks (least_before o blocks behind);
        },
        h,
      )

-- ---- the upper half in a block of its own

module _ (key : Oid) (blocks : List Block) (h : InBlocks blocks) (w : Holding) (s : IsBlockOf key blocks (key, w))
    (lower upper : Holding) (middle : Oid) (c : IsCut w.rows lower.rows middle upper.rows) where
  mine : AreParts s.front (key, w) s.back
  mine = its key blocks h (key, w) s

  split_rows : w.rows ≡ lower.rows ++ c.first ∷ c.others
  split_rows = c.parts ∙ ap (λ l. lower.rows ++ l) c.begins

  all_ascend : IsTrue (ascends name_of (lower.rows ++ c.first ∷ c.others))
  all_ascend = subst (λ l. IsTrue (ascends name_of l)) split_rows mine.here.ascending

  below_middle : AreBefore middle lower.rows
  below_middle = subst (λ o. AreBefore o lower.rows) c.named (ascends_parts name_of lower.rows c.others c.first all_ascend).0

  from_parts : AreFrom key lower.rows × AreFrom key upper.rows
  from_parts = all_split (λ row. is_before (name_of row) key ≡ false) lower.rows upper.rows (subst (AreFrom key) c.parts mine.here.from_key)

  key_below : is_before key middle ≡ true
  key_below = strictly lower.rows c.below from_parts.0 below_middle
    where
      strictly : (rows : Rows) → 0 < length rows → AreFrom key rows → AreBefore middle rows → is_before key middle ≡ true
      strictly [] lt f g = absurd (omega arith)
      strictly (row ∷ rows) lt f g = until_before key (name_of row) middle f.0 g.0

  -- the upper rows are at or behind the first of them
  from_middle : AreFrom middle upper.rows
  from_middle =
      let p = (ascends_parts name_of lower.rows c.others c.first all_ascend).1 in
      let q = parted name_of c.first c.others p in
      subst (λ l. AreFrom middle l) (sym c.begins)
      (subst (λ o. AreFrom o (c.first ∷ c.others)) c.named
      (not_itself (name_of c.first), all_along (λ row. IsTrue (is_before (name_of c.first) (name_of row))) (λ row. is_before (name_of row) (name_of c.first) ≡ false) (λ row k. not_back (name_of c.first) (name_of row) k) c.others (leads_all name_of (name_of c.first) c.others q.0 q.1)))

  apart_parts : (next : Block) → Precedes (key, w) next.0 → AreBefore next.0 lower.rows × AreBefore next.0 upper.rows
  apart_parts next p = all_split (λ row. is_before (name_of row) next.0 ≡ true) lower.rows upper.rows (subst (AreBefore next.0) c.parts p.1)

  middle_before : (next : Block) → Precedes (key, w) next.0 → is_before middle next.0 ≡ true
  middle_before next p = subst (λ o. is_before o next.0 ≡ true) c.named (subst (AreBefore next.0) c.begins (apart_parts next p).1).0

  middle_passed : AreBehind middle s.back
  middle_passed = all_along (λ next. Precedes (key, w) next.0) (λ next. is_before middle next.0 ≡ true) middle_before s.back mine.here.apart

  pub whole_ascends : IsTrue (ascends name_of (lower.rows ++ upper.rows))
  whole_ascends = subst (λ l. IsTrue (ascends name_of l)) c.parts mine.here.ascending

  module _ (new : List Block) (split_is : new ≡ s.front ++ (key, lower) ∷ (middle, upper) ∷ s.back) where
    pub rows_when_split : rows_in new ≡ rows_in blocks
    rows_when_split =
        ap rows_in split_is
        ∙ rows_append s.front ((key, lower) ∷ (middle, upper) ∷ s.back)
        ∙ ap (λ l. rows_in s.front ++ l) (sym (append_assoc lower.rows upper.rows (rows_in s.back)) ∙ ap (λ l. l ++ rows_in s.back) (sym c.parts))
        ∙ sym (rows_are key blocks h (key, w) s)

    pub order_when_split : InBlocks new
    order_when_split =
        subst InBlocks (sym split_is)
        (replaced s.front (key, w) s.back ((key, lower) ∷ (middle, upper) ∷ []) (whole key blocks h (key, w) s)
        (not_itself key, (not_back key middle key_below, tt)) (
          record {
            ascending = ascends_front name_of lower.rows upper.rows whole_ascends;
            from_key = from_parts.0;
            apart = (
              (key_below, below_middle),
              all_along (λ next. Precedes (key, w) next.0) (λ next. Precedes (key, lower) next.0) (λ next p. (p.0, (apart_parts next p).0)) s.back mine.here.apart,
            );
          },
          (
            record {
              ascending = ascends_back name_of lower.rows upper.rows whole_ascends;
              from_key = from_middle;
              apart = all_along (λ next. Precedes (key, w) next.0) (λ next. Precedes (middle, upper) next.0) (λ next p. (middle_before next p, (apart_parts next p).1)) s.back mine.here.apart;
            },
            mine.behind,
          ),
        ))

  -- ---- where there is no room for it, both halves in the block again

  pub both_ascend : (u v : Holding) → u ≡ lower → v ≡ upper → IsTrue (ascends name_of (u.rows ++ v.rows))
  both_ascend u v p q = subst (λ l. IsTrue (ascends name_of l)) (λ i. (sym p i).rows ++ (sym q i).rows) whole_ascends

  module _ (u : Holding) (is : u.rows ≡ lower.rows ++ upper.rows) (new : List Block) (again : new ≡ s.front ++ (key, u) ∷ s.back) where
    pub rows_when_joined : rows_in new ≡ rows_in blocks
    rows_when_joined = rows_stay key blocks h (key, w) s u new again (is ∙ sym c.parts)

    pub order_when_joined : InBlocks new
    order_when_joined = order_stays key blocks h (key, w) s u new again (is ∙ sym c.parts)

-- ---- the same at a place

get_set : (xs : List Block) (i : ℕ) (x d : Block) → i < length xs → get_or (set xs i x) i d ≡ x
get_set [] i x d lt = absurd (omega arith)
get_set (y ∷ ys) zero x d lt = refl
get_set (y ∷ ys) (suc i) x d lt = get_set ys i x d (omega (arith, lt))

set_twice : (xs : List Block) (i : ℕ) (x y : Block) → set (set xs i x) i y ≡ set xs i y
set_twice [] i x y = refl
set_twice (z ∷ zs) zero x y = refl
set_twice (z ∷ zs) (suc i) x y = ap (λ l. z ∷ l) (set_twice zs i x y)

insert_behind : (xs : List Block) (i : ℕ) (x y : Block) → i < length xs → insert (set xs i x) (i + 1) y ≡ take i xs ++ x ∷ y ∷ drop (i + 1) xs
insert_behind [] i x y lt = absurd (omega arith)
insert_behind (z ∷ zs) zero x y lt = ap (λ l. x ∷ l) (insert_parts zs 0 y (omega arith))
insert_behind (z ∷ zs) (suc i) x y lt =
    ap (λ n. insert (z ∷ set zs i x) n y) (sym (behind_both i))
    ∙ ap (λ l. z ∷ l) (insert_behind zs i x y (omega (arith, lt)))
    ∙ ap (λ n. z ∷ (take i zs ++ x ∷ y ∷ drop n (z ∷ zs))) (behind_both i)

module _ (blocks : List Block) (h : InBlocks blocks) (i : ℕ) (lt : i < length blocks) (d : Block) (e : d ≡ get_or blocks i d)
    (lower upper : Holding) (middle : Oid) (c : IsCut d.1.rows lower.rows middle upper.rows) where
  abbrev place : IsBlockAt d.0 blocks i
  place = own_place blocks h i lt d e

  abbrev its_own : IsBlockOf d.0 blocks d
  its_own = its_block d.0 blocks h i place d e

  module _ (new : List Block) (is : new ≡ insert (set blocks i (d.0, lower)) (i + 1) (middle, upper)) where
    pub rows_split_at : rows_in new ≡ rows_in blocks
    rows_split_at = rows_when_split d.0 blocks h d.1 its_own lower upper middle c new (is ∙ insert_behind blocks i (d.0, lower) (middle, upper) lt)

    pub order_split_at : InBlocks new
    order_split_at = order_when_split d.0 blocks h d.1 its_own lower upper middle c new (is ∙ insert_behind blocks i (d.0, lower) (middle, upper) lt)

  -- or there is no room for it
  module _ (still : List Block) (stays : still ≡ set blocks i (d.0, lower)) (r : Block) (at : r ≡ get_or still i r) (p : Oid × Holding) (returned : p ≡ (middle, upper)) where
    again : r ≡ (d.0, lower)
    again = at ∙ ap (λ l. get_or l i r) stays ∙ get_set blocks i (d.0, lower) r lt

    pub joined_ascends : IsTrue (ascends name_of (r.1.rows ++ p.1.rows))
    joined_ascends = both_ascend d.0 blocks h d.1 its_own lower upper middle c r.1 p.1 (ap (λ (b : Block). b.1) again) (ap (λ (q : Oid × Holding). q.1) returned)

    module _ (w : Holding) (is : w.rows ≡ r.1.rows ++ p.1.rows) where
      whole_again : w.rows ≡ lower.rows ++ upper.rows
      whole_again = is ∙ (λ j. (again j).1.rows ++ (returned j).1.rows)

      put_back : set still i (r.0, w) ≡ take i blocks ++ (d.0, w) ∷ drop (i + 1) blocks
      put_back = (λ j. set (stays j) i ((again j).0, w)) ∙ set_twice blocks i (d.0, lower) (d.0, w) ∙ set_parts blocks i (d.0, w) lt

      pub rows_joined_at : rows_in (set still i (r.0, w)) ≡ rows_in blocks
      rows_joined_at = rows_when_joined d.0 blocks h d.1 its_own lower upper middle c w whole_again (set still i (r.0, w)) put_back

      pub order_joined_at : InBlocks (set still i (r.0, w))
      order_joined_at = order_when_joined d.0 blocks h d.1 its_own lower upper middle c w whole_again (set still i (r.0, w)) put_back

-- ---- the same rows under the same keys

abbrev keyed : Block → Oid × Rows
keyed b = (b.0, b.1.rows)

abbrev pub under_keys : List Block → List (Oid × Rows)
under_keys blocks = map keyed blocks

abbrev flat : List (Oid × Rows) → Rows
flat [] = []
flat (p ∷ ps) = p.1 ++ flat ps

rows_flat : (blocks : List Block) → rows_in blocks ≡ flat (under_keys blocks)
rows_flat [] = refl
rows_flat (b ∷ bs) = ap (λ l. b.1.rows ++ l) (rows_flat bs)

pub nothing_left : (xs : List Block) → length xs ≡ 0 → xs ≡ []
nothing_left [] e = refl
nothing_left (x ∷ xs) e = absurd (omega (arith, e))

pub same_rows : (xs ys : List Block) → under_keys xs ≡ under_keys ys → rows_in xs ≡ rows_in ys
same_rows xs ys e = rows_flat xs ∙ ap flat e ∙ sym (rows_flat ys)

no_pairs : (p : Oid × Rows) (ps : List (Oid × Rows)) → p ∷ ps ≡ [] → ⊥
no_pairs p ps e = cc

first_pair : (p q : Oid × Rows) (ps qs : List (Oid × Rows)) → p ∷ ps ≡ q ∷ qs → p ≡ q
first_pair p q ps qs e = cc

other_pairs : (p q : Oid × Rows) (ps qs : List (Oid × Rows)) → p ∷ ps ≡ q ∷ qs → ps ≡ qs
other_pairs p q ps qs e = cc

pub same_order : (xs ys : List Block) → under_keys xs ≡ under_keys ys → InBlocks ys → InBlocks xs
same_order [] ys e h = tt
same_order (x ∷ xs) [] e h = absurd (no_pairs (keyed x) (under_keys xs) e)
same_order (x ∷ xs) (y ∷ ys) e h =
    let here : keyed x ≡ keyed y = first_pair (keyed x) (keyed y) (under_keys xs) (under_keys ys) e in
    let others : under_keys xs ≡ under_keys ys = other_pairs (keyed x) (keyed y) (under_keys xs) (under_keys ys) e in
    let over : AllByRecursion (λ (p : Oid × Rows). Precedes y p.0) (under_keys xs) =
    subst (λ l. AllByRecursion (λ (p : Oid × Rows). Precedes y p.0) l) (sym others) (all_map (λ (p : Oid × Rows). Precedes y p.0) keyed ys h.0.apart) in (
      record {
        ascending = subst (λ (p : Oid × Rows). IsTrue (ascends name_of p.1)) (sym here) h.0.ascending;
        from_key = subst (λ (p : Oid × Rows). AreFrom p.0 p.1) (sym here) h.0.from_key;
        apart = all_along (λ next. Precedes y next.0) (λ next. Precedes x next.0)
            (λ next k. subst (λ (p : Oid × Rows). (is_before p.0 next.0 ≡ true) × AreBefore next.0 p.1) (sym here) k) xs (all_of_map (λ (p : Oid × Rows). Precedes y p.0) keyed xs over);
      },
      same_order xs ys others h.1,
    )

-- the next block goes behind those before it
pub one_more : (all done rest : List Block) (key : Oid) (old w : Holding) → under_keys done ++ under_keys ((key, old) ∷ rest) ≡ under_keys all
    → w.rows ≡ old.rows → under_keys (done ++ (key, w) ∷ []) ++ under_keys rest ≡ under_keys all
one_more all done rest key old w e same =
    ap (λ l. l ++ under_keys rest) (map-append keyed done ((key, w) ∷ []))
    ∙ append_assoc (under_keys done) ((key, w.rows) ∷ []) (under_keys rest)
    ∙ ap (λ (rs : Rows). under_keys done ++ (key, rs) ∷ under_keys rest) same
    ∙ e
