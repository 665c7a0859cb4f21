-- What a commit changes where it is replayed: its parts, the stores that take part, and what caches and versions are behind it.
use Rattle.std.specs.Prelude.{◌≡◌, ◌⊎◌, ℕ, suc, ◌<◌, Bool, true, false, not, ◌&&◌, ◌||◌, ◌==◌, nat_lt, IsTrue, IsFalse, if◌then◌else◌}
use Rattle.std.specs.Prelude.{List, [], ◌∷◌, ◌++◌, map, length, fold, Option, Some, None, IsSome, nat_le}
use Rattle.std.specs.List.{filter, AllByRecursion}
use Rattle.std.proofs.Common.{refl, sym, ap, ◌∙◌, subst, inl, inr, true≢false, arith}
use Rattle.std.proofs.lemmas.Bool.{and_from, or_parts, or_left, or_right, eqb-true, eqb-false, eq-eqb, ne_eqb, not-false}
use Rattle.std.proofs.lemmas.Bool.{not_from_false}
use Rattle.fab_base.specs.declared.object.Oid.{Oid}
use Rattle.fab_base.specs.declared.object.Object.{Object}
use Rattle.fab_base.specs.declared.message.Items.{Items}
use Rattle.fab_base.specs.FlatMap.{FlatMap, get, ascends, is_same, is_among, put_all}
use Rattle.fab_base.proofs.Names.{same_self}
use Rattle.fab_base.specs.declared.object.Value.{Value}
use Rattle.fab_base.proofs.Lists.{all_filter, all_map, all_always}
use Rattle.fab_language.specs.declared.ending.Ending.{Ending}
use Rattle.fab_language.specs.declared.ending.Ending.TheVariants.{Ended, Failed, Stopped, Missing}
use Rattle.fab_language.specs.Heaps.{touched}
use Rattle.fab_language.specs.Meaning.{Meant}
use Rattle.fab_net.specs.declared.note.Commit.{Commit}
use Rattle.fab_protocol.specs.declared.parts.Parts.{Parts}
use Rattle.fab_protocol.specs.Caches.{with_older, last_distinct, at_store, cached}
use Rattle.fab_protocol.specs.Parts.{with_number, touched_names, stores_of, is_only_read, items_at, puts_of}
use Rattle.fab_protocol.specs.Stores.{Item, Read, Write, item_name, all_in, out_of_date}
use Rattle.fab_protocol.specs.Stores.{is_stale}
use Rattle.fab_protocol.specs.Tables.{row_of, placed, placed_all}
use Rattle.fab_protocol.specs.Versions.{Row, Rows, name_of, names_of, objects_of, version_of, risen, raised}
use Rattle.fab_protocol.proofs.TableLaws.{all_placed_all, row_of_placed, row_of_name}
use Rattle.fab_world.specs.Attempts.{parts_of, value_of}
use Rattle.fab_world.specs.Machine.{Setting}
use Rattle.fab_world.specs.Serial.{AreAlike, again, changes_of, replay_one, within}
use Rattle.fab_world.specs.Workers.{is_in}
use Rattle.fab_integrity.specs.Changed.{changed, named}
use Rattle.fab_integrity.proofs.Invariant.{In, State, IsEnded}
use Rattle.fab_integrity.proofs.Lists.{in_append, in_left, in_right, in_filter, filter_in, in_map, map_in, in_any, each_of, in_filter_map}
use Rattle.fab_integrity.proofs.Maps.{get_filter, ascends_filter, same_maps, among_in, in_among, row_listed}
use Rattle.fab_integrity.proofs.Items.{in_reads, in_writes, write_here}

-- ---- a commit more

-- the names that a replayed commit changes, of classes in ex
abbrev pub changes_in : (S : Setting) (ex : ℕ → Bool) → FlatMap → Commit → FlatMap
changes_in S ex N c = within ex (changes_of (parts_of c.answers (again S ex N c)))

-- how objects stand behind a commit more: those that it changes at a version more
abbrev pub behind_one : (S : Setting) (ex : ℕ → Bool) → State → Commit → State
behind_one S ex C c = record {
  map = replay_one S ex C.map c;
  version = λ o. if is_among o (map (λ (r : Oid × Object). r.0) (changes_in S ex C.map c)) then suc (C.version o) else C.version o;
}

-- rows with the versions of answers, without these versions
without_versions : (answers : Rows) (rows : FlatMap) → objects_of (map (λ (c : Oid × Object). (c.0, version_of answers c.0, c.1)) rows) ≡ rows
without_versions answers [] = refl
without_versions answers (row ∷ rows) = ap (λ l. row ∷ l) (without_versions answers rows)

-- what was written and then what was made are the changes of the attempt's parts
pub changed_by : (ex : ℕ → Bool) (answers : Rows) (meant : Meant) (N : FlatMap)
    → changed ex meant.written meant.made meant.map N ≡ put_all (within ex (changes_of (parts_of answers meant))) N
changed_by ex answers meant N =
    ap (λ l. put_all (within ex (l ++ named meant.made meant.map)) N) (sym (without_versions answers (named meant.written meant.map)))

-- ---- the parts of evaluations that are alike

same_filter : (os : List Oid) (m k : FlatMap) → IsTrue (ascends m) → IsTrue (ascends k) → ((o : Oid) → IsTrue (is_among o os) → get m o ≡ get k o)
    → filter (λ (c : Oid × Object). is_among c.0 os) m ≡ filter (λ (c : Oid × Object). is_among c.0 os) k
same_filter os m k h g same =
    same_maps (filter (λ (c : Oid × Object). is_among c.0 os) m) (filter (λ (c : Oid × Object). is_among c.0 os) k)
    (ascends_filter (λ c. is_among c.0 os) m h) (ascends_filter (λ c. is_among c.0 os) k g)
    (λ o. get_filter (λ p. is_among p os) m o ∙ step o (is_among o os) refl ∙ sym (get_filter (λ p. is_among p os) k o))
  where
    step : (o : Oid) (b : Bool) → is_among o os ≡ b → (if b then get m o else None) ≡ (if b then get k o else None)
    step o true e = same o e
    step o false e = refl

-- evaluations that are alike come to the same parts
pub same_parts : (answers : Rows) (first second : Meant) → IsTrue (ascends first.map) → IsTrue (ascends second.map) → AreAlike first second
    → parts_of answers second ≡ parts_of answers first
same_parts answers first second h g alike =
    let written : filter (λ (c : Oid × Object). is_among c.0 second.written) second.map ≡ filter (λ (c : Oid × Object). is_among c.0 first.written) first.map =
    ap (λ os. filter (λ (c : Oid × Object). is_among c.0 os) second.map) (sym alike.written)
    ∙ sym (same_filter first.written first.map second.map h g (λ o i. alike.changed o (or_left (is_among o first.written) (is_among o first.made) i))) in
    let made : filter (λ (c : Oid × Object). is_among c.0 second.made) second.map ≡ filter (λ (c : Oid × Object). is_among c.0 first.made) first.map =
    ap (λ os. filter (λ (c : Oid × Object). is_among c.0 os) second.map) (sym alike.made)
    ∙ sym (same_filter first.made first.map second.map h g (λ o i. alike.changed o (or_right (is_among o first.written) (is_among o first.made) i))) in
    λ i. record {
      value = value_of (sym alike.ending i);
      touched = map (λ o. (o, version_of answers o)) (touched (sym alike.touches i));
      writes = map (λ (c : Oid × Object). (c.0, version_of answers c.0, c.1)) (written i);
      creates = made i;
    }

-- ---- what the parts write and make

module _ (answers : Rows) (meant : Meant) where
  abbrev as_write : Oid × Object → Row
  as_write c = (c.0, version_of answers c.0, c.1)

  -- a write is an object that the meaning wrote, at the version of its answer
  pub record IsWritten (w : Row) : Type 0 where
    pub listed : In w.0 meant.written
    pub version : w.1 ≡ version_of answers w.0
    pub object : In (w.0, w.2) meant.map

  -- each write is such a one
  pub written_from : (w : Row) → In w (parts_of answers meant).writes → IsWritten w
  written_from w i =
      let r = in_map as_write w (filter (λ (c : Oid × Object). is_among c.0 meant.written) meant.map) i in
      let f = in_filter (λ (c : Oid × Object). is_among c.0 meant.written) r.0 meant.map r.1 in
      subst IsWritten (sym r.2) (record { listed = among_in r.0.0 meant.written f.1; version = refl; object = f.0 })

  -- and each such one is a write
  pub written_to : (o : Oid) (x : Object) → In o meant.written → In (o, x) meant.map → In (o, version_of answers o, x) (parts_of answers meant).writes
  written_to o x i g =
      map_in as_write (o, x) (filter (λ (c : Oid × Object). is_among c.0 meant.written) meant.map)
      (filter_in (λ (c : Oid × Object). is_among c.0 meant.written) (o, x) meant.map g (in_among o meant.written i))

  -- what is created was made
  pub made_from : (c : Oid × Object) → In c (parts_of answers meant).creates → In c.0 meant.made × In c meant.map
  made_from c i =
      let f = in_filter (λ (c : Oid × Object). is_among c.0 meant.made) c meant.map i in
      (among_in c.0 meant.made f.1, f.0)

  pub made_to : (o : Oid) (x : Object) → In o meant.made → In (o, x) meant.map → In (o, x) (parts_of answers meant).creates
  made_to o x i g = filter_in (λ (c : Oid × Object). is_among c.0 meant.made) (o, x) meant.map g (in_among o meant.made i)

  -- what changes was written or made, and is as it stands behind it
  pub change_from : (c : Oid × Object) → In c (changes_of (parts_of answers meant)) → (In c.0 meant.written ⊎ In c.0 meant.made) × In c meant.map
  change_from c i = elim (in_append c (objects_of (parts_of answers meant).writes) (parts_of answers meant).creates i) [
    | inl a ↦
        let r = in_map (λ (row : Row). (row.0, row.2)) c (parts_of answers meant).writes a in
        let g = written_from r.0 r.1 in
        subst (λ (c : Oid × Object). (In c.0 meant.written ⊎ In c.0 meant.made) × In c meant.map) (sym r.2) (inl g.listed, g.object)
    | inr b ↦ let g = made_from c b in (inr g.0, g.1)
  ]

  -- and what was written or made changes
  pub change_to : (o : Oid) (x : Object) → In o meant.written ⊎ In o meant.made → In (o, x) meant.map → In (o, x) (changes_of (parts_of answers meant))
  change_to o x (inl w) g =
      in_left (o, x) (objects_of (parts_of answers meant).writes) (parts_of answers meant).creates
      (map_in (λ (row : Row). (row.0, row.2)) (o, version_of answers o, x) (parts_of answers meant).writes (written_to o x w g))
  change_to o x (inr m) g = in_right (o, x) (objects_of (parts_of answers meant).writes) (parts_of answers meant).creates (made_to o x m g)

  -- what was touched is so at the version of its answer
  pub touched_to : (o : Oid) → In o (touched meant.touches) → In (o, version_of answers o) (parts_of answers meant).touched
  touched_to o i = map_in (λ (o : Oid). (o, version_of answers o)) o (touched meant.touches) i

-- ---- the stores that take part

with_keeps : (x n : ℕ) (ms : List ℕ) → In x ms → In x (with_number ms n)
with_keeps x n [] i = absurd i
with_keeps x n (m ∷ ms) i =
    elim (nat_lt n m) as (λ b. In x (if b then n ∷ m ∷ ms else (if n == m then m ∷ ms else m ∷ with_number ms n))) [
      | true ↦ inr i
      | false ↦ elim (n == m) as (λ b. In x (if b then m ∷ ms else m ∷ with_number ms n)) [
        | true ↦ i
        | false ↦ elim i [ inl e ↦ inl e | inr t ↦ inr (with_keeps x n ms t) ]
      ]
    ]

with_new : (n : ℕ) (ms : List ℕ) → In n (with_number ms n)
with_new n [] = inl refl
with_new n (m ∷ ms) =
    elim (nat_lt n m) as (λ b. In n (if b then n ∷ m ∷ ms else (if n == m then m ∷ ms else m ∷ with_number ms n))) [
      | true ↦ inl refl
      | false ↦ elim (n == m) as (λ b. (n == m) ≡ b → In n (if b then m ∷ ms else m ∷ with_number ms n)) [
        | true ↦ λ e. inl (eqb-true n m e)
        | false ↦ λ e. inr (with_new n ms)
      ] refl
    ]

numbers_in : (x : ℕ) (ns known : List ℕ) → In x known ⊎ In x ns → In x (fold with_number known ns)
numbers_in x [] known (inl i) = i
numbers_in x [] known (inr i) = absurd i
numbers_in x (n ∷ ns) known (inl i) = numbers_in x ns (with_number known n) (inl (with_keeps x n known i))
numbers_in x (n ∷ ns) known (inr (inl e)) =
    numbers_in x ns (with_number known n) (inl (subst (λ y. In y (with_number known n)) (sym e) (with_new n known)))
numbers_in x (n ∷ ns) known (inr (inr i)) = numbers_in x ns (with_number known n) (inr i)

-- the store of an object that is touched or made takes part
pub part_of : (parts : Parts) (o : Oid) → In o (touched_names parts) ⊎ In o (map (λ (c : Oid × Object). c.0) parts.creates)
    → IsTrue (is_in o.store (stores_of parts))
part_of parts o h =
    let names : List Oid = touched_names parts ++ map (λ (c : Oid × Object). c.0) parts.creates in
    let listed : In o names = elim h [
      | inl a ↦ in_left o (touched_names parts) (map (λ (c : Oid × Object). c.0) parts.creates) a
      | inr b ↦ in_right o (touched_names parts) (map (λ (c : Oid × Object). c.0) parts.creates) b
    ] in
    in_any (λ m. m == o.store) o.store (stores_of parts)
    (numbers_in o.store (map (λ (o : Oid). o.store) names) [] (inr (map_in (λ (o : Oid). o.store) o names listed))) (eq-eqb o.store o.store refl)

pub touched_part : (answers : Rows) (meant : Meant) (o : Oid) → In o (touched meant.touches) → IsTrue (is_in o.store (stores_of (parts_of answers meant)))
touched_part answers meant o i =
    part_of (parts_of answers meant) o
    (inl (map_in (λ (t : Oid × ℕ). t.0) (o, version_of answers o) (parts_of answers meant).touched (touched_to answers meant o i)))

pub made_part : (answers : Rows) (meant : Meant) (c : Oid × Object) → In c (parts_of answers meant).creates
    → IsTrue (is_in c.0.store (stores_of (parts_of answers meant)))
made_part answers meant c i = part_of (parts_of answers meant) c.0 (inr (map_in (λ (c : Oid × Object). c.0) c (parts_of answers meant).creates i))

-- ---- the items that they prepare

placed_some : {R : Type 0} (name : R → Oid) (r : R) (rows : List R) (o : Oid) → IsSome (row_of name rows o) → IsSome (row_of name (placed name r rows) o)
placed_some name r rows o h =
    subst IsSome (sym (row_of_placed name r rows o))
    (elim (is_same (name r) o) as (λ b. IsSome (if b then Some r else row_of name rows o)) [ true ↦ refl | false ↦ h ])

placed_new : {R : Type 0} (name : R → Oid) (r : R) (rows : List R) (o : Oid) → o ≡ name r → IsSome (row_of name (placed name r rows) o)
placed_new name r rows o e =
    let same : is_same (name r) o ≡ true = subst (λ p. is_same p o ≡ true) e (same_self o) in
    subst IsSome (sym (row_of_placed name r rows o ∙ ap (λ b. if b then Some r else row_of name rows o) same)) refl

placed_all_some : {R : Type 0} (name : R → Oid) (rs rows : List R) (o : Oid) → IsSome (row_of name rows o) ⊎ In o (map name rs)
    → IsSome (row_of name (placed_all name rs rows) o)
placed_all_some name [] rows o (inl h) = h
placed_all_some name [] rows o (inr i) = absurd i
placed_all_some name (r ∷ rs) rows o (inl h) = placed_all_some name rs (placed name r rows) o (inl (placed_some name r rows o h))
placed_all_some name (r ∷ rs) rows o (inr (inl e)) = placed_all_some name rs (placed name r rows) o (inl (placed_new name r rows o e))
placed_all_some name (r ∷ rs) rows o (inr (inr i)) = placed_all_some name rs (placed name r rows) o (inr i)

-- what is there is something
pub some_is : {R : Type 0} (found : Option R) → IsSome found → (r : R) × (found ≡ Some r)
some_is None h = absurd (true≢false (sym h))
some_is (Some r) h = (r, refl)

-- an item of an object that was touched: at the version of the answer
pub record IsItem (answers : Rows) (items : Items) (o : Oid) : Type 0 where
  pub item : Item
  pub listed : In item (all_in items)
  pub name : item_name item ≡ o
  pub dated : (rows : Rows) → IsFalse (out_of_date rows item).0 → IsFalse (is_stale (version_of rows o) (version_of answers o))

module _ (answers : Rows) (meant : Meant) (o : Oid) (i : In o (touched meant.touches)) where
  written_item : In o (names_of (parts_of answers meant).writes) → IsItem answers (items_at (parts_of answers meant) o.store) o
  written_item among =
      let r = in_map name_of o (parts_of answers meant).writes among in
      let g = written_from answers meant r.0 r.1 in
      record {
        item = Write r.0.0 r.0.1 r.0.2;
        listed = in_writes (items_at (parts_of answers meant) o.store) r.0
            (subst (λ (p : Oid). In r.0 (items_at (parts_of answers meant) p.store).writes) (sym r.2) (write_here (parts_of answers meant) r.0 r.1));
        name = sym r.2;
        dated = λ rows h. subst (λ p. IsFalse (is_stale (version_of rows p) (version_of answers p))) (sym r.2)
            (subst (λ v. IsFalse (is_stale (version_of rows r.0.0) v)) g.version h);
      }

  abbrev read_here : List (Oid × ℕ)
  read_here = filter (λ (r : Oid × ℕ). (r.0.store == o.store) && is_only_read (parts_of answers meant) r.0) (parts_of answers meant).touched

  abbrev IsAnswered : Oid × ℕ → Type 0
  IsAnswered r = r.1 ≡ version_of answers r.0

  read_item : is_among o (names_of (parts_of answers meant).writes) ≡ false → IsItem answers (items_at (parts_of answers meant) o.store) o
  read_item none =
      let passes : ((o.store == o.store) && is_only_read (parts_of answers meant) o) ≡ true =
      and_from (o.store == o.store) (is_only_read (parts_of answers meant) o) (eq-eqb o.store o.store refl)
      (not_from_false (is_among o (names_of (parts_of answers meant).writes)) none) in
      let there : In (o, version_of answers o) read_here =
      filter_in (λ (r : Oid × ℕ). (r.0.store == o.store) && is_only_read (parts_of answers meant) r.0) (o, version_of answers o)
      (parts_of answers meant).touched (touched_to answers meant o i) passes in
      let found = some_is (row_of (λ (r : Oid × ℕ). r.0) (placed_all (λ (r : Oid × ℕ). r.0) read_here []) o)
      (placed_all_some (λ (r : Oid × ℕ). r.0) read_here [] o (inr (map_in (λ (r : Oid × ℕ). r.0) (o, version_of answers o) read_here there))) in
      let listed = row_listed (λ (r : Oid × ℕ). r.0) (placed_all (λ (r : Oid × ℕ). r.0) read_here []) o found.0 found.1 in
      let named : found.0.0 ≡ o = row_of_name (λ (r : Oid × ℕ). r.0) (placed_all (λ (r : Oid × ℕ). r.0) read_here []) o found.0 found.1 in
      let all : AllByRecursion IsAnswered read_here =
      all_filter IsAnswered (λ (r : Oid × ℕ). (r.0.store == o.store) && is_only_read (parts_of answers meant) r.0) (parts_of answers meant).touched
      (all_map IsAnswered (λ (o : Oid). (o, version_of answers o)) (touched meant.touches)
      (all_always (λ (o : Oid). version_of answers o ≡ version_of answers o) (λ o. refl) (touched meant.touches))) in
      let version : found.0.1 ≡ version_of answers found.0.0 =
      each_of IsAnswered (placed_all (λ (r : Oid × ℕ). r.0) read_here []) found.0
      (all_placed_all (λ (r : Oid × ℕ). r.0) IsAnswered read_here [] all tt) listed in
      record {
        item = Read found.0.0 found.0.1;
        listed = in_reads (items_at (parts_of answers meant) o.store) found.0 listed;
        name = named;
        dated = λ rows h. subst (λ p. IsFalse (is_stale (version_of rows p) (version_of answers p))) named
            (subst (λ v. IsFalse (is_stale (version_of rows found.0.0) v)) version h);
      }

  -- each object that was touched has an item at its store, of the version of its answer
  pub touched_item : IsItem answers (items_at (parts_of answers meant) o.store) o
  touched_item =
      elim (is_among o (names_of (parts_of answers meant).writes)) as (λ b. is_among o (names_of (parts_of answers meant).writes) ≡ b
      → IsItem answers (items_at (parts_of answers meant) o.store) o) [
        | true ↦ λ e. written_item (among_in o (names_of (parts_of answers meant).writes) e)
        | false ↦ λ e. read_item e
      ] refl

-- ---- caches

in_older : (k : ℕ) (row r : Row) (newer : Rows) → In r (with_older k row newer) → (r ≡ row) ⊎ In r newer
in_older k row r newer =
    elim (is_among row.0 (names_of newer) || nat_le k (length newer)) as (λ b. In r (if b then newer else row ∷ newer) → (r ≡ row) ⊎ In r newer) [
      | true ↦ λ i. inr i
      | false ↦ λ i. i
    ]

pub in_distinct : (k : ℕ) (rows : Rows) (r : Row) → In r (last_distinct k rows) → In r rows
in_distinct k [] r i = i
in_distinct k (row ∷ rows) r i = elim (in_older k row r (last_distinct k rows) i) [ inl e ↦ inl e | inr t ↦ inr (in_distinct k rows r t) ]

-- a cached row was cached or is put
pub in_cached : (k : ℕ) (puts : Rows) (s : ℕ) (caches : List Rows) (rows : Rows) (r : Row) → In rows (cached k puts s caches) → In r rows
    → ((old : Rows) × In old caches × In r old) ⊎ In r puts
in_cached k puts s [] rows r i j = absurd i
in_cached k puts s (cache ∷ caches) rows r (inl e) j =
    elim (in_append r cache (at_store s puts) (in_distinct k (cache ++ at_store s puts) r (subst (In r) e j))) [
      | inl old ↦ inl (cache, inl refl, old)
      | inr new ↦ inr (in_filter (λ (row : Row). row.0.store == s) r puts new).0
    ]
in_cached k puts s (cache ∷ caches) rows r (inr i) j = elim (in_cached k puts (suc s) caches rows r i j) [
  | inl (old, listed, has) ↦ inl (old, inr listed, has)
  | inr new ↦ inr new
]

-- a put is a written row raised, or an answered one
pub put_from : (answers : Rows) (parts : Parts) (r : Row) → In r (puts_of answers parts) → ((w : Row) × In w parts.writes × (r ≡ raised w)) ⊎ In r answers
put_from answers parts r i =
    let found = in_filter_map (row_of name_of (map raised parts.writes ++ answers)) r (touched_names parts) i in
    elim (in_append r (map raised parts.writes) answers (row_listed name_of (map raised parts.writes ++ answers) found.0 r found.2)) [
      | inl w ↦ inl (in_map raised r parts.writes w)
      | inr a ↦ inr a
    ]

-- ---- versions

-- versions rise by one, as long as there is room
pub risen_is : (k : ℕ) → k < 4294967295 → risen k ≡ suc k
risen_is k low = ap (λ b. if b then k else suc k) (ne_eqb k 4294967295 (λ e. omega (arith, low, e)))

risen_step : (k : ℕ) → k < 4294967296 → (b : Bool) → (k == 4294967295) ≡ b → (if b then k else suc k) < 4294967296
risen_step k low true e = low
risen_step k low false e = let other = eqb-false k 4294967295 e in omega (arith, low, other)

pub risen_low : (k : ℕ) → k < 4294967296 → risen k < 4294967296
risen_low k low = risen_step k low (k == 4294967295) refl

-- what isn't stale is at the current version, which there is
pub fresh_is : (current version : ℕ) → is_stale current version ≡ false → (version ≡ current) × (current ≡ 0 → ⊥)
fresh_is current version h =
    let g = or_parts (current == 0) (not (version == current)) h in
    (eqb-true version current (not-false (version == current) g.1), eqb-false current 0 g.0)

-- ---- an attempt that ended

-- an evaluation that ended has a value
pub ended_is : (ending : Ending) → IsEnded ending → (v : Option Value) × (ending ≡ Ended v)
ended_is (Ended v) h = (v, refl)
ended_is Failed h = absurd h
ended_is (Stopped limit) h = absurd h
ended_is (Missing site o) h = absurd h
