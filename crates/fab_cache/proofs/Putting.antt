-- Entries of which the newest stands first, as the list of rows shows them: a name among them, a look-up, and an older row behind them.
use Rattle.std.proofs.Common.{◌≡◌, ℕ, ◌==◌, Bool, true, false, not, ◌||◌, nat_le, cond, if◌then◌else◌, List, [], ◌∷◌, ◌++◌, length, map, reverse, is_some, Option, Some, None, refl, sym, subst, ap, ◌∙◌, arith}
use Rattle.std.specs.List.{list_any}
use Rattle.std.specs.Map.{lookup}
use Rattle.std.specs.Option.{option_map, option_or}
use Rattle.std.proofs.lemmas.Bool.{or_parts, not-true, not-false}
use Rattle.std.proofs.lemmas.Bool.Decides.{nat_tests}
use Rattle.std.proofs.lemmas.List.{length-map, length-reverse, reverse-append, reverse-reverse, map-append}
use Rattle.std.proofs.lemmas.List.Elements.{filter-append}
use Rattle.std.proofs.lemmas.List.Folds.{find-append, list_any-append}
use Rattle.indexmap.specs.IndexMap.{insert_entry}
use Rattle.fab_base.specs.declared.object.Oid.{Oid}
use Rattle.fab_base.specs.declared.object.Object.{Object}
use Rattle.fab_base.specs.contracts.object.OidPartialEq as oids
use Rattle.fab_base.specs.FlatMap.{is_among, is_same}
use Rattle.fab_base.proofs.Names.{same_flips}
use Rattle.fab_base.proofs.NameOrder.{one_name}
use Rattle.fab_protocol.specs.Tables.{OnlyOnce, row_of}
use Rattle.fab_protocol.specs.Versions.{Row, Rows, name_of, names_of}
use Rattle.fab_protocol.specs.Caches.{at_store, last_distinct, with_older}
use Rattle.fab_protocol.proofs.NameLists.{once_append}
use Rattle.fab_cache.specs.Caching.{lasting, row_of_entry, rows_in}
use Rattle.fab_cache.proofs.Lasting.{named, older_new, older_settled, lasting_behind, last_behind, last_walk}

abbrev Entries : Type 0
Entries = List (Oid × (ℕ × Object))

-- ---- names

-- the derived comparison of names is that of their parts
eq_is : (o p : Oid) → oids.TheImpl.ghosts.eq o p ≡ is_same o p
eq_is o p = grind (arith, nat_tests)

any_reversed : (test : Row → Bool) (rows : Rows) → list_any test (reverse rows) ≡ list_any test rows
any_reversed test [] = refl
any_reversed test (row ∷ rows) =
    ap (list_any test) (reverse-append (row ∷ []) rows)
    ∙ list_any-append test (reverse rows) (row ∷ [])
    ∙ ap (λ b. b || (test row || false)) (any_reversed test rows)
    ∙ turned (list_any test rows) (test row)
  where
    turned : (a b : Bool) → (a || (b || false)) ≡ (b || a)
    turned true b = elim b as (λ c. true ≡ (c || true)) [ true ↦ refl | false ↦ refl ]
    turned false b = refl

among_reversed : (o : Oid) (rows : Rows) → is_among o (names_of (reverse rows)) ≡ is_among o (names_of rows)
among_reversed o rows = named o (reverse rows) ∙ any_reversed (λ row. is_same row.0 o) rows ∙ sym (named o rows)

-- names that stand once do so in reverse
pub once_reversed : (rows : Rows) → OnlyOnce (names_of rows) → OnlyOnce (names_of (reverse rows))
once_reversed [] h = tt
once_reversed (row ∷ rows) h =
    subst (λ l. OnlyOnce (names_of l)) (sym (reverse-append (row ∷ []) rows))
    (subst OnlyOnce (sym (map-append name_of (reverse rows) (row ∷ [])))
    (once_append (names_of (reverse rows)) (row.0 ∷ []) (once_reversed rows h.1) (refl, tt) (among_reversed row.0 rows ∙ h.0, tt)))

-- ---- a name among entries

pub as_many_rows : (es : List (Oid × (ℕ × Object))) → length (rows_in es) ≡ length es
as_many_rows es = length-reverse (map row_of_entry es) ∙ length-map es row_of_entry

-- a name is among the rows where a look-up finds something
pub among_is : (o : Oid) (es : Entries) → is_some (lookup (oids.TheImpl.ghosts.eq o) es) ≡ is_among o (names_of (rows_in es))
among_is o es = along es ∙ sym (among_reversed o (map row_of_entry es))
  where
    step : (e : Oid × (ℕ × Object)) (more : Entries) (b : Bool) → is_some (lookup (oids.TheImpl.ghosts.eq o) more) ≡ is_among o (names_of (map row_of_entry more))
        → is_some (cond b (Some e.1) (lookup (oids.TheImpl.ghosts.eq o) more)) ≡ (b || is_among o (names_of (map row_of_entry more)))
    step e more true h = refl
    step e more false h = h

    along : (more : Entries) → is_some (lookup (oids.TheImpl.ghosts.eq o) more) ≡ is_among o (names_of (map row_of_entry more))
    along [] = refl
    along (e ∷ more) =
        step e more (oids.TheImpl.ghosts.eq o e.0) (along more)
        ∙ ap (λ b. b || is_among o (names_of (map row_of_entry more))) (eq_is o e.0 ∙ same_flips o e.0)

-- ---- an older row behind newer entries

-- an entry of another name goes last
goes_last : (o : Oid) (x : ℕ × Object) (es : Entries) → is_some (lookup (oids.TheImpl.ghosts.eq o) es) ≡ false
    → insert_entry oids.TheImpl.ghosts.eq es o x ≡ es ++ (o, x) ∷ []
goes_last o x [] h = refl
goes_last o x (e ∷ es) h =
    elim (oids.TheImpl.ghosts.eq o e.0) as (λ b. is_some (cond b (Some e.1) (lookup (oids.TheImpl.ghosts.eq o) es)) ≡ false
    → (if b then (e.0, x) ∷ es else e ∷ insert_entry oids.TheImpl.ghosts.eq es o x) ≡ e ∷ (es ++ (o, x) ∷ [])) [
      | true ↦ λ t. cc
      | false ↦ λ t. ap (λ l. e ∷ l) (goes_last o x es t)
    ] h

rows_more : (es : Entries) (e : Oid × (ℕ × Object)) → rows_in (es ++ e ∷ []) ≡ row_of_entry e ∷ rows_in es
rows_more es e = ap reverse (map-append row_of_entry es (e ∷ [])) ∙ reverse-append (map row_of_entry es) (row_of_entry e ∷ [])

module _ (k : ℕ) (o : Oid) where
  abbrev test : Entries → Bool
  test es = is_among o (names_of (rows_in es)) || nat_le k (length (rows_in es))

  pub no_room_for : (row : Row) (es : Entries) → row.0 ≡ o → not (test es) ≡ false → rows_in es ≡ with_older k row (rows_in es)
  no_room_for row es is h =
      sym (older_settled k row (rows_in es) (ap (λ p. is_among p (names_of (rows_in es)) || nat_le k (length (rows_in es))) is ∙ not-false (test es) h))

  pub room_for : (x : ℕ × Object) (es new : Entries) → not (test es) ≡ true → new ≡ insert_entry oids.TheImpl.ghosts.eq es o x
      → rows_in new ≡ with_older k (row_of_entry (o, x)) (rows_in es)
  room_for x es new h is =
      let free : test es ≡ false = not-true (test es) h in
      let absent : is_some (lookup (oids.TheImpl.ghosts.eq o) es) ≡ false =
      among_is o es ∙ (or_parts (is_among o (names_of (rows_in es))) (nat_le k (length (rows_in es))) free).0 in
      ap rows_in (is ∙ goes_last o x es absent)
      ∙ rows_more es (o, x)
      ∙ sym (older_new k (row_of_entry (o, x)) (rows_in es) free)

-- ---- walks

-- the first of the entries that are left is the last of their rows
pub keep_next : (k : ℕ) (e : Oid × (ℕ × Object)) (rest more : Entries) (now after target : Rows) → rest ≡ e ∷ more
    → after ≡ with_older k (row_of_entry e) now → lasting k (rows_in rest) now ≡ target → lasting k (rows_in more) after ≡ target
keep_next k e rest more now after target split is goal =
    ap (lasting k (rows_in more)) is
    ∙ sym (lasting_behind k (rows_in more) (row_of_entry e ∷ []) now)
    ∙ ap (λ l. lasting k l now) (sym (reverse-append (row_of_entry e ∷ []) (map row_of_entry more)) ∙ ap rows_in (sym split))
    ∙ goal

module _ (k s : ℕ) (rest older : Rows) (put : Row) (now target : Rows) (split : rest ≡ older ++ put ∷ []) (goal : lasting k (at_store s rest) now ≡ target) where
  store_last : (b : Bool) → (put.0.store == s) ≡ b → lasting k (at_store s older) (lasting k (cond b (put ∷ []) []) now) ≡ target
  store_last b h =
      sym (lasting_behind k (at_store s older) (cond b (put ∷ []) []) now)
      ∙ ap (λ c. lasting k (at_store s older ++ cond c (put ∷ []) []) now) (sym h)
      ∙ ap (λ l. lasting k l now) (sym (filter-append (λ (r : Row). r.0.store == s) older (put ∷ [])) ∙ ap (at_store s) (sym split))
      ∙ goal

  pub put_here : (after : Rows) → (put.0.store == s) ≡ true → after ≡ with_older k put now → lasting k (at_store s older) after ≡ target
  put_here after here is = ap (lasting k (at_store s older)) is ∙ store_last true here

  pub put_elsewhere : (put.0.store == s) ≡ false → lasting k (at_store s older) now ≡ target
  put_elsewhere there = store_last false there

-- a cache that is made of puts and then of old rows
pub behind_is : (k : ℕ) (made : Entries) (self old here put new : Rows) → made ≡ [] → put ≡ lasting k here (rows_in made) → new ≡ lasting k old put → old ≡ self
    → new ≡ last_distinct k (self ++ here)
behind_is k made self old here put new none puts keeps was =
    keeps
    ∙ (λ i. lasting k (was i) (puts i))
    ∙ ap (λ es. lasting k self (lasting k here (rows_in es))) none
    ∙ ap (lasting k self) (sym (last_walk k here))
    ∙ sym (last_behind k self here)

-- ---- a look-up

none_found : (o : Oid) (rows : Rows) → is_among o (names_of rows) ≡ false → row_of name_of rows o ≡ None
none_found o [] h = refl
none_found o (row ∷ rows) h =
    let parts = or_parts (is_same row.0 o) (is_among o (names_of rows)) h in
    ap (λ b. cond b (Some row) (row_of name_of rows o)) parts.0 ∙ none_found o rows parts.1

or_none : (r : Option Row) → option_or r None ≡ r
or_none None = refl
or_none (Some x) = refl

-- of names that stand once, the same row is found in reverse
found_reversed : (o : Oid) (rows : Rows) → OnlyOnce (names_of rows) → row_of name_of (reverse rows) o ≡ row_of name_of rows o
found_reversed o [] h = refl
found_reversed o (row ∷ rows) h =
    ap (λ l. row_of name_of l o) (reverse-append (row ∷ []) rows)
    ∙ find-append (λ (r : Row). is_same r.0 o) (reverse rows) (row ∷ [])
    ∙ ap (λ r. option_or r (cond (is_same row.0 o) (Some row) None)) (found_reversed o rows h.1)
    ∙ step (is_same row.0 o) refl
  where
    step : (b : Bool) → is_same row.0 o ≡ b → option_or (row_of name_of rows o) (cond b (Some row) None) ≡ cond b (Some row) (row_of name_of rows o)
    step true e = ap (λ r. option_or r (Some row)) (none_found o rows (subst (λ p. is_among p (names_of rows) ≡ false) (one_name row.0 o e) h.0))
    step false e = or_none (row_of name_of rows o)

looked_along : (o : Oid) (es : Entries) → row_of name_of (map row_of_entry es) o ≡ option_map (λ x. row_of_entry (o, x)) (lookup (oids.TheImpl.ghosts.eq o) es)
looked_along o [] = refl
looked_along o (e ∷ es) =
    step (is_same e.0 o) refl (looked_along o es)
    ∙ ap (λ b. option_map (λ x. row_of_entry (o, x)) (cond b (Some e.1) (lookup (oids.TheImpl.ghosts.eq o) es))) (same_flips e.0 o ∙ sym (eq_is o e.0))
  where
    step : (b : Bool) → is_same e.0 o ≡ b → row_of name_of (map row_of_entry es) o ≡ option_map (λ x. row_of_entry (o, x)) (lookup (oids.TheImpl.ghosts.eq o) es)
        → cond b (Some (row_of_entry e)) (row_of name_of (map row_of_entry es) o) ≡ option_map (λ x. row_of_entry (o, x)) (cond b (Some e.1) (lookup (oids.TheImpl.ghosts.eq o) es))
    step true same rest = ap (λ p. Some (row_of_entry (p, e.1))) (one_name e.0 o same)
    step false same rest = rest

-- a look-up by name finds the rest of the row
pub looked_up : (o : Oid) (es : Entries) → OnlyOnce (names_of (reverse (map row_of_entry es)))
    → row_of name_of (reverse (map row_of_entry es)) o ≡ option_map (λ x. row_of_entry (o, x)) (lookup (oids.TheImpl.ghosts.eq o) es)
looked_up o es h =
    let once : OnlyOnce (names_of (map row_of_entry es)) = subst (λ l. OnlyOnce (names_of l)) (reverse-reverse (map row_of_entry es)) (once_reversed (reverse (map row_of_entry es)) h) in
    found_reversed o (map row_of_entry es) once ∙ looked_along o es
