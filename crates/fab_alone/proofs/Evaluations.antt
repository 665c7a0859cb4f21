-- What a request comes to over the answers that a worker has, which are some of the objects behind the requests before it.
use Rattle.std.proofs.Common.{◌≡◌, ◌⊎◌, inl, inr, ℕ, zero, suc, ◌<◌, ◌≤◌, [], true, false, not, ◌==◌, IsTrue}
use Rattle.std.proofs.Common.{Option, Some, None, option_map, refl, sym, ap, ◌∙◌, subst, arith, true≢false}
use Rattle.std.specs.Prelude.{IsSome}
use Rattle.std.specs.List.{AllByRecursion}
use Rattle.std.proofs.lemmas.Bool.{cases_Bool, false_from_ne_true, or_from, or_left, or_right, ne_eqb, eq-eqb}
use Rattle.std.proofs.lemmas.Option.{none-some}
use Rattle.fab_base.specs.declared.object.Object.{Object}
use Rattle.fab_base.specs.declared.object.Oid.{Oid}
use Rattle.fab_base.specs.declared.object.Tid.{Tid}
use Rattle.fab_base.specs.declared.object.Value.{Value}
use Rattle.fab_base.specs.declared.message.Answer.TheVariants.{Yes}
use Rattle.fab_base.specs.FieldSpelling.{IsTid}
use Rattle.fab_base.specs.FlatMap.{FlatMap, get, is_among, map_of, put_all}
use Rattle.fab_base.specs.FlatMap as flat
use Rattle.fab_language.specs.declared.ending.Ending.{Ending}
use Rattle.fab_language.specs.declared.ending.Ending.TheVariants as endings
use Rattle.fab_language.specs.Evaluation.{if_ended}
use Rattle.fab_language.specs.Heaps.{touched}
use Rattle.fab_language.specs.Meaning.{Meant}
use Rattle.fab_laws.specs.Closed.{IsFound}
use Rattle.fab_laws.specs.Locality.{IsPart, IsSameOver, LacksToo, with_changes}
use Rattle.fab_rights.specs.Computed.{may_fetch}
use Rattle.fab_protocol.specs.Parts.{items_at}
use Rattle.fab_protocol.specs.Stores.{Shelf, is_stale, vote}
use Rattle.fab_protocol.specs.Tables.{OnlyOnce, row_of}
use Rattle.fab_protocol.specs.Versions.{Row, Rows, is_made_in, maker_of, name_of, names_of, objects_of, version_of}
use Rattle.fab_protocol.proofs.TableLaws.{row_of_all}
use Rattle.fab_protocol.proofs.VersionLaws.{version_by_row, version_in, version_of_row}
use Rattle.fab_world.specs.Machine.{Setting}
use Rattle.fab_world.specs.Serial.{AreFit, IsEvaluation, IsFit, changes}
use Rattle.fab_integrity.proofs.Invariant.{In}
use Rattle.fab_integrity.proofs.Lists.{each_of}
use Rattle.fab_integrity.proofs.Maps.{all_put, answer_of, among_in, ascends_put_all, get_in, in_among}
use Rattle.fab_integrity.proofs.Tids.{tid_is}
use Rattle.fab_alone.specs.Alone.{HasRights, IsSameOverMore, NoneLacks, first_tid, map_behind, meant_behind}
use Rattle.fab_alone.proofs.Links.{HasRow, IsThere, meant_now, parts_now, tid_next}
use Rattle.fab_alone.proofs.StoreSteps.{IsClear, fetched_known, written_known}
use Rattle.fab_alone.proofs.Votes.{IsNew, IsReadable, IsWritable, evaluated_fine, fine_is_yes}

-- ---- objects behind requests are roots, or were made in one of these

pub data IsEarlier (n k : ℕ) (o : Oid) : Type 0 where
  Root : o.boot ≡ 0 → IsEarlier n k o
  Made : o.boot ≡ 1 → o.number ≤ k → IsEarlier n k o

later : (n k : ℕ) (o : Oid) → IsEarlier n k o → IsEarlier n (suc k) o
later n k o (Root e) = Root e
later n k o (Made b e) = Made b (omega (arith, e))

module _ (S : Setting) (law : IsEvaluation S) (n : ℕ) (roots : AllByRecursion (λ (row : Oid × Object). row.0.boot ≡ 0) S.roots) where
  -- a name that an evaluation over some objects wrote is one of these
  there_before : (r : ℕ) (t : Tid) (m : FlatMap) (o : Oid) → In o (touched (S.means n r t m).touches) → IsSome (get m o)
  there_before r t m o i = each_of (λ p. IsSome (get m p)) (touched (S.means n r t m).touches) o (law.there n r t m) i

  some_object : (x : Option Object) → IsSome x → (y : Object) × (x ≡ Some y)
  some_object None h = absurd (true≢false (sym h))
  some_object (Some y) h = (y, refl)

  pub earlier : (k : ℕ) (o : Oid) (x : Object) → get (map_behind S n k) o ≡ Some x → IsEarlier n k o
  earlier zero o x h = Root (each_of (λ (row : Oid × Object). row.0.boot ≡ 0) S.roots (o, x) roots (get_in S.roots o x h))
  earlier (suc k) o x h = by (meant_behind S n k).ending (earlier k o) h
    where
      made : is_among o (meant_behind S n k).made ≡ true → IsEarlier n (suc k) o
      made e =
          let t = first_tid n (suc k) in
          let of = each_of (λ p. IsTrue (is_made_in t p)) (meant_behind S n k).made o (law.made n (suc k) t (map_behind S n k)) (among_in o (meant_behind S n k).made e) in
          let same : maker_of o ≡ t = tid_is (maker_of o) t of in
          Made (ap (λ (u : Tid). u.boot) same) (omega (arith, ap (λ (u : Tid). u.number) same))

      kept : is_among o (meant_behind S n k).made ≡ true ⊎ (is_among o (meant_behind S n k).made ≡ false) → get (meant_behind S n k).map o ≡ Some x
          → ((y : Object) → get (map_behind S n k) o ≡ Some y → IsEarlier n k o) → IsEarlier n (suc k) o
      kept (inl e) g before = made e
      kept (inr e) g before = elim (cases_Bool (is_among o (meant_behind S n k).written)) [
        | inl wrote ↦
            let t = first_tid n (suc k) in
            let touch = each_of (λ p. IsTrue (is_among p (touched (meant_behind S n k).touches))) (meant_behind S n k).written o
            (law.written n (suc k) t (map_behind S n k)) (among_in o (meant_behind S n k).written wrote) in
            let old = some_object (get (map_behind S n k) o)
            (there_before (suc k) t (map_behind S n k) o (among_in o (touched (meant_behind S n k).touches) touch)) in
            later n k o (before old.0 old.1)
        | inr not_written ↦
            let none : changes (meant_behind S n k) o ≡ false = or_from (is_among o (meant_behind S n k).written) (is_among o (meant_behind S n k).made) not_written e in
            later n k o (before x (sym (law.frame n (suc k) (first_tid n (suc k)) (map_behind S n k) o none) ∙ g))
      ]

      by : (ending : Ending) → ((y : Object) → get (map_behind S n k) o ≡ Some y → IsEarlier n k o)
          → get (if_ended ending (meant_behind S n k).map (map_behind S n k)) o ≡ Some x → IsEarlier n (suc k) o
      by (endings.Ended v) before g = kept (cases_Bool (is_among o (meant_behind S n k).made)) g before
      by endings.Failed before g = later n k o (before x g)
      by (endings.Stopped limit) before g = later n k o (before x g)
      by (endings.Missing site p) before g = later n k o (before x g)

  -- so none was made in the next attempt
  pub not_yet : (k : ℕ) (o : Oid) (x : Object) → get (map_behind S n k) o ≡ Some x → is_made_in (tid_next n k) o ≡ true → ⊥
  not_yet k o x h made = by (earlier k o x h)
    where
      by : IsEarlier n k o → ⊥
      by (Root e) = let same = tid_is (maker_of o) (tid_next n k) made in absurd (omega (arith, ap (λ (u : Tid). u.boot) same, e))
      by (Made b e) = let same = tid_is (maker_of o) (tid_next n k) made in absurd (omega (arith, ap (λ (u : Tid). u.number) same, e))

  pub ascends_behind : (k : ℕ) → IsTrue (flat.ascends S.roots) → IsTrue (flat.ascends (map_behind S n k))
  ascends_behind zero h = h
  ascends_behind (suc k) h = by (meant_behind S n k).ending (ascends_behind k h)
    where
      by : (ending : Ending) → IsTrue (flat.ascends (map_behind S n k)) → IsTrue (flat.ascends (if_ended ending (meant_behind S n k).map (map_behind S n k)))
      by (endings.Ended v) g = law.once n (suc k) (first_tid n (suc k)) (map_behind S n k) g
      by endings.Failed g = g
      by (endings.Stopped limit) g = g
      by (endings.Missing site p) g = g

  -- ---- an attempt over answers

  module _ (rights : HasRights S n) (found : NoneLacks S n) (more : IsSameOverMore S n) (ascending : IsTrue (flat.ascends S.roots))
      (k : ℕ) (opened : k < S.requests n) (tid : IsTid (tid_next n k)) (table : ℕ → Rows)
      (content : (o : Oid) → option_map (λ (r : Row). r.2) (row_of name_of (table o.store) o) ≡ get (map_behind S n k) o)
      (answers : Rows) (has : (r : Row) → In r answers → HasRow S n table r × IsTrue (may_fetch S.rights n r.0.class))
      (once : OnlyOnce (names_of answers)) (fit : AreFit S (objects_of answers)) where
    abbrev few : FlatMap
    few = map_of (objects_of answers)

    abbrev many : FlatMap
    many = map_behind S n k

    abbrev m : Meant
    m = meant_now S n k answers

    few_up : IsTrue (flat.ascends few)
    few_up = ascends_put_all (objects_of answers) [] refl

    few_fit : AreFit S few
    few_fit = all_put (IsFit S) (objects_of answers) [] fit tt

    -- the object of a row that a table has
    pub row_object : (o : Oid) (r : Row) → row_of name_of (table o.store) o ≡ Some r → get many o ≡ Some r.2
    row_object o r h = sym (content o) ∙ ap (option_map (λ (q : Row). q.2)) h

    held_answer : (o : Oid) (x : Object) → get few o ≡ Some x → (r : Row) × In r answers × (r.0 ≡ o) × (row_of name_of (table o.store) o ≡ Some r)
        × (row_of name_of answers o ≡ Some r) × (r.2 ≡ x)
    held_answer o x h =
        let a = answer_of answers o x once h in (
          a.row,
          a.listed,
          a.name,
          subst (λ (p : Oid). row_of name_of (table p.store) p ≡ Some a.row) a.name (has a.row a.listed).0,
          a.found,
          a.object,
        )

    pub part : IsPart few many
    part o x h = let a = held_answer o x h in row_object o a.0 a.3 ∙ ap Some a.5

    same_so : LacksToo many m → IsSameOver many m (meant_behind S n k)
    same_so lacks = more.same (suc k) (tid_next n k) few many part lacks

    -- where nothing is missing it is the meaning over all objects
    module _ (whole : (site : ℕ) (o : Oid) → m.ending ≡ endings.Missing site o → ⊥) where
      lacks : LacksToo many m
      lacks site o e = absurd (whole site o e)

      pub same : IsSameOver many m (meant_behind S n k)
      same = same_so lacks

      pub ending_same : (meant_behind S n k).ending ≡ m.ending
      ending_same = same.ending

      pub carried : (meant_behind S n k).map ≡ with_changes m many
      carried = more.carried (suc k) (tid_next n k) few many part lacks few_up (ascends_behind k ascending)

    -- what is missing is there, and may be fetched
    pub missing_there : (site : ℕ) (o : Oid) → m.ending ≡ endings.Missing site o → IsThere S n table o
    missing_there site o e = by (row_of name_of (table o.store) o) refl
      where
        one : (i : ℕ) (p : Oid) → endings.Missing i p ≡ endings.Missing site o → p ≡ o
        one i p h = cc

        by : (row : Option Row) → row_of name_of (table o.store) o ≡ row → IsThere S n table o
        by (Some row) h = record { allowed = rights.fetches k site few o opened part e; row = row; found = h }
        by None h =
            let none : get many o ≡ None = sym (content o) ∙ ap (option_map (λ (q : Row). q.2)) h in
            let s = same_so (λ i p g. ap (get many) (one i p (sym g ∙ e)) ∙ none) in
            absurd (subst IsFound (s.ending ∙ e) (found k opened))

    -- ---- where it ended

    module _ (v : Option Value) (ended : m.ending ≡ endings.Ended v) where
      pub not_missing : (site : ℕ) (o : Oid) → m.ending ≡ endings.Missing site o → ⊥
      not_missing site o e = let no : endings.Ended v ≡ endings.Missing site o = sym ended ∙ e in absurd (cc)

      pub touched_there : (o : Oid) → In o (touched m.touches) → (r : Row) × In r answers × (r.0 ≡ o) × (row_of name_of (table o.store) o ≡ Some r)
          × (row_of name_of answers o ≡ Some r)
      touched_there o i =
          let x = some_object (get few o) (there_before (suc k) (tid_next n k) few o i) in
          let a = held_answer o x.0 x.1 in
          (a.0, a.1, a.2, a.3, a.4)

      pub written_touched : (o : Oid) → In o m.written → In o (touched m.touches)
      written_touched o i = among_in o (touched m.touches) (each_of (λ p. IsTrue (is_among p (touched m.touches))) m.written o (law.written n (suc k) (tid_next n k) few) i)

      made_now : (o : Oid) → In o m.made → is_made_in (tid_next n k) o ≡ true
      made_now o i = each_of (λ p. IsTrue (is_made_in (tid_next n k) p)) m.made o (law.made n (suc k) (tid_next n k) few) i

      -- what it made is in no table
      pub made_absent : (o : Oid) → In o m.made → row_of name_of (table o.store) o ≡ None
      made_absent o i = by (row_of name_of (table o.store) o) refl
        where
          by : (row : Option Row) → row_of name_of (table o.store) o ≡ row → row_of name_of (table o.store) o ≡ None
          by None h = h
          by (Some r) h = absurd (not_yet k o r.2 (row_object o r h) (made_now o i))

      changed_too : (o : Oid) → In o m.written ⊎ In o m.made → changes (meant_behind S n k) o ≡ true
      changed_too o (inl i) =
          or_left (is_among o (meant_behind S n k).written) (is_among o (meant_behind S n k).made)
          (ap (is_among o) (same not_missing).written ∙ in_among o m.written i)
      changed_too o (inr i) =
          or_right (is_among o (meant_behind S n k).written) (is_among o (meant_behind S n k).made)
          (ap (is_among o) (same not_missing).made ∙ in_among o m.made i)

      -- a store that has nothing prepared, and what its table has, votes Yes
      module _ (s : ℕ) (shelf : Shelf) (clear : IsClear n k (table s) shelf) (versions : AllByRecursion (λ (row : Row). 1 ≤ row.1) shelf.rows) where
        row_here : (o : Oid) → o.store ≡ s → row_of name_of shelf.rows o ≡ row_of name_of (table o.store) o
        row_here o at = ap (λ rows. row_of name_of rows o) (clear.rows ∙ ap table (sym at))

        fresh_version : (c d : ℕ) → 1 ≤ c → c ≡ d → is_stale c d ≡ false
        fresh_version c d low same = or_from (c == 0) (not (d == c)) (ne_eqb c 0 (λ e. omega (arith, low, e))) (ap not (eq_self d c (sym same)))
          where
            eq_self : (a b : ℕ) → a ≡ b → (a == b) ≡ true
            eq_self a b e = eq-eqb a b e

        readable : (o : Oid) → In o (touched m.touches) → o.store ≡ s → IsReadable S.rights s n (tid_next n k) shelf clear.prepared answers o
        readable o i at =
            let a = touched_there o i in
            let allowed = subst (λ (p : Oid). IsTrue (may_fetch S.rights n p.class)) a.2 (has a.0 a.1).1 in
            let here = row_here o at ∙ a.3 in
            record {
              known = fetched_known S.rights n o.class allowed;
              allowed = allowed;
              current = fresh_version (version_of shelf.rows o) (version_of answers o)
                  (subst (λ c. 1 ≤ c) (sym (version_of_row shelf.rows o a.0 here)) (row_of_all name_of (λ (row : Row). 1 ≤ row.1) shelf.rows o a.0 versions here))
                  (version_of_row shelf.rows o a.0 here ∙ sym (version_of_row answers o a.0 a.4));
            }

        writable : (o : Oid) (x : Object) → In o m.written ⊎ In o m.made → In (o, x) m.map → IsWritable S.rights s n (tid_next n k) shelf clear.prepared o x
        writable o x i there =
            let f = each_of (IsFit S) m.map (o, x) (law.fits n (suc k) (tid_next n k) few tid few_up few_fit) there in
            let allowed = rights.writes k o v opened (ending_same not_missing ∙ ended) (changed_too o i) in
            record { known = written_known S.rights n o.class allowed; suited = f.suited; allowed = allowed }

        new : (o : Oid) → In o m.made → o.store ≡ s → IsNew S.rights s n (tid_next n k) shelf clear.prepared (touched m.touches) o
        new o i at = record {
          made = made_now o i;
          untouched = false_from_ne_true (is_among o (touched m.touches)) (λ e.
              let a = touched_there o (among_in o (touched m.touches) e) in none-some a.0 (sym (made_absent o i) ∙ a.3));
          absent = version_by_row shelf.rows o ∙ ap version_in (row_here o at ∙ made_absent o i);
        }

        pub votes_yes : vote S.rights s n (tid_next n k) (items_at (parts_now S n k answers) s) shelf ≡ Yes
        votes_yes =
            fine_is_yes S.rights s n (tid_next n k) shelf clear.prepared (items_at (parts_now S n k answers) s)
            (evaluated_fine S.rights s n (tid_next n k) shelf clear.prepared answers m (law.once n (suc k) (tid_next n k) few few_up) readable writable written_touched new)
