-- A store outside the set applies what a worker of the set has prepared: the replay does the same, and what is left of seen objects enters
-- the table, where it takes no known row's place.
use Rattle.std.proofs.Common.{◌≡◌, ◌⊎◌, inl, inr, ℕ, suc, ◌≤◌, true, not, List, [], ◌∷◌, ◌++◌, Some, refl, sym, ap, ◌∙◌, subst, arith}
use Rattle.std.specs.Prelude.{◌==◌}
use Rattle.std.specs.List.{filter, AllByRecursion}
use Rattle.std.proofs.lemmas.Bool.{both_ways, false_from_ne_true}
use Rattle.std.proofs.lemmas.List.{append-nil}
use Rattle.std.proofs.lemmas.Option.{same_Some}
use Rattle.fab_base.specs.declared.object.Oid.{Oid}
use Rattle.fab_base.specs.declared.object.Tid.{Tid}
use Rattle.fab_base.specs.declared.entry.Entry.TheVariants as e
use Rattle.fab_base.specs.declared.message.Items.{Items}
use Rattle.fab_base.specs.FieldSpelling.{IsObject, sent_version}
use Rattle.fab_base.proofs.Lists.{all_filter}
use Rattle.fab_net.specs.declared.note.Commit.{Commit}
use Rattle.fab_net.specs.declared.note.Logged.{Logged}
use Rattle.fab_net.specs.declared.note.Note.TheVariants as note
use Rattle.fab_protocol.specs.Stores as stores
use Rattle.fab_protocol.specs.Stores.{Shelf, Prepared, keeps, prepared_as, records}
use Rattle.fab_protocol.specs.Tables.{row_of, placed_all}
use Rattle.fab_protocol.specs.Versions.{Row, Rows, is_tid, left_by, name_of, version_of}
use Rattle.fab_world.specs.Machine.{Setting, World, shelf}
use Rattle.fab_release.specs.declared.release.Release.{Release}
use Rattle.fab_release.specs.Sights.{Sight, Public}
use Rattle.fab_release.specs.Replay.{Rebuilt, StoreSeen, is_shown, row_at}
use Rattle.fab_isolation.specs.Law.{IsShared}
use Rattle.fab_integrity.proofs.Invariant.{In, IsStore, Settled}
use Rattle.fab_integrity.proofs.Lists.{filter_in, filter_twice, in_filter}
use Rattle.fab_integrity.proofs.StoreEvents.{in_without}
use Rattle.fab_integrity.proofs.Tids.{tid_is}
use Rattle.fab_shadow.proofs.Shadow.{never, Stands, ShadowsStore, Ahead, Dated}
use Rattle.fab_shadow.proofs.Fold.{AtStore, after, tells}
use Rattle.fab_shadow.proofs.Rows.{filter_swap, placed_alike, row_at_here, row_at_past}
use Rattle.fab_shadow.proofs.StoreHere.{Lasts, shadows, store_made}
use Rattle.fab_shadow.proofs.Applied.{applied, applied_rows, applied_spelled, bars, found_left, found_other, left_at, left_next, left_or_not, one_left, only_as, rises}

module _ (S : Setting) (sight : Sight) (P : Public) (shared : IsShared S sight P) (w : World) (log : List Logged) (cs : List Commit) (k : Rebuilt)
    (stands : Stands S sight P w log cs k) (s : ℕ) (me : IsStore S sight.has never s) (t : Tid) (items : Items)
    (there : In (t, items) (shelf S w s).prepared) (inside : sight.has t.worker ≡ true) where
  abbrev now : Shelf
  now = shelf S w s

  abbrev behind : Shelf
  behind = applied S sight P shared w log cs k stands s me t items there

  abbrev seen : StoreSeen
  seen = k.store s

  -- what the replay has behind it, and what enters the table
  abbrev pub applied_seen : StoreSeen
  applied_seen = record seen { shelf = keeps (e.Applied t) seen.shelf }

  abbrev pub shown_left : Rows
  shown_left = filter (λ row. is_shown sight P row.0) (left_by items)

  abbrev table : Rows
  table = shown_left ++ k.table

  known : ShadowsStore S sight P s now seen
  known = shadows S sight P shared w log cs k stands s me

  -- what is decided isn't hers
  not_hers : (p : Prepared) → Settled S sight.has never cs p → p ≡ (t, items) → ⊥
  not_hers p settled same = both_ways (sight.has p.0.worker) settled.outside (ap (λ (q : Prepared). sight.has q.0.worker) same ∙ inside)

  other_tid : (p : Prepared) → Settled S sight.has never cs p → not (is_tid p.0 t) ≡ true
  other_tid p settled =
      ap not (false_from_ne_true (is_tid p.0 t)
      (λ same. both_ways (sight.has p.0.worker) settled.outside (ap (λ (u : Tid). sight.has u.worker) (tid_is p.0 t same) ∙ inside)))

  -- ---- the replay's shelf

  pub same_prepared : prepared_as t seen.shelf.prepared ≡ (t, items) ∷ []
  same_prepared =
      ap (prepared_as t) known.prepared
      ∙ filter_twice (λ (p : Prepared). is_tid p.0 t) (λ (p : Prepared). sight.has p.0.worker)
      (λ p same. ap (λ (u : Tid). sight.has u.worker) (tid_is p.0 t same) ∙ inside) now.prepared
      ∙ only_as S sight P shared w log cs k stands s me t items there

  seen_rows : applied_seen.shelf.rows ≡ placed_all name_of (left_by items) seen.shelf.rows
  seen_rows =
      ap (λ ps. stores.behind ps seen.shelf.rows) same_prepared ∙ ap (λ rs. placed_all name_of rs seen.shelf.rows) (append-nil (left_by items))

  shadowed : ShadowsStore S sight P s behind applied_seen
  shadowed = record {
    rows = λ o shown here. ap (λ rs. row_of name_of rs o) seen_rows
        ∙ placed_alike (left_by items) seen.shelf.rows now.rows o (known.rows o shown here)
        ∙ ap (λ rs. row_of name_of rs o) (sym (applied_rows S sight P shared w log cs k stands s me t items there));
    prepared = ap (filter (λ (p : Prepared). not (is_tid p.0 t))) known.prepared
        ∙ filter_swap (λ p. not (is_tid p.0 t)) (λ p. sight.has p.0.worker) now.prepared;
    wide = known.wide;
    senders = known.senders;
    spelled = applied_spelled S sight P shared w log cs k stands s me t items there;
    left_spelled = all_filter (λ (p : Prepared). AllByRecursion (λ row. IsObject sent_version row.2) (left_by p.1)) (λ (p : Prepared). not (is_tid p.0 t)) now.prepared
        known.left_spelled;
  }

  -- ---- the table

  -- of the rows that enter it
  entered : (q : Row) → In q shown_left → In q (left_by items)
  entered q h = (in_filter (λ (row : Row). is_shown sight P row.0) q (left_by items) h).0

  rows_known : (o : Oid) (r : Row) → is_shown sight P o ≡ true → o.store ≡ s → row_of name_of behind.rows o ≡ Some r → row_at table o r.1 ≡ r ∷ []
  rows_known o r shown here found = elim (left_or_not S sight P shared w log cs k stands s me t items there o) [
    | inl one ↦
        let same : one.0 ≡ r =
        same_Some one.0 r (sym (found_left S sight P shared w log cs k stands s me t items there one.0 one.1) ∙ ap (row_of name_of behind.rows) one.2 ∙ found) in
        let name : r.0 ≡ o = ap name_of (sym same) ∙ one.2 in
        let listed : In r (left_by items) = subst (λ q. In q (left_by items)) same one.1 in
        ap (λ p. row_at table p r.1) (sym name)
        ∙ row_at_here shown_left k.table r
        (filter_in (λ (row : Row). is_shown sight P row.0) r (left_by items) listed (ap (is_shown sight P) name ∙ shown))
        (λ q h same _. one_left S sight P shared w log cs k stands s me t items there q r (entered q h) listed same)
    | inr none ↦
        let old : row_of name_of now.rows o ≡ Some r = sym (found_other S sight P shared w log cs k stands s me t items there o none) ∙ found in
        row_at_past shown_left k.table o r.1 (λ q h same _. none q (entered q h) same)
        ∙ stands.shadow.tabled.now o r shown (subst (IsStore S sight.has never) (sym here) me)
        (subst (λ z. row_of name_of (shelf S w z).rows o ≡ Some r) (sym here) old)
  ]

  -- what another one leaves it doesn't name
  pending_known : (p : Prepared) → In p now.prepared → Settled S sight.has never cs p → (r : Row) → In r (left_by p.1) → is_shown sight P r.0 ≡ true
      → row_at table r.0 r.1 ≡ r ∷ []
  pending_known p h settled r left shown =
      row_at_past shown_left k.table r.0 r.1
      (λ q g same _. not_hers p settled (bars S sight P shared w log cs k stands s me t items there p q r h left (entered q g) (sym same)))
      ∙ stands.shadow.tabled.pending s me p h settled r left shown

  -- a known version isn't one above the current one, and none that another one leaves
  not_entered : (r : Row) → (r.1 ≤ version_of now.rows r.0) ⊎ Ahead S sight P cs now r → (q : Row) → In q shown_left → q.0 ≡ r.0 → q.1 ≡ r.1 → ⊥
  not_entered r (inl least) q h name version =
      let next : q.1 ≡ suc (version_of now.rows r.0) =
      left_next S sight P shared w log cs k stands s me t items there q (entered q h) ∙ ap (λ o. suc (version_of now.rows o)) name in
      omega (arith, least, next, version)
  not_entered r (inr a) q h name version =
      not_hers a.the a.settled (bars S sight P shared w log cs k stands s me t items there a.the q a.row a.listed a.left (entered q h) (a.name ∙ sym name))

  dated_behind : (r : Row) → Dated S sight P k.table cs now r → Dated S sight P table cs behind r
  dated_behind r d = record {
    known = row_at_past shown_left k.table r.0 r.1 (not_entered r d.dated) ∙ d.known;
    dated = elim d.dated [
      | inl least ↦ let more = rises S sight P shared w log cs k stands s me t items there r.0 in inl (omega (arith, least, more))
      | inr a ↦ inr (record {
        the = a.the;
        listed = filter_in (λ (p : Prepared). not (is_tid p.0 t)) a.the now.prepared a.listed (other_tid a.the a.settled);
        settled = a.settled;
        row = a.row;
        left = a.left;
        name = a.name;
        version = a.version;
      })
    ];
  }

  -- so it applies what she prepared
  pub applied_inside : (entries : List Release) → AtStore k (after sight P k entries) s applied_seen table
      → ((d : ℕ) → sight.has d ≡ true → filter (λ z. z.0 == d) (tells sight P k entries) ≡ [])
      → Lasts S sight P shared w log cs k stands s me entries (records (e.Applied t) (note.Applied t ∷ []))
  applied_inside entries at so =
      store_made S sight P shared w log cs k stands s me (records (e.Applied t) (note.Applied t ∷ [])) behind entries applied_seen table refl refl
      ((λ u ne. refl), tt) at shadowed rows_known
      (λ p h settled r left shown. pending_known p (in_without t p now.prepared h) settled r left shown)
      (λ r shown here d. dated_behind r d)
      (λ o version ne. row_at_past shown_left k.table o version
      (λ q h same _. ne (ap (λ (p : Oid). p.store) (sym same) ∙ left_at S sight P shared w log cs k stands s me t items there q (entered q h))))
      (λ n hn sent h. absurd h) so
