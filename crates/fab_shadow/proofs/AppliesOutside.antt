-- A store outside the set applies what a worker outside it has prepared and decided: the record names the transaction where it changes a
-- seen object, and the replay has what it leaves from the commit.
use Rattle.std.proofs.Common.{◌≡◌, ◌⊎◌, inl, inr, ℕ, ◌≤◌, Bool, true, false, not, ◌&&◌, List, [], ◌∷◌, ◌++◌, length, map, Some, refl, sym, ap, ◌∙◌, subst, arith}
use Rattle.std.specs.Prelude.{◌==◌, if◌then◌else◌}
use Rattle.std.specs.List.{filter, flat_map, list_any, AllByRecursion}
use Rattle.std.proofs.lemmas.Bool.{and_from, and_parts, both_ways, cases_Bool, eq-eqb, eqb-true, false_from_ne_true, not_from_false}
use Rattle.std.proofs.lemmas.List.{append-nil}
use Rattle.std.proofs.lemmas.Option.{same_Some}
use Rattle.fab_base.specs.declared.object.Object.{Object}
use Rattle.fab_base.specs.declared.object.Oid.{Oid}
use Rattle.fab_base.specs.declared.object.Tid.{Tid}
use Rattle.fab_base.specs.declared.entry.Entry.TheVariants as e
use Rattle.fab_base.specs.declared.message.Items.{Items}
use Rattle.fab_base.specs.FieldSpelling.{IsObject, sent_version}
use Rattle.fab_base.proofs.Lists.{all_filter}
use Rattle.fab_net.specs.declared.note.Commit.{Commit}
use Rattle.fab_net.specs.declared.note.Logged.{Logged}
use Rattle.fab_net.specs.declared.note.Note.TheVariants as note
use Rattle.fab_protocol.specs.declared.parts.Parts.{Parts}
use Rattle.fab_protocol.specs.declared.said.Said.{Said}
use Rattle.fab_protocol.specs.Parts.{items_at}
use Rattle.fab_protocol.specs.Stores.{Shelf, Prepared, records, sender_in}
use Rattle.fab_protocol.specs.Tables.{row_of, placed_all}
use Rattle.fab_protocol.specs.Versions.{Row, Rows, begun, is_tid, left_by, name_of, raised, version_of}
use Rattle.fab_protocol.proofs.VersionLaws.{version_of_row}
use Rattle.fab_world.specs.Machine.{Setting, World, shelf}
use Rattle.fab_release.specs.declared.release.Release.{Release}
use Rattle.fab_release.specs.declared.release.Release.TheVariants.{Applied}
use Rattle.fab_release.specs.Sights.{Sight, Public}
use Rattle.fab_release.specs.Record.{changes_of, shows_change}
use Rattle.fab_release.specs.Replay.{Commitment, Rebuilt, StoreSeen, applies, is_shown, leaves, leaves_at, row_at}
use Rattle.fab_isolation.specs.Law.{IsShared}
use Rattle.fab_integrity.proofs.Invariant.{Decided, In, IsStore, IsWorker, Settled, deals, parts_by, standing}
use Rattle.fab_integrity.proofs.Deals.{deal_of}
use Rattle.fab_integrity.proofs.Lists.{filter_in, filter_twice, flat_in, in_any, in_append, in_filter, in_flat, in_left, in_map, in_right, map_in}
use Rattle.fab_integrity.proofs.StoreCommits.{only_one}
use Rattle.fab_integrity.proofs.StoreEvents.{in_without}
use Rattle.fab_integrity.proofs.Tids.{tid_is, tid_same}
use Rattle.fab_integrity.proofs.Worlds.{at_other, at_same}
use Rattle.fab_shadow.proofs.Shadow.{never, Stands, ShadowsStore, Ahead, Dated, changed_names, commitment}
use Rattle.fab_shadow.proofs.Fold.{AtStore, after, at_store_refl, tells}
use Rattle.fab_shadow.proofs.Rows.{placed_one, placed_others}
use Rattle.fab_shadow.proofs.StoreHere.{Lasts, Tells, shadows, shelf_ok, store_made}
use Rattle.fab_shadow.proofs.Applied.{applied, applied_spelled, found_left, found_other, left_at, left_or_not, one_left, rises}

-- ---- what parts leave, and what their items at one store do

abbrev all_left : Parts → Rows
all_left parts = map raised parts.writes ++ map begun parts.creates

left_here : (parts : Parts) (s : ℕ) (r : Row) → In r (all_left parts) → r.0.store ≡ s → In r (left_by (items_at parts s))
left_here parts s r h here = elim (in_append r (map raised parts.writes) (map begun parts.creates) h) [
  | inl wrote ↦
      let f = in_map raised r parts.writes wrote in
      let at : f.0.0.store ≡ s = ap (λ (q : Row). q.0.store) (sym f.2) ∙ here in
      in_left r (map raised (items_at parts s).writes) (map begun (items_at parts s).creates)
      (subst (λ q. In q (map raised (items_at parts s).writes)) (sym f.2)
      (map_in raised f.0 (items_at parts s).writes (filter_in (λ (w : Row). w.0.store == s) f.0 parts.writes f.1 (eq-eqb f.0.0.store s at))))
  | inr made ↦
      let f = in_map begun r parts.creates made in
      let at : f.0.0.store ≡ s = ap (λ (q : Row). q.0.store) (sym f.2) ∙ here in
      in_right r (map raised (items_at parts s).writes) (map begun (items_at parts s).creates)
      (subst (λ q. In q (map begun (items_at parts s).creates)) (sym f.2)
      (map_in begun f.0 (items_at parts s).creates (filter_in (λ (c : Oid × Object). c.0.store == s) f.0 parts.creates f.1 (eq-eqb f.0.0.store s at))))
]

here_left : (parts : Parts) (s : ℕ) (r : Row) → In r (left_by (items_at parts s)) → In r (all_left parts)
here_left parts s r h = elim (in_append r (map raised (items_at parts s).writes) (map begun (items_at parts s).creates) h) [
  | inl wrote ↦
      let f = in_map raised r (items_at parts s).writes wrote in
      in_left r (map raised parts.writes) (map begun parts.creates)
      (subst (λ q. In q (map raised parts.writes)) (sym f.2)
      (map_in raised f.0 parts.writes (in_filter (λ (w : Row). w.0.store == s) f.0 parts.writes f.1).0))
  | inr made ↦
      let f = in_map begun r (items_at parts s).creates made in
      in_right r (map raised parts.writes) (map begun parts.creates)
      (subst (λ q. In q (map begun parts.creates)) (sym f.2)
      (map_in begun f.0 parts.creates (in_filter (λ (c : Oid × Object). c.0.store == s) f.0 parts.creates f.1).0))
]

-- its name is among those that change
name_changed : (parts : Parts) (r : Row) → In r (all_left parts) → In r.0 (changed_names parts)
name_changed parts r h = elim (in_append r (map raised parts.writes) (map begun parts.creates) h) [
  | inl wrote ↦
      let f = in_map raised r parts.writes wrote in
      in_left r.0 (map (λ (x : Row). x.0) parts.writes) (map (λ (c : Oid × Object). c.0) parts.creates)
      (subst (λ o. In o (map (λ (x : Row). x.0) parts.writes)) (ap name_of (sym f.2)) (map_in (λ (x : Row). x.0) f.0 parts.writes f.1))
  | inr made ↦
      let f = in_map begun r parts.creates made in
      in_right r.0 (map (λ (x : Row). x.0) parts.writes) (map (λ (c : Oid × Object). c.0) parts.creates)
      (subst (λ o. In o (map (λ (c : Oid × Object). c.0) parts.creates)) (ap name_of (sym f.2)) (map_in (λ (c : Oid × Object). c.0) f.0 parts.creates f.1))
]

module _ (S : Setting) (sight : Sight) (P : Public) (shared : IsShared S sight P) (w : World) (log : List Logged) (cs : List Commit) (k : Rebuilt)
    (stands : Stands S sight P w log cs k) (s : ℕ) (me : IsStore S sight.has never s) (t : Tid) (items : Items)
    (there : In (t, items) (shelf S w s).prepared) (him : IsWorker S sight.has never t.worker)
    (decided : Decided (standing S sight.has never w cs t.worker) t) where
  abbrev now : Shelf
  now = shelf S w s

  abbrev behind : Shelf
  behind = applied S sight P shared w log cs k stands s me t items there

  abbrev seen : StoreSeen
  seen = k.store s

  abbrev dealt : List Commit
  dealt = deals cs t.worker

  known : ShadowsStore S sight P s now seen
  known = shadows S sight P shared w log cs k stands s me

  settled : Settled S sight.has never cs (t, items)
  settled = record { outside = him.outside; commit = decided.commit; listed = (deal_of cs t.worker decided.commit decided.listed).0; tid = decided.tid }

  -- each commit of this tid asked its store for this
  items_are : (c : Commit) → In c dealt → c.tid ≡ t → items ≡ items_at (parts_by S c) s
  items_are c listed same = ((stands.holds.inv.pair t.worker s him me).kept t items there refl).items c (inr (listed, same))

  -- ---- what the replay applies

  abbrev told : Rows
  told = leaves_at sight P s t (k.worker t.worker).commits

  commits_are : (k.worker t.worker).commits ≡ map (commitment S sight P) dealt
  commits_are = (stands.shadow.worker t.worker him).keeps.commits

  abbrev left_of : Commitment → Rows
  left_of c = if is_tid c.tid t then filter (λ row. row.0.store == s) c.leaves else []

  -- it is what the transaction leaves of seen objects
  told_left : (r : Row) → In r told → In r (left_by items)
  told_left r h =
      let f = in_flat left_of r (map (commitment S sight P) dealt) (subst (λ ds. In r (flat_map left_of ds)) commits_are h) in
      let g = in_map (commitment S sight P) f.0 dealt f.1 in
      let c : Commit = g.0 in
      let leaves_it : In r (left_of (commitment S sight P c)) = subst (λ d. In r (left_of d)) g.2 f.2 in
      elim (cases_Bool (is_tid c.tid t)) [
        | inl same ↦
            let here = in_filter (λ (row : Row). row.0.store == s) r (leaves sight P (parts_by S c))
            (subst (λ b. In r (if b then filter (λ row. row.0.store == s) (leaves sight P (parts_by S c)) else [])) same leaves_it) in
            let any = in_filter (λ (row : Row). is_shown sight P row.0) r (all_left (parts_by S c)) here.0 in
            subst (λ z. In r (left_by z)) (sym (items_are c g.1 (tid_is c.tid t same))) (left_here (parts_by S c) s r any.0 (eqb-true r.0.store s here.1))
        | inr other ↦ absurd (subst (λ b. In r (if b then filter (λ row. row.0.store == s) (leaves sight P (parts_by S c)) else [])) other leaves_it)
      ]

  -- it left it among all that the commit does
  left_then : (r : Row) → In r (left_by items) → In r (all_left (parts_by S decided.commit))
  left_then r h =
      here_left (parts_by S decided.commit) s r (subst (λ z. In r (left_by z)) (items_are decided.commit decided.listed decided.tid) h)

  left_told : (r : Row) → In r (left_by items) → is_shown sight P r.0 ≡ true → In r told
  left_told r h shown =
      let c = decided.commit in
      let here : (r.0.store == s) ≡ true = eq-eqb r.0.store s (left_at S sight P shared w log cs k stands s me t items there r h) in
      let listed : In r (filter (λ row. row.0.store == s) (leaves sight P (parts_by S c))) =
      filter_in (λ (row : Row). row.0.store == s) r (leaves sight P (parts_by S c))
      (filter_in (λ (row : Row). is_shown sight P row.0) r (all_left (parts_by S c)) (left_then r h) shown) here in
      subst (λ ds. In r (flat_map left_of ds)) (sym commits_are)
      (flat_in left_of r (commitment S sight P c) (map (commitment S sight P) dealt) (map_in (commitment S sight P) c dealt decided.listed)
      (subst (λ b. In r (if b then filter (λ row. row.0.store == s) (leaves sight P (parts_by S c)) else [])) (sym (tid_same c.tid t decided.tid)) listed))

  -- the record tells so, if it leaves a seen object
  shows : (r : Row) → In r (left_by items) → is_shown sight P r.0 ≡ true → shows_change sight s t log ≡ true
  shows r h shown =
      let c = decided.commit in
      let changed : changes_of t log ≡ changed_names (parts_by S c) =
      ap (λ u. changes_of u log) (sym decided.tid) ∙ (stands.shadow.recorded t.worker him).ended c decided.listed in
      let here : (r.0.store == s) ≡ true = eq-eqb r.0.store s (left_at S sight P shared w log cs k stands s me t items there r h) in
      and_from (not (sight.has t.worker)) (list_any (λ (o : Oid). (o.store == s) && sight.shows o.class) (changes_of t log))
      (not_from_false (sight.has t.worker) him.outside)
      (in_any (λ (o : Oid). (o.store == s) && sight.shows o.class) r.0 (changes_of t log)
      (subst (In r.0) (sym changed) (name_changed (parts_by S c) r (left_then r h)))
      (and_from (r.0.store == s) (sight.shows r.0.class) here (and_parts (sight.shows r.0.class) (not (sight.has r.0.store)) shown).0))

  -- ---- the table stays

  rows_known : (o : Oid) (r : Row) → is_shown sight P o ≡ true → o.store ≡ s → row_of name_of behind.rows o ≡ Some r → row_at k.table o r.1 ≡ r ∷ []
  rows_known o r shown here found = elim (left_or_not S sight P shared w log cs k stands s me t items there o) [
    | inl one ↦
        let same : one.0 ≡ r =
        same_Some one.0 r (sym (found_left S sight P shared w log cs k stands s me t items there one.0 one.1) ∙ ap (row_of name_of behind.rows) one.2 ∙ found) in
        let name : r.0 ≡ o = ap name_of (sym same) ∙ one.2 in
        ap (λ p. row_at k.table p r.1) (sym name)
        ∙ stands.shadow.tabled.pending s me (t, items) there settled r (subst (λ q. In q (left_by items)) same one.1)
        (subst (λ p. is_shown sight P p ≡ true) (sym name) shown)
    | inr none ↦
        let old : row_of name_of now.rows o ≡ Some r = sym (found_other S sight P shared w log cs k stands s me t items there o none) ∙ found in
        stands.shadow.tabled.now o r shown (subst (IsStore S sight.has never) (sym here) me)
        (subst (λ z. row_of name_of (shelf S w z).rows o ≡ Some r) (sym here) old)
  ]

  -- it alone is of its tid
  alone : (q : Prepared) → In q now.prepared → q.0 ≡ t → q ≡ (t, items)
  alone q i same = only_one now.prepared (shelf_ok S sight P shared w log cs k stands s me).apart (t, items) q there i same

  -- what was ahead is there now, or still ahead
  ahead_behind : (r : Row) → Ahead S sight P cs now r → (r.1 ≤ version_of behind.rows r.0) ⊎ Ahead S sight P cs behind r
  ahead_behind r a = elim (cases_Bool (is_tid a.the.0 t)) [
    | inl same ↦
        let its : In a.row (left_by items) =
        subst (λ (q : Prepared). In a.row (left_by q.1)) (alone a.the a.listed (tid_is a.the.0 t same)) a.left in
        let found : version_of behind.rows r.0 ≡ a.row.1 =
        version_of_row behind.rows r.0 a.row
        (ap (row_of name_of behind.rows) (sym a.name) ∙ found_left S sight P shared w log cs k stands s me t items there a.row its) in
        let version = a.version in
        inl (omega (arith, found, version))
    | inr other ↦ inr (record {
      the = a.the;
      listed = filter_in (λ (p : Prepared). not (is_tid p.0 t)) a.the now.prepared a.listed (ap not other);
      settled = a.settled;
      row = a.row;
      left = a.left;
      name = a.name;
      version = a.version;
    })
  ]

  dated_behind : (r : Row) → Dated S sight P k.table cs now r → Dated S sight P k.table cs behind r
  dated_behind r d = record {
    known = d.known;
    dated = elim d.dated [
      | inl low ↦ let more = rises S sight P shared w log cs k stands s me t items there r.0 in inl (omega (arith, low, more))
      | inr a ↦ ahead_behind r a
    ];
  }

  -- ---- the store

  others_stay : filter (λ p. sight.has p.0.worker) behind.prepared ≡ filter (λ p. sight.has p.0.worker) now.prepared
  others_stay =
      filter_twice (λ (p : Prepared). sight.has p.0.worker) (λ (p : Prepared). not (is_tid p.0 t))
      (λ p inside. ap not (false_from_ne_true (is_tid p.0 t)
      (λ same. both_ways (sight.has p.0.worker) (ap (λ (u : Tid). sight.has u.worker) (tid_is p.0 t same) ∙ him.outside) inside)))
      now.prepared

  shadowed : (y : StoreSeen) → y.shelf.prepared ≡ seen.shelf.prepared → y.shelf.senders ≡ seen.shelf.senders
      → ((o : Oid) → is_shown sight P o ≡ true → o.store ≡ s → row_of name_of y.shelf.rows o ≡ row_of name_of behind.rows o)
      → ShadowsStore S sight P s behind y
  shadowed y prepared senders rows = record {
    rows = rows;
    prepared = prepared ∙ known.prepared ∙ sym others_stay;
    wide = ap length senders ∙ known.wide;
    senders = λ d inside. ap (λ xs. sender_in xs d) senders ∙ known.senders d inside;
    spelled = applied_spelled S sight P shared w log cs k stands s me t items there;
    left_spelled = all_filter (λ (p : Prepared). AllByRecursion (λ row. IsObject sent_version row.2) (left_by p.1)) (λ (p : Prepared). not (is_tid p.0 t)) now.prepared
        known.left_spelled;
  }

  -- of a seen object the replay has what is there
  rows_told : (o : Oid) → is_shown sight P o ≡ true → o.store ≡ s → row_of name_of (placed_all name_of told seen.shelf.rows) o ≡ row_of name_of behind.rows o
  rows_told o shown here = elim (left_or_not S sight P shared w log cs k stands s me t items there o) [
    | inl one ↦
        ap (row_of name_of (placed_all name_of told seen.shelf.rows)) (sym one.2)
        ∙ placed_one told seen.shelf.rows one.0 (left_told one.0 one.1 (ap (is_shown sight P) one.2 ∙ shown))
        (λ q h same. one_left S sight P shared w log cs k stands s me t items there q one.0 (told_left q h) one.1 same)
        ∙ sym (found_left S sight P shared w log cs k stands s me t items there one.0 one.1) ∙ ap (row_of name_of behind.rows) one.2
    | inr none ↦
        placed_others told seen.shelf.rows o (λ q h same. none q (told_left q h) same) ∙ known.rows o shown here
        ∙ sym (found_other S sight P shared w log cs k stands s me t items there o none)
  ]

  -- and if the record tells nothing, no seen object changes
  rows_quiet : shows_change sight s t log ≡ false → (o : Oid) → is_shown sight P o ≡ true → o.store ≡ s → row_of name_of seen.shelf.rows o ≡ row_of name_of behind.rows o
  rows_quiet none_shown o shown here =
      known.rows o shown here
      ∙ sym (found_other S sight P shared w log cs k stands s me t items there o
      (λ r h same. both_ways (shows_change sight s t log) none_shown (shows r h (ap (is_shown sight P) same ∙ shown))))

  abbrev said : Said
  said = records (e.Applied t) (note.Applied t ∷ [])

  made : (entries : List Release) (y : StoreSeen) → AtStore k (after sight P k entries) s y k.table → ShadowsStore S sight P s behind y
      → ((d : ℕ) → sight.has d ≡ true → filter (λ z. z.0 == d) (tells sight P k entries) ≡ [])
      → Lasts S sight P shared w log cs k stands s me entries said
  made entries y at shadow so =
      store_made S sight P shared w log cs k stands s me said behind entries y k.table refl refl ((λ u ne. refl), tt) at shadow rows_known
      (λ p h which r left shown. stands.shadow.tabled.pending s me p (in_without t p now.prepared h) which r left shown)
      (λ r shown here d. dated_behind r d) (λ o version ne. refl) (λ n hn sent h. absurd h) so

  abbrev behind_seen : StoreSeen
  behind_seen = applies sight P told seen

  by_record : (b : Bool) → shows_change sight s t log ≡ b → Lasts S sight P shared w log cs k stands s me (if b then Applied s t ∷ [] else []) said
  by_record true shown =
      made (Applied s t ∷ []) behind_seen
      (record {
        worker = refl;
        store = at_same k.store s behind_seen;
        others = λ z ne. at_other k.store s behind_seen z ne;
        tabled = refl;
      })
      (shadowed behind_seen refl refl rows_told) (λ d inside. refl)
  by_record false none = made [] seen (at_store_refl k s) (shadowed seen refl refl (rows_quiet none)) (λ d inside. refl)

  -- so it applies what is decided
  pub applied_outside : Tells S sight P shared w log cs k stands s me [] said
  applied_outside =
      subst (λ entries. Lasts S sight P shared w log cs k stands s me entries said)
      (sym (append-nil ((if shows_change sight s t log then Applied s t ∷ [] else []) ++ []) ∙ append-nil (if shows_change sight s t log then Applied s t ∷ [] else [])))
      (by_record (shows_change sight s t log) refl)
