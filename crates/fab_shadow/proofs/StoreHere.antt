-- What holds at a store outside the set before each of its events, and what is to be shown of what it says.
use Rattle.std.proofs.Common.{◌≡◌, inl, inr, ℕ, ◌≤◌, Bool, true, false, not, List, [], ◌∷◌, ◌++◌, Some, refl, sym, ap, ◌∙◌, subst}
use Rattle.std.specs.Prelude.{◌==◌, if◌then◌else◌}
use Rattle.std.specs.List.{filter, AllByRecursion}
use Rattle.std.proofs.lemmas.Bool.{both_ways, ne_eqb}
use Rattle.std.proofs.lemmas.List.{append-nil}
use Rattle.fab_base.specs.declared.object.Object.{Object}
use Rattle.fab_base.specs.declared.object.Oid.{Oid}
use Rattle.fab_base.specs.declared.object.Tid.{Tid}
use Rattle.fab_base.specs.declared.message.Message.{Message}
use Rattle.fab_base.specs.declared.message.Message.TheVariants as m
use Rattle.fab_base.specs.declared.message.Items.{Items}
use Rattle.fab_base.specs.FieldSpelling.{AreItems, IsCreate, IsObject, IsWrite, sent_version}
use Rattle.fab_base.specs.MessageSpelling.{spelled}
use Rattle.fab_base.proofs.Lists.{all_along}
use Rattle.fab_net.specs.declared.note.Commit.{Commit}
use Rattle.fab_net.specs.declared.note.Logged.{Logged}
use Rattle.fab_protocol.specs.declared.said.Said.{Said}
use Rattle.fab_protocol.specs.Shelves.{IsShelf}
use Rattle.fab_protocol.specs.Stores.{Shelf, Prepared, shelf_of, keeps_said, sender_in}
use Rattle.fab_protocol.specs.Tables.{row_of}
use Rattle.fab_protocol.specs.Versions.{Row, Rows, name_of, left_by, version_of}
use Rattle.fab_protocol.proofs.VersionLaws.{left_all}
use Rattle.fab_world.specs.Machine.{Setting, World, shelf, of_store}
use Rattle.fab_release.specs.declared.release.Release.{Release}
use Rattle.fab_release.specs.Sights.{Sight, Public}
use Rattle.fab_release.specs.Replay.{Rebuilt, StoreSeen, at_store, is_shown, row_at}
use Rattle.fab_isolation.specs.Law.{IsShared}
use Rattle.fab_integrity.proofs.Invariant.{In, IsStore, IsWorker, Settled}
use Rattle.fab_integrity.proofs.Costs.{noted_commits, noted_outside}
use Rattle.fab_integrity.proofs.Lasting.{shelf_more}
use Rattle.fab_integrity.proofs.Lists.{in_one}
use Rattle.fab_integrity.proofs.Readings.{kind_at, same_kind}
use Rattle.fab_integrity.proofs.Worlds.{Lands, at_other, at_same}
use Rattle.fab_shadow.proofs.Shadow.{never, Stands, ShadowsStore, Dated}
use Rattle.fab_shadow.proofs.Fold.{AtStore, after, tells}
use Rattle.fab_shadow.proofs.Notes.{AreOwn}
use Rattle.fab_shadow.proofs.Logs.{IsLogged}
use Rattle.fab_shadow.proofs.Frames.{shadow_store, tabled_store}
use Rattle.fab_shadow.proofs.Deeds.{Did, Makes}

-- a replay that changes at one store, once more
pub at_store_next : (sight : Sight) (P : Public) (k next : Rebuilt) (s : ℕ) (y : StoreSeen) (table : Rows) (change : StoreSeen → StoreSeen) → AtStore k next s y table
    → AtStore k (at_store sight P next s change) s (change y) table
at_store_next sight P k next s y table change h = record {
  worker = h.worker;
  store = at_same next.store s (change (next.store s)) ∙ ap change h.store;
  others = λ z ne. at_other next.store s (change (next.store s)) z ne ∙ h.others z ne;
  tabled = h.tabled;
}

module _ (S : Setting) (sight : Sight) (P : Public) (shared : IsShared S sight P) (w : World) (log : List Logged) (cs : List Commit) (k : Rebuilt)
    (stands : Stands S sight P w log cs k) (s : ℕ) (me : IsStore S sight.has never s) where
  -- its shelf, and what the replay has of it
  abbrev pub now : Shelf
  now = shelf S w s

  abbrev pub seen_now : StoreSeen
  seen_now = k.store s

  pub shadows : ShadowsStore S sight P s now seen_now
  shadows = stands.shadow.store s me

  pub shelf_ok : IsShelf S.rights s now
  shelf_ok = stands.holds.inv.store s me

  -- what is to be shown of what it says, with these entries before those of its notes
  abbrev pub Tells : List Release → Said → Type 0
  Tells before said = Makes S sight P w log cs k s before (of_store S (w.node s).attempt said) []

  -- by what a test gives
  pub by_test : (before : List Release) (b : Bool) (x y : Said) → (b ≡ true → Tells before x) → (b ≡ false → Tells before y)
      → Tells before (if b then x else y)
  by_test before true x y f g = f refl
  by_test before false x y f g = g refl

  -- each object that is sent to a worker outside the set is dated
  abbrev pub SendsDated : Rows → Shelf → List (ℕ × Message) → Type 0
  SendsDated table behind sends =
      (n : ℕ) → IsWorker S sight.has never n → (sent : Message) → In (n, sent) sends → (t : Tid) (o : Oid) (version : ℕ) (x : Object)
      → S.read (spelled sent) ≡ Some (m.Object t o version x) → is_shown sight P o ≡ true → o.store ≡ s → Dated S sight P table cs behind (o, version, x)

  -- the messages to the set are what the replay says
  abbrev pub SaysSo : List Release → List (ℕ × Message) → Type 0
  SaysSo entries sends = (d : ℕ) → sight.has d ≡ true → filter (λ z. z.0 == d) (tells sight P k entries) ≡ filter (λ z. z.0 == d) sends

  -- what it says lands with these entries
  abbrev pub Lasts : List Release → Said → Type 0
  Lasts entries said =
      (x : Logged) → IsLogged s said.notes x → (v : World) → Lands s (of_store S (w.node s).attempt said) w v
      → Did S sight P v (log ++ x ∷ []) (cs ++ noted_outside sight.has said.notes) k entries said.sends

  -- It does if the replay stands to the shelf behind it as before, and the table to the store's objects, to what is prepared there, to
  -- what was known of its objects and to what it sends.
  pub store_made : (said : Said) (behind : Shelf) (entries : List Release) (y : StoreSeen) (table : Rows) → keeps_said said.entry now ≡ behind
      → noted_commits said.notes ≡ [] → AreOwn s said.notes → AtStore k (after sight P k entries) s y table → ShadowsStore S sight P s behind y
      → ((o : Oid) (r : Row) → is_shown sight P o ≡ true → o.store ≡ s → row_of name_of behind.rows o ≡ Some r → row_at table o r.1 ≡ r ∷ [])
      → ((p : Prepared) → In p behind.prepared → Settled S sight.has never cs p → (r : Row) → In r (left_by p.1) → is_shown sight P r.0 ≡ true
      → row_at table r.0 r.1 ≡ r ∷ [])
      → ((r : Row) → is_shown sight P r.0 ≡ true → r.0.store ≡ s → Dated S sight P k.table cs now r → Dated S sight P table cs behind r)
      → ((o : Oid) (version : ℕ) → (o.store ≡ s → ⊥) → row_at table o version ≡ row_at k.table o version)
      → SendsDated table behind said.sends → SaysSo entries said.sends → Lasts entries said
  store_made said behind entries y table is none own at ok rows pending keep other new so x logged v lands =
      let act = of_store S (w.node s).attempt said in
      let same : shelf S v s ≡ behind = ap (shelf_of S.roots s) lands.entries ∙ shelf_more S.roots s (w.node s).entries said.entry ∙ is in
      subst (λ ds. Did S sight P v (log ++ x ∷ []) ds k entries said.sends)
      (sym (ap (λ xs. cs ++ filter (λ (c : Commit). not (sight.has c.worker)) xs) none ∙ append-nil cs))
      (record {
        shadow = shadow_store S sight P shared w v log cs k s me act lands stands.shadow (after sight P k entries) y table x at logged own
            (subst (λ z. ShadowsStore S sight P s z y) (sym same) ok)
            (tabled_store S sight P shared w v log cs k s me act lands stands.shadow stands.holds table
            (λ o r shown here found. rows o r shown here (subst (λ (z : Shelf). row_of name_of z.rows o ≡ Some r) same found))
            (λ p i settled r left shown. pending p (subst (λ (z : Shelf). In p z.prepared) same i) settled r left shown)
            (λ r shown here d. subst (λ z. Dated S sight P table cs z r) (sym same) (keep r shown here d))
            other
            (λ n him bytes sent t o version z read shown here. subst (λ y. Dated S sight P table cs y (o, version, z)) (sym same)
            (new n him sent.message sent.listed t o version z (ap S.read (sym sent.spells) ∙ read) shown here)));
        tells = so;
      })

  -- ---- no object changes

  -- what was dated is, where what is decided stays prepared
  pub dated_still : (behind : Shelf) (r : Row) → behind.rows ≡ now.rows
      → ((p : Prepared) → In p now.prepared → Settled S sight.has never cs p → In p behind.prepared)
      → Dated S sight P k.table cs now r → Dated S sight P k.table cs behind r
  dated_still behind r rows stay d = record {
    known = d.known;
    dated = elim d.dated [
      | inl low ↦ inl (subst (λ rs. r.1 ≤ version_of rs r.0) (sym rows) low)
      | inr a ↦ inr (record {
        the = a.the;
        listed = stay a.the a.listed a.settled;
        settled = a.settled;
        row = a.row;
        left = a.left;
        name = a.name;
        version = a.version;
      })
    ];
  }

  pub calm_made : (said : Said) (behind : Shelf) (entries : List Release) (y : StoreSeen) → keeps_said said.entry now ≡ behind
      → noted_commits said.notes ≡ [] → AreOwn s said.notes → AtStore k (after sight P k entries) s y k.table → ShadowsStore S sight P s behind y
      → behind.rows ≡ now.rows
      → ((p : Prepared) → In p behind.prepared → Settled S sight.has never cs p → In p now.prepared)
      → ((p : Prepared) → In p now.prepared → Settled S sight.has never cs p → In p behind.prepared)
      → SendsDated k.table now said.sends → SaysSo entries said.sends → Lasts entries said
  calm_made said behind entries y is none own at ok rows old stay new so =
      let t = stands.shadow.tabled in
      store_made said behind entries y k.table is none own at ok
      (λ o r shown here found. t.now o r shown (subst (IsStore S sight.has never) (sym here) me)
      (subst (λ z. row_of name_of (shelf S w z).rows o ≡ Some r) (sym here) (subst (λ rs. row_of name_of rs o ≡ Some r) rows found)))
      (λ p i settled r left shown. t.pending s me p (old p i settled) settled r left shown)
      (λ r shown here d. dated_still behind r rows stay d)
      (λ o version ne. refl)
      (λ n him sent i t o version x read shown here. dated_still behind (o, version, x) rows stay (new n him sent i t o version x read shown here))
      so

  -- the replay stands to another shelf as to this one
  pub shadows_still : (behind : Shelf) → behind.rows ≡ now.rows → filter (λ p. sight.has p.0.worker) behind.prepared ≡ filter (λ p. sight.has p.0.worker) now.prepared
      → ((d : ℕ) → sight.has d ≡ true → sender_in behind.senders d ≡ sender_in now.senders d)
      → AllByRecursion (λ p. AllByRecursion (λ row. IsObject sent_version row.2) (left_by p.1)) behind.prepared
      → ShadowsStore S sight P s behind seen_now
  shadows_still behind rows prepared senders left = record {
    rows = λ o shown here. shadows.rows o shown here ∙ ap (λ rs. row_of name_of rs o) (sym rows);
    prepared = shadows.prepared ∙ sym prepared;
    wide = shadows.wide;
    senders = λ d inside. shadows.senders d inside ∙ sym (senders d inside);
    spelled = subst (AllByRecursion (λ (row : Row). IsObject sent_version row.2)) (sym rows) shadows.spelled;
    left_spelled = left;
  }

  -- ---- what it sends

  -- nothing is sent to the set, as all goes to one outside it
  pub one_outside : (a : ℕ) (message : Message) (d : ℕ) → sight.has a ≡ false → sight.has d ≡ true
      → ◌≡◌ {A = List (ℕ × Message)} [] (filter (λ z. z.0 == d) ((a, message) ∷ []))
  one_outside a message d out inside =
      sym (ap (λ b. if b then (a, message) ∷ [] else []) (ne_eqb a d (λ e. both_ways (sight.has d) (ap sight.has (sym e) ∙ out) inside)))

  -- what is no object isn't read as one
  pub one_other : (a : ℕ) (message : Message) (behind : Shelf) (table : Rows) → (kind_at (spelled message) ≡ 2 → ⊥) → SendsDated table behind ((a, message) ∷ [])
  one_other a message behind table no_object n him sent i t o version x read shown here =
      let same : ◌≡◌ {A = ℕ × Message} (n, sent) (a, message) = in_one (n, sent) (a, message) i in
      let is : S.read (spelled message) ≡ Some (m.Object t o version x) = ap (λ (z : ℕ × Message). S.read (spelled z.1)) (sym same) ∙ read in
      absurd (no_object (same_kind S shared.setting message (m.Object t o version x) is))

-- what a Prepare that was read leaves can be spelled
pub items_spelled : (items : Items) → AreItems sent_version items → AllByRecursion (λ row. IsObject sent_version row.2) (left_by items)
items_spelled items are =
    left_all (λ row. IsObject sent_version row.2) items (all_along (IsWrite sent_version) (λ (r : Row). IsObject sent_version r.2) (λ r g. g.object) items.writes are.writes)
    (all_along (IsCreate sent_version) (λ (c : Oid × Object). IsObject sent_version c.1) (λ c g. g.object) items.creates are.creates)
