-- A store outside D hears a Fetch, a Prepare, an Abort or a Boot: what is to be shown of what it says, and that it holds.
use Rattle.std.proofs.Common.{◌≡◌, ◌⊎◌, inl, inr, ℕ, suc, ◌<◌, ◌≤◌, ◌^◌, Bool, true, false, not, ◌||◌, ◌==◌, nat_lt, IsTrue}
use Rattle.std.proofs.Common.{List, [], ◌∷◌, length, Option, Some, None}
use Rattle.std.proofs.Common.{refl, sym, ap, ◌∙◌, subst, arith, lit<, if◌then◌else◌}
use Rattle.std.proofs.lemmas.Bool.{cases_eq, eqb-true, not-false, false_from_ne_true, true≢false}
use Rattle.fab_base.specs.declared.object.Object.{Object}
use Rattle.fab_base.specs.declared.object.Oid.{Oid}
use Rattle.fab_base.specs.declared.object.Tid.{Tid}
use Rattle.fab_base.specs.declared.message.Answer.{Answer}
use Rattle.fab_base.specs.declared.message.Answer.TheVariants as answers
use Rattle.fab_base.specs.declared.message.Items.{Items}
use Rattle.fab_base.specs.declared.message.Message.{Message}
use Rattle.fab_base.specs.declared.message.Message.TheVariants as m
use Rattle.fab_base.specs.declared.message.Why.{Why}
use Rattle.fab_base.specs.declared.message.Why.TheVariants as why
use Rattle.fab_base.specs.declared.entry.Entry.TheVariants as e
use Rattle.fab_base.specs.FieldSpelling.{IsTid, IsOid, KeepsItems}
use Rattle.fab_base.specs.FlatMap.{get}
use Rattle.fab_base.specs.MessageSpelling.{spelled}
use Rattle.fab_base.specs.Tids.{is_above}
use Rattle.fab_net.specs.declared.note.Commit.{Commit}
use Rattle.fab_rights.specs.Computed.{is_worker, knows, may_fetch}
use Rattle.fab_protocol.specs.declared.said.Said.{Said}
use Rattle.fab_protocol.specs.declared.sender.Sender.{Sender}
use Rattle.fab_protocol.specs.Shelves.{IsShelf}
use Rattle.fab_protocol.specs.Stores.{Shelf, Prepared}
use Rattle.fab_protocol.specs.Stores.{shelf_of, sender_in, start_of, last_of, boot_of, with_last, with_boot, without, keeps, keeps_said}
use Rattle.fab_protocol.specs.Stores.{silent, replies, records, votes, voted, vote, found, is_prepared, fetched, asked, does}
use Rattle.fab_protocol.specs.Tables.{row_of}
use Rattle.fab_protocol.specs.Versions.{Row, name_of, version_of, is_tid}
use Rattle.fab_protocol.proofs.Records.{last_at, last_other, worker_below}
use Rattle.fab_protocol.proofs.Senders.{sender_at, sender_other, as_many}
use Rattle.fab_protocol.proofs.ShelfKept.{shelf_keeps}
use Rattle.fab_protocol.proofs.TableLaws.{row_of_all}
use Rattle.fab_protocol.proofs.VersionLaws.{version_of_row}
use Rattle.fab_world.specs.Machine.{Setting, World, kept, shelf, of_store}
use Rattle.fab_world.specs.Serial.{IsSetting, IsFit}
use Rattle.fab_integrity.proofs.Frames.{store_keeps, sender_is}
use Rattle.fab_integrity.proofs.Invariant.{In, rank_of, deals, Standing, limit, tid_at, Open, State, committed, Known, TakesPart, current}
use Rattle.fab_integrity.proofs.Invariant.{Fits, IsDead, Has, Voted, Answered, IsWorker, IsStore, Hears, Settled, CellOk, standing, Inv, Before}
use Rattle.fab_integrity.proofs.Lists.{in_append, in_left, in_right, in_one, in_filter, filter_in}
use Rattle.fab_integrity.proofs.Readings.{read_back, same_kind, yes_is_yes, same_vote, same_object, same_version}
use Rattle.fab_integrity.proofs.Worlds.{IsSent, Lands}
use Rattle.fab_integrity.proofs.Tids.{tid_is, above_rank, early_boot}
use Rattle.fab_integrity.proofs.Lasting.{shelf_more}
use Rattle.fab_integrity.proofs.Maps.{object_committed}
use Rattle.fab_integrity.proofs.Deals.{in_deals}

-- ---- votes

abbrev is_yes : Answer → Bool
is_yes answers.Yes = true
is_yes _ = false

not_yes : (answer : Answer) → is_yes answer ≡ false → answer ≡ answers.Yes → ⊥
not_yes answer h agreed = true≢false (sym (ap is_yes agreed) ∙ h)

-- ---- prepared transactions

-- what is prepared without a tid was prepared
pub in_without : (t : Tid) (p : Prepared) (ps : List Prepared) → In p (without t ps) → In p ps
in_without t p ps h = (in_filter (λ (q : Prepared). not (is_tid q.0 t)) p ps h).0

pub without_in : (t : Tid) (p : Prepared) (ps : List Prepared) → In p ps → (p.0 ≡ t → ⊥) → In p (without t ps)
without_in t p ps h apart =
    filter_in (λ (q : Prepared). not (is_tid q.0 t)) p ps h (ap not (false_from_ne_true (is_tid p.0 t) (λ same. apart (tid_is p.0 t same))))

module _ (S : Setting) (D ex : ℕ → Bool) (given : IsSetting S) (w v : World) (cs : List Commit) (C : State) (s : ℕ)
    (inv : Inv S D ex w cs C) (me : IsStore S D ex s) where
  -- the shelf, and where each worker stands
  abbrev pub now : Shelf
  now = shelf S w s

  abbrev pub at : ℕ → Standing
  at n = standing S D ex w cs n

  -- what is to be shown
  abbrev pub Keeps : Type 0
  Keeps = Inv S D ex v cs C

  -- what the store says lands in the world
  abbrev pub Does : Said → Type 0
  Does said = Lands s (of_store S (w.node s).attempt said) w v

  -- each message that is read of what is sent may be heard
  abbrev pub Sends : Shelf → List (ℕ × Message) → Type 0
  Sends after sends =
      (n : ℕ) → IsWorker S D ex n → (sent read : Message) → In (n, sent) sends → S.read (spelled sent) ≡ Some read → Hears S D ex n s (at n) after C read

  -- what is open stays prepared
  abbrev pub Keeping : Shelf → Type 0
  Keeping after = (n : ℕ) → IsWorker S D ex n → (t : Tid) → Open n (at n) t → Has S now t → Has S after t

  -- what is prepared fits
  abbrev pub Fitting : Shelf → Type 0
  Fitting after =
      (n : ℕ) → IsWorker S D ex n → (t : Tid) (items : Items) → In (t, items) after.prepared → t.worker ≡ n → Fits S n s (at n) t items

  -- each object of the store stands right
  abbrev pub Cells : Shelf → Type 0
  Cells after = (o : Oid) → ex o.class ≡ true → o.store ≡ s → CellOk S D ex o cs after C

  -- of last tids
  pub record Lasts (after : Shelf) : Type 0 where
    pub later : (n : ℕ) → IsWorker S D ex n → rank_of (last_of now n) ≤ rank_of (last_of after n)
    pub booted : (n : ℕ) → IsWorker S D ex n → (last_of after n).boot ≤ (kept S w n).boot
    pub numbered : (n : ℕ) → IsWorker S D ex n → (last_of after n).number < 4294967296

  pub ok : IsShelf S.rights s now
  ok = inv.store s me

  -- what holds holds behind, if all of this does of the shelf behind
  pub becomes : (said : Said) (after : Shelf) → keeps_said said.entry now ≡ after → Does said → IsShelf S.rights s after → Keeping after
      → Sends after said.sends → Fitting after → Lasts after → Cells after → Keeps
  becomes said after behind lands whole keep sends fits lasts cells =
      let same : shelf S v s ≡ after = ap (shelf_of S.roots s) lands.entries ∙ shelf_more S.roots s (w.node s).entries said.entry ∙ behind in
      store_keeps S D ex given (IsSent (of_store S (w.node s).attempt said)) w v cs C s inv me lands.follows
      (subst (IsShelf S.rights s) (sym same) whole)
      (λ n worker t o h. subst (λ x. Has S x t) (sym same) (keep n worker t o h))
      (λ n worker bytes message sent e.
      subst (λ x. Hears S D ex n s (at n) x C message) (sym same)
      (sends n worker sent.message message sent.listed (ap S.read (sym sent.spells) ∙ e)))
      (λ n worker t items h e. fits n worker t items (subst (λ (x : Shelf). In (t, items) x.prepared) same h) e)
      (λ n worker. subst (λ x. rank_of (last_of now n) ≤ rank_of (last_of x n)) (sym same) (lasts.later n worker))
      (λ n worker. subst (λ x. (last_of x n).boot ≤ (kept S w n).boot) (sym same) (lasts.booted n worker))
      (λ n worker. subst (λ x. (last_of x n).number < 4294967296) (sym same) (lasts.numbered n worker))
      (λ o x here. subst (λ y. CellOk S D ex o cs y C) (sym same) (cells o x here))

  -- ---- what stands

  -- all of this holds of the shelf as it is
  pub cells_here : Cells now
  cells_here o x here =
      subst (λ z. CellOk S D ex o cs (shelf S w z) C) here (inv.cells o x (subst (λ z. IsStore S D ex z) (sym here) me))

  pub fits_here : Fitting now
  fits_here n worker t items h e = let p = inv.pair n s worker me in p.kept t items h e

  lasts_here : Lasts now
  lasts_here = record {
    later = λ n worker. omega arith;
    booted = λ n worker. let p = inv.pair n s worker me in p.booted;
    numbered = λ n worker. let p = inv.pair n s worker me in p.numbered;
  }

  -- where no last tid is another
  pub same_lasts : (after : Shelf) → ((n : ℕ) → last_of after n ≡ last_of now n) → Lasts after
  same_lasts after same = record {
    later = λ n worker. subst (λ x. rank_of (last_of now n) ≤ rank_of x) (sym (same n)) (omega arith);
    booted = λ n worker. subst (λ (x : Tid). x.boot ≤ (kept S w n).boot) (sym (same n)) (lasts_here.booted n worker);
    numbered = λ n worker. subst (λ (x : Tid). x.number < 4294967296) (sym (same n)) (lasts_here.numbered n worker);
  }

  -- a commit of the list is among those of its tid's worker
  pub settled_deal : (p : Prepared) (h : Settled S D ex cs p) → In h.commit (deals cs p.0.worker)
  settled_deal p h = subst (λ (t : Tid). In h.commit (deals cs t.worker)) h.tid
      (in_deals cs h.commit.tid.worker h.commit h.listed (sym (inv.commits.own h.commit h.listed)))

  low_of : (n : ℕ) → IsTrue (is_worker S.rights n) → n < length now.senders
  low_of n h =
      let below = worker_below S.rights n given.workers h in
      let many = as_many now.senders ok.remembered in
      omega (arith, below, many)

  -- a tid below a worker's limit is of no later boot than the worker
  pub boot_from : (n : ℕ) → IsWorker S D ex n → (t : Tid) → rank_of t < limit (at n) → t.boot ≤ (kept S w n).boot
  boot_from n worker t early =
      let k = inv.worker n worker in early_boot t (at n) early k.low

  -- by what a test gives
  pub by_test : (b : Bool) (x y : Said) → (b ≡ true → Does x → Keeps) → (b ≡ false → Does y → Keeps) → Does (if b then x else y) → Keeps
  by_test true x y f g lands = f refl lands
  by_test false x y f g lands = g refl lands

  -- ---- no record

  -- a store that records nothing keeps its shelf
  pub answers_alone : (said : Said) → said.entry ≡ None → Does said → Sends now said.sends → Keeps
  answers_alone said none lands sends =
      becomes said now (ap (λ x. keeps_said x now) none) lands ok (λ n worker t o h. h) sends fits_here lasts_here cells_here

  -- so does one that says nothing
  pub quiet : Does silent → Keeps
  quiet lands = answers_alone silent refl lands (λ n worker sent read h e. absurd h)

  one_sent : (after : Shelf) (a : ℕ) (message : Message)
      → ((n : ℕ) → IsWorker S D ex n → n ≡ a → (read : Message) → S.read (spelled message) ≡ Some read → Hears S D ex n s (at n) after C read)
      → Sends after ((a, message) ∷ [])
  one_sent after a message f n worker sent read h e =
      let same : ◌≡◌ {A = ℕ × Message} (n, sent) (a, message) = in_one (n, sent) (a, message) h in
      f n worker (ap (λ (x : ℕ × Message). x.0) same) read (ap (λ (x : ℕ × Message). S.read (spelled x.1)) (sym same) ∙ e)

  -- ---- Fetch

  deny_heard : (n : ℕ) (t : Tid) (o : Oid) (reason : Why) → IsTid t → IsOid o → (read : Message)
      → S.read (spelled (m.Deny t o reason)) ≡ Some read → Hears S D ex n s (at n) now C read
  deny_heard n t o reason tid name read e =
      subst (λ x. Hears S D ex n s (at n) now C x) (sym (read_back S given (m.Deny t o reason) read (tid, name) e)) tt

  known_heard : length cs ≤ 4000000000 → (t u : Tid) (o p : Oid) (row : Row) (k : ℕ) (y : Object) → IsTid t → IsOid o
      → row_of name_of now.rows o ≡ Some row
      → S.read (spelled (m.Object t o row.1 row.2)) ≡ Some (m.Object u p k y) → ex p.class ≡ true → p.store ≡ s → Known C (p, k, y)
  known_heard few t u o p row k y tid name there e x here =
      let same : p ≡ o = same_object S given t u o p row.1 k row.2 y name e in
      let cell = cells_here p x here in
      let found_row : row_of name_of now.rows p ≡ Some row = ap (row_of name_of now.rows) same ∙ there in
      let version : version_of now.rows p ≡ row.1 = version_of_row now.rows p row found_row in
      let below : version_of now.rows p ≤ C.version p = cell.below in
      let some : 1 ≤ row.1 = row_of_all name_of (λ (r : Row). 1 ≤ r.1) now.rows p row ok.versions found_row in
      let most : C.version p ≤ suc (length cs) = inv.commits.few p in
      let fits : row.1 < 2 ^ 32 = omega (arith, version, below, most, few) in
      let read : k ≡ row.1 = same_version S given t u o p row.1 k row.2 y fits e in
      record {
        at_least = omega (arith, some, read);
        at_most = omega (arith, version, below, read);
        same = λ equal.
            let full : committed C p ≡ Some row = sym (cell.equal (version ∙ sym read ∙ equal)) ∙ found_row in
            let object : get C.map p ≡ Some row.2 = object_committed C p row full in
            let fit : IsFit S (p, row.2) = inv.commits.fits p row.2 object in
            let back : m.Object u p k y ≡ m.Object t o row.1 row.2 =
            read_back S given (m.Object t o row.1 row.2) (m.Object u p k y) (tid, name, fits, fit.spelled) e in
            object ∙ sym (ap (λ z. Some (object_in y z)) back);
      }
    where
      object_in : Object → Message → Object
      object_in z (m.Object t2 o2 k2 x2) = x2
      object_in z (m.Fetch t2 o2) = z
      object_in z (m.Deny t2 o2 reason) = z
      object_in z (m.Prepare t2 items) = z
      object_in z (m.Vote t2 answer) = z
      object_in z (m.Commit t2) = z
      object_in z (m.Abort t2) = z
      object_in z (m.Boot b) = z
      object_in z (m.Inquire t2) = z

  object_heard : length cs ≤ 4000000000 → (n : ℕ) (t : Tid) (o : Oid) (row : Row) → IsTid t → IsOid o → row_of name_of now.rows o ≡ Some row → (read : Message)
      → S.read (spelled (m.Object t o row.1 row.2)) ≡ Some read → Hears S D ex n s (at n) now C read
  object_heard few n t o row tid name there (m.Object u p k y) e = known_heard few t u o p row k y tid name there e
  object_heard few n t o row tid name there (m.Vote u answer) e =
      let differs : 2 ≡ 5 = same_kind S given (m.Object t o row.1 row.2) (m.Vote u answer) e in absurd (omega (arith, differs))
  object_heard few n t o row tid name there (m.Inquire u) e =
      let differs : 2 ≡ 9 = same_kind S given (m.Object t o row.1 row.2) (m.Inquire u) e in absurd (omega (arith, differs))
  object_heard few n t o row tid name there (m.Prepare u items) e = tt
  object_heard few n t o row tid name there (m.Commit u) e = tt
  object_heard few n t o row tid name there (m.Abort u) e = tt
  object_heard few n t o row tid name there (m.Boot b) e = tt
  object_heard few n t o row tid name there (m.Fetch u p) e = tt
  object_heard few n t o row tid name there (m.Deny u p reason) e = tt

  keeps_deny : (a : ℕ) (t : Tid) (o : Oid) (reason : Why) → IsTid t → IsOid o → Does (replies a (m.Deny t o reason)) → Keeps
  keeps_deny a t o reason tid name lands =
      answers_alone (replies a (m.Deny t o reason)) refl lands
      (one_sent now a (m.Deny t o reason) (λ n worker same read e. deny_heard n t o reason tid name read e))

  keeps_found : length cs ≤ 4000000000 → (a : ℕ) (t : Tid) (o : Oid) → IsTid t → IsOid o → (row : Option Row) → row_of name_of now.rows o ≡ row
      → Does (found a t o row) → Keeps
  keeps_found few a t o tid name None there lands = keeps_deny a t o why.Missing tid name lands
  keeps_found few a t o tid name (Some row) there lands =
      answers_alone (replies a (m.Object t o row.1 row.2)) refl lands
      (one_sent now a (m.Object t o row.1 row.2) (λ n worker same read e. object_heard few n t o row tid name there read e))

  -- a Fetch
  pub keeps_fetch : length cs ≤ 4000000000 → (a : ℕ) (t : Tid) (o : Oid) → IsTid t → IsOid o → Does (fetched S.rights s a t o now) → Keeps
  keeps_fetch few a t o tid name lands =
      by_test (not (o.store == s) || not (knows S.rights o.class)) (replies a (m.Deny t o why.Missing))
      (if not (may_fetch S.rights a o.class) then replies a (m.Deny t o why.Rights) else found a t o (row_of name_of now.rows o))
      (λ c. keeps_deny a t o why.Missing tid name)
      (λ c. by_test (not (may_fetch S.rights a o.class)) (replies a (m.Deny t o why.Rights)) (found a t o (row_of name_of now.rows o))
      (λ d. keeps_deny a t o why.Rights tid name)
      (λ d. keeps_found few a t o tid name (row_of name_of now.rows o) refl))
      lands

  -- ---- votes

  answered_heard : (n : ℕ) (after : Shelf) (t u : Tid) (answer : Answer) → IsTid t → (answer ≡ answers.Yes → Voted S n s (at n) after t) → (other : Answer)
      → S.read (spelled (m.Vote t answer)) ≡ Some (m.Vote u other) → Answered S n s (at n) after u other
  answered_heard n after t u answer tid agreed answers.Yes e =
      subst (λ x. Voted S n s (at n) after x) (sym (same_vote S given t u answer answers.Yes tid e)) (agreed (yes_is_yes S given t u answer e))
  answered_heard n after t u answer tid agreed (answers.Stale o version) e = tt
  answered_heard n after t u answer tid agreed (answers.Locked other) e = tt
  answered_heard n after t u answer tid agreed (answers.Rights o) e = tt
  answered_heard n after t u answer tid agreed (answers.OldTid last) e = tt
  answered_heard n after t u answer tid agreed (answers.IllFormed o) e = tt
  answered_heard n after t u answer tid agreed (answers.Exists o) e = tt

  vote_heard : (n : ℕ) (after : Shelf) (t : Tid) (answer : Answer) → IsTid t → (answer ≡ answers.Yes → Voted S n s (at n) after t) → (read : Message)
      → S.read (spelled (m.Vote t answer)) ≡ Some read → Hears S D ex n s (at n) after C read
  vote_heard n after t answer tid agreed (m.Vote u other) e = answered_heard n after t u answer tid agreed other e
  vote_heard n after t answer tid agreed (m.Object u p k y) e =
      let differs : 5 ≡ 2 = same_kind S given (m.Vote t answer) (m.Object u p k y) e in absurd (omega (arith, differs))
  vote_heard n after t answer tid agreed (m.Inquire u) e =
      let differs : 5 ≡ 9 = same_kind S given (m.Vote t answer) (m.Inquire u) e in absurd (omega (arith, differs))
  vote_heard n after t answer tid agreed (m.Prepare u items) e = tt
  vote_heard n after t answer tid agreed (m.Commit u) e = tt
  vote_heard n after t answer tid agreed (m.Abort u) e = tt
  vote_heard n after t answer tid agreed (m.Boot b) e = tt
  vote_heard n after t answer tid agreed (m.Fetch u p) e = tt
  vote_heard n after t answer tid agreed (m.Deny u p reason) e = tt

  no_vote_sent : (after : Shelf) (a : ℕ) (t : Tid) (answer : Answer) → IsTid t → (answer ≡ answers.Yes → ⊥) → Sends after ((a, m.Vote t answer) ∷ [])
  no_vote_sent after a t answer tid differs =
      one_sent after a (m.Vote t answer) (λ n worker same read e. vote_heard n after t answer tid (λ agreed. absurd (differs agreed)) read e)

  -- ---- Prepare, of the tid's worker

  module _ (t : Tid) (items : Items) (tid : IsTid t) (from : IsTrue (is_worker S.rights t.worker))
      (said : IsWorker S D ex t.worker → Fits S t.worker s (at t.worker) t items)
      (above : is_above t (last_of now t.worker) ≡ true) where
    last_is : (sender_in (with_last t now.senders) t.worker).last ≡ t
    last_is = last_at now.senders t (low_of t.worker from)

    numbered_before : IsWorker S D ex t.worker → (last_of now t.worker).number < 4294967296
    numbered_before worker = let p = inv.pair t.worker s worker me in p.numbered

    -- its tid is behind what was last
    comes_later : IsWorker S D ex t.worker → rank_of (last_of now t.worker) < rank_of t
    comes_later worker = above_rank t (last_of now t.worker) above (numbered_before worker)

    of_this_boot : IsWorker S D ex t.worker → t.boot ≤ (kept S w t.worker).boot
    of_this_boot worker =
        let fits = said worker in boot_from t.worker worker t fits.early

    abbrev noted : List Sender
    noted = with_last t now.senders

    later_at : (n : ℕ) → IsWorker S D ex n → (n ≡ t.worker) ⊎ (n ≡ t.worker → ⊥) → rank_of (last_of now n) ≤ rank_of (sender_in noted n).last
    later_at n worker (inl e) =
        let less : rank_of (last_of now t.worker) < rank_of t = comes_later (subst (λ k. IsWorker S D ex k) e worker) in
        let more : rank_of (last_of now t.worker) ≤ rank_of t = omega (arith, less) in
        subst (λ k. rank_of (last_of now k) ≤ rank_of (sender_in noted k).last) (sym e)
        (subst (λ x. rank_of (last_of now t.worker) ≤ rank_of x) (sym last_is) more)
    later_at n worker (inr apart) =
        subst (λ x. rank_of (last_of now n) ≤ rank_of x) (sym (last_other now.senders t n apart)) (omega arith)

    booted_at : (n : ℕ) → IsWorker S D ex n → (n ≡ t.worker) ⊎ (n ≡ t.worker → ⊥) → (sender_in noted n).last.boot ≤ (kept S w n).boot
    booted_at n worker (inl e) =
        subst (λ k. (sender_in noted k).last.boot ≤ (kept S w k).boot) (sym e)
        (subst (λ (x : Tid). x.boot ≤ (kept S w t.worker).boot) (sym last_is) (of_this_boot (subst (λ k. IsWorker S D ex k) e worker)))
    booted_at n worker (inr apart) =
        subst (λ (x : Tid). x.boot ≤ (kept S w n).boot) (sym (last_other now.senders t n apart)) (lasts_here.booted n worker)

    numbered_at : (n : ℕ) → IsWorker S D ex n → (n ≡ t.worker) ⊎ (n ≡ t.worker → ⊥) → (sender_in noted n).last.number < 4294967296
    numbered_at n worker (inl e) =
        subst (λ k. (sender_in noted k).last.number < 4294967296) (sym e)
        (subst (λ (x : Tid). x.number < 4294967296) (sym last_is) tid.number)
    numbered_at n worker (inr apart) =
        subst (λ (x : Tid). x.number < 4294967296) (sym (last_other now.senders t n apart)) (lasts_here.numbered n worker)

    -- it is refused
    abbrev refused : Shelf
    refused = keeps (e.Refused t) now

    keeps_refused : (answer : Answer) → (answer ≡ answers.Yes → ⊥) → Does (votes t.worker t answer (Some (e.Refused t))) → Keeps
    keeps_refused answer differs lands =
        becomes (votes t.worker t answer (Some (e.Refused t))) refused refl lands (shelf_keeps S.rights s (e.Refused t) now given.workers (from, above) ok)
        (λ n worker u o h. record { items = h.items; listed = h.listed })
        (no_vote_sent refused t.worker t answer tid differs)
        fits_here
        (record {
          later = λ n worker. later_at n worker (cases_eq n t.worker);
          booted = λ n worker. booted_at n worker (cases_eq n t.worker);
          numbered = λ n worker. numbered_at n worker (cases_eq n t.worker);
        })
        (λ o x here. let c = cells_here o x here in record { below = c.below; equal = c.equal; free = c.free; taken = c.taken })

    -- it is prepared
    abbrev taken : Shelf
    taken = keeps (e.Prepared t items) now

    split : (p : Prepared) → In p taken.prepared → In p now.prepared ⊎ (p ≡ (t, items))
    split p h = elim (in_append p now.prepared ((t, items) ∷ []) h) [ inl old ↦ inl old | inr new ↦ inr (in_one p (t, items) new) ]

    taken_has : (p : Prepared) → In p now.prepared → In p taken.prepared
    taken_has p h = in_left p now.prepared ((t, items) ∷ []) h

    -- what is prepared now isn't decided, since its store has seen no later tid
    undecided : Settled S D ex cs (t, items) → ⊥
    undecided h =
        let worker : IsWorker S D ex t.worker = record { kind = from; outside = h.outside } in
        let fits = said worker in
        let p = inv.pair t.worker s worker me in
        let listed : In h.commit (deals cs t.worker) = settled_deal (t, items) h in
        let part : TakesPart S s h.commit = fits.part h.commit (inr (listed, h.tid)) in
        let old : rank_of h.commit.tid ≤ rank_of (last_of now t.worker) = p.aged h.commit listed part in
        let before : rank_of t ≤ rank_of (last_of now t.worker) = subst (λ x. rank_of x ≤ rank_of (last_of now t.worker)) h.tid old in
        let less : rank_of (last_of now t.worker) < rank_of t = comes_later worker in
        omega (arith, before, less)

    taken_fits : Fitting taken
    taken_fits n worker u asked h e = elim (split (u, asked) h) [
      | inl old ↦ fits_here n worker u asked old e
      | inr same ↦
          let same_tid : u ≡ t = ap (λ (p : Prepared). p.0) same in
          let same_items : asked ≡ items = ap (λ (p : Prepared). p.1) same in
          let mine : t.worker ≡ n = ap (λ (x : Tid). x.worker) (sym same_tid) ∙ e in
          subst (λ x. Fits S n s (at n) x asked) (sym same_tid)
          (subst (λ x. Fits S n s (at n) t x) (sym same_items)
          (subst (λ k. Fits S k s (at k) t items) mine (said (subst (λ k. IsWorker S D ex k) (sym mine) worker))))
    ]

    taken_voted : (n : ℕ) → IsWorker S D ex n → n ≡ t.worker → Voted S n s (at n) taken t
    taken_voted n worker same =
        subst (λ k. Voted S k s (at k) taken t) (sym same)
        (let fits = said (subst (λ k. IsWorker S D ex k) same worker) in
        record {
          early = fits.early;
          part = fits.part;
          has = λ o. record { items = items; listed = in_right (t, items) now.prepared ((t, items) ∷ []) (inl refl) };
        })

    taken_cells : Cells taken
    taken_cells o x here =
        let c = cells_here o x here in
        record {
          below = c.below;
          equal = c.equal;
          free = λ none. c.free (λ p h. none p (taken_has p h));
          taken = λ p h settled r left same. elim (split p h) [
            | inl old ↦ c.taken p old settled r left same
            | inr new ↦ absurd (undecided (subst (λ q. Settled S D ex cs q) new settled))
          ];
        }

    keeps_prepared : vote S.rights s t.worker t items now ≡ answers.Yes → KeepsItems items
        → Does (votes t.worker t answers.Yes (Some (e.Prepared t items))) → Keeps
    keeps_prepared agreed counts lands =
        becomes (votes t.worker t answers.Yes (Some (e.Prepared t items))) taken refl lands
        (shelf_keeps S.rights s (e.Prepared t items) now given.workers (from, above, counts, agreed) ok)
        (λ n worker u o h. record { items = h.items; listed = taken_has (u, h.items) h.listed })
        (one_sent taken t.worker (m.Vote t answers.Yes)
        (λ n worker same read g. vote_heard n taken t answers.Yes tid (λ y. taken_voted n worker same) read g))
        taken_fits
        (record {
          later = λ n worker. later_at n worker (cases_eq n t.worker);
          booted = λ n worker. booted_at n worker (cases_eq n t.worker);
          numbered = λ n worker. numbered_at n worker (cases_eq n t.worker);
        })
        taken_cells

    by_vote : KeepsItems items → (answer : Answer) → vote S.rights s t.worker t items now ≡ answer
        → Does (votes t.worker t answer (Some (voted t items answer))) → Keeps
    by_vote counts answers.Yes is lands = keeps_prepared is counts lands
    by_vote counts (answers.Stale o version) is lands = keeps_refused (answers.Stale o version) (not_yes (answers.Stale o version) refl) lands
    by_vote counts (answers.Locked other) is lands = keeps_refused (answers.Locked other) (not_yes (answers.Locked other) refl) lands
    by_vote counts (answers.Rights o) is lands = keeps_refused (answers.Rights o) (not_yes (answers.Rights o) refl) lands
    by_vote counts (answers.OldTid last) is lands = keeps_refused (answers.OldTid last) (not_yes (answers.OldTid last) refl) lands
    by_vote counts (answers.IllFormed o) is lands = keeps_refused (answers.IllFormed o) (not_yes (answers.IllFormed o) refl) lands
    by_vote counts (answers.Exists o) is lands = keeps_refused (answers.Exists o) (not_yes (answers.Exists o) refl) lands

  -- a Prepare, which is refused or prepared
  pub keeps_asked : (t : Tid) (items : Items) → IsTid t → KeepsItems items → IsTrue (is_worker S.rights t.worker)
      → (IsWorker S D ex t.worker → Fits S t.worker s (at t.worker) t items) → Does (asked S.rights s t.worker t items now) → Keeps
  keeps_asked t items tid counts from said lands =
      let last = last_of now t.worker in
      let answer = vote S.rights s t.worker t items now in
      by_test (not (is_above t last)) (votes t.worker t (answers.OldTid last) None) (votes t.worker t answer (Some (voted t items answer)))
      (λ old there. answers_alone (votes t.worker t (answers.OldTid last) None) refl there
      (no_vote_sent now t.worker t (answers.OldTid last) tid (not_yes (answers.OldTid last) refl)))
      (λ new there. by_vote t items tid from said (not-false (is_above t last) new) counts answer refl there)
      lands

  -- ---- Abort: the transaction goes

  -- an Abort of what is prepared
  pub keeps_abort : (t : Tid) → (IsWorker S D ex t.worker → IsDead S t.worker (at t.worker) t) → is_prepared t now ≡ true → Does (records (e.Released t) []) → Keeps
  keeps_abort t said there lands =
      becomes (records (e.Released t) []) (keeps (e.Released t) now) refl lands (shelf_keeps S.rights s (e.Released t) now given.workers there ok)
      (λ n worker u o h. record {
        items = h.items;
        listed = without_in t (u, h.items) now.prepared h.listed (λ same.
            let here : t ≡ tid_at n (at n) = sym same ∙ o.tid in
            let mine : t.worker ≡ n = ap (λ (x : Tid). x.worker) here in
            let dead = said (subst (λ k. IsWorker S D ex k) (sym mine) worker) in
            dead.dead (current S t.worker (at t.worker)) (inl (subst (λ k. Open k (at k) t) (sym mine) (subst (λ x. Open n (at n) x) same o), refl)));
      })
      (λ n worker sent read h e. absurd h)
      (λ n worker u items h. fits_here n worker u items (in_without t (u, items) now.prepared h))
      (same_lasts (keeps (e.Released t) now) (λ n. refl))
      (λ o x here. let c = cells_here o x here in record {
        below = c.below;
        equal = c.equal;
        free = λ none. c.free (λ p h settled r left at_o. none p
            (without_in t p now.prepared h (λ same.
            let mine : IsWorker S D ex t.worker = subst (λ (x : Tid). IsWorker S D ex x.worker) same (sender_is S D ex w cs C inv s me p h settled.outside) in
            let dead = said mine in
            let listed : In settled.commit (deals cs t.worker) = subst (λ (x : Tid). In settled.commit (deals cs x.worker)) same (settled_deal p settled) in
            dead.dead settled.commit (inr (listed, settled.tid ∙ same))))
            settled r left at_o);
        taken = λ p h. c.taken p (in_without t p now.prepared h);
      })

  -- ---- Boot: what an earlier boot prepared goes

  module _ (a b : ℕ) (from : IsTrue (is_worker S.rights a)) (said : IsWorker S D ex a → b ≤ (kept S w a).boot)
      (front : IsWorker S D ex a → Before S D ex a s (at a) now [] b) (new : nat_lt (boot_of now a) b ≡ true) where
    abbrev rebooted : Shelf
    rebooted = keeps (e.BootSeen a b) now

    abbrev renewed : List Sender
    renewed = with_boot a b now.senders

    goes_on : (p : Prepared) → In p rebooted.prepared → In p now.prepared
    goes_on p h = (in_filter (λ (q : Prepared). not (q.0.worker == a)) p now.prepared h).0

    goes_in : (p : Prepared) → In p now.prepared → (p.0.worker ≡ a → ⊥) → In p rebooted.prepared
    goes_in p h apart =
        filter_in (λ (q : Prepared). not (q.0.worker == a)) p now.prepared h
        (ap not (false_from_ne_true (p.0.worker == a) (λ same. apart (eqb-true p.0.worker a same))))

    start_is_last : (sender_in renewed a).last ≡ start_of a b
    start_is_last = ap (λ (x : Sender). x.last) (sender_at now.senders a (record { last = start_of a b; boot = b }) (low_of a from))

    other_last : (n : ℕ) → (n ≡ a → ⊥) → (sender_in renewed n).last ≡ last_of now n
    other_last n apart = ap (λ (x : Sender). x.last) (sender_other now.senders a n (record { last = start_of a b; boot = b }) apart)

    later_boot : (n : ℕ) → IsWorker S D ex n → (n ≡ a) ⊎ (n ≡ a → ⊥) → rank_of (last_of now n) ≤ rank_of (sender_in renewed n).last
    later_boot n worker (inl same) =
        let mine = subst (λ k. IsWorker S D ex k) same worker in
        let before = front mine in
        let low : (last_of now a).boot < b = before.last in
        let few : (last_of now a).number < 4294967296 = lasts_here.numbered a mine in
        let less : rank_of (last_of now a) ≤ rank_of (start_of a b) = omega (arith, low, few) in
        subst (λ k. rank_of (last_of now k) ≤ rank_of (sender_in renewed k).last) (sym same)
        (subst (λ x. rank_of (last_of now a) ≤ rank_of x) (sym start_is_last) less)
    later_boot n worker (inr apart) = subst (λ x. rank_of (last_of now n) ≤ rank_of x) (sym (other_last n apart)) (omega arith)

    booted_boot : (n : ℕ) → IsWorker S D ex n → (n ≡ a) ⊎ (n ≡ a → ⊥) → (sender_in renewed n).last.boot ≤ (kept S w n).boot
    booted_boot n worker (inl same) =
        subst (λ k. (sender_in renewed k).last.boot ≤ (kept S w k).boot) (sym same)
        (subst (λ (x : Tid). x.boot ≤ (kept S w a).boot) (sym start_is_last) (said (subst (λ k. IsWorker S D ex k) same worker)))
    booted_boot n worker (inr apart) = subst (λ (x : Tid). x.boot ≤ (kept S w n).boot) (sym (other_last n apart)) (lasts_here.booted n worker)

    numbered_boot : (n : ℕ) → IsWorker S D ex n → (n ≡ a) ⊎ (n ≡ a → ⊥) → (sender_in renewed n).last.number < 4294967296
    numbered_boot n worker (inl same) =
        subst (λ k. (sender_in renewed k).last.number < 4294967296) (sym same)
        (subst (λ (x : Tid). x.number < 4294967296) (sym start_is_last) (lit< tt))
    numbered_boot n worker (inr apart) = subst (λ (x : Tid). x.number < 4294967296) (sym (other_last n apart)) (lasts_here.numbered n worker)

    keeps_booted : Does (records (e.BootSeen a b) []) → Keeps
    keeps_booted lands =
        becomes (records (e.BootSeen a b) []) rebooted refl lands (shelf_keeps S.rights s (e.BootSeen a b) now given.workers (from, new) ok)
        (λ n worker t o h. record {
          items = h.items;
          listed = goes_in (t, h.items) h.listed (λ same.
              let mine : t.worker ≡ n = ap (λ (x : Tid). x.worker) o.tid in
              let is_a : n ≡ a = sym mine ∙ same in
              let worker_a : IsWorker S D ex a = subst (λ k. IsWorker S D ex k) is_a worker in
              let before = front worker_a in
              let low : t.boot < b = before.low t h.items h.listed same in
              let high : b ≤ (kept S w a).boot = said worker_a in
              let this : t.boot ≡ (kept S w n).boot = ap (λ (x : Tid). x.boot) o.tid in
              let that : t.boot ≡ (kept S w a).boot = subst (λ k. t.boot ≡ (kept S w k).boot) is_a this in
              omega (arith, low, high, that));
        })
        (λ n worker sent read h e. absurd h)
        (λ n worker t items h. fits_here n worker t items (goes_on (t, items) h))
        (record {
          later = λ n worker. later_boot n worker (cases_eq n a);
          booted = λ n worker. booted_boot n worker (cases_eq n a);
          numbered = λ n worker. numbered_boot n worker (cases_eq n a);
        })
        (λ o x here. let c = cells_here o x here in record {
          below = c.below;
          equal = c.equal;
          free = λ none. c.free (λ p h settled r left at_o. none p
              (goes_in p h (λ same.
              let worker_a : IsWorker S D ex a = subst (λ k. IsWorker S D ex k) same (sender_is S D ex w cs C inv s me p h settled.outside) in
              let before = front worker_a in
              let listed : In settled.commit (deals cs a) = subst (λ k. In settled.commit (deals cs k)) same (settled_deal p settled) in
              let fits = fits_here a worker_a p.0 p.1 h same in
              before.due p.0 p.1 h settled.commit listed settled.tid (fits.part settled.commit (inr (listed, settled.tid)))))
              settled r left at_o);
          taken = λ p h. c.taken p (goes_on p h);
        })

  -- a Boot, new or not
  pub keeps_boot : (a b : ℕ) → IsTrue (is_worker S.rights a) → (IsWorker S D ex a → b ≤ (kept S w a).boot)
      → (IsWorker S D ex a → Before S D ex a s (at a) now [] b) → Does (does S.rights s a (m.Boot b) now) → Keeps
  keeps_boot a b from said front lands =
      by_test (nat_lt (boot_of now a) b) (records (e.BootSeen a b) []) silent (λ new. keeps_booted a b from said front new) (λ old. quiet) lands
