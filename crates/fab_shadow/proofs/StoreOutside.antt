-- A store outside the set takes a message of a worker outside the set.
use Rattle.std.proofs.Common.{◌≡◌, inl, inr, ℕ, ◌<◌, ◌≤◌, ◌^◌, Bool, true, false, not, ◌&&◌, ◌||◌, nat_lt}
use Rattle.std.proofs.Common.{IsTrue, List, [], ◌∷◌, ◌++◌, Option, Some, None, true≢false, refl, sym, ap, ◌∙◌, subst, arith}
use Rattle.std.specs.Prelude.{◌==◌, if◌then◌else◌}
use Rattle.std.specs.List.{filter, AllByRecursion}
use Rattle.std.proofs.lemmas.Bool.{and_parts, both_ways, eqb-true, false_from_ne_true, ne_eqb, not-false}
use Rattle.std.proofs.lemmas.List.{append-nil}
use Rattle.std.proofs.lemmas.List.Elements.{filter-append}
use Rattle.fab_base.specs.declared.object.Oid.{Oid}
use Rattle.fab_base.specs.declared.object.Tid.{Tid}
use Rattle.fab_base.specs.declared.entry.Entry.{Entry}
use Rattle.fab_base.specs.declared.entry.Entry.TheVariants as e
use Rattle.fab_base.specs.declared.message.Answer.{Answer}
use Rattle.fab_base.specs.declared.message.Answer.TheVariants as answers
use Rattle.fab_base.specs.declared.message.Items.{Items}
use Rattle.fab_base.specs.declared.message.Message.{Message}
use Rattle.fab_base.specs.declared.message.Message.TheVariants as m
use Rattle.fab_base.specs.declared.message.Why.{Why}
use Rattle.fab_base.specs.declared.message.Why.TheVariants as why
use Rattle.fab_base.specs.FieldSpelling.{IsObject, IsOid, IsTid, sent_version}
use Rattle.fab_base.specs.MessageSpelling.{IsBody, spelled}
use Rattle.fab_base.specs.Tids.{is_above}
use Rattle.fab_base.proofs.Lists.{all_append, all_filter}
use Rattle.fab_net.specs.declared.event.Inner.TheVariants as i
use Rattle.fab_net.specs.declared.note.Commit.{Commit}
use Rattle.fab_net.specs.declared.note.Logged.{Logged}
use Rattle.fab_net.specs.declared.note.Note.TheVariants as note
use Rattle.fab_rights.specs.Computed.{is_node, is_worker, knows, may_fetch}
use Rattle.fab_protocol.specs.declared.said.Said.{Said}
use Rattle.fab_protocol.specs.Stores.{Shelf, Prepared, asked, boot_of, does, fetched, found, is_own, is_prepared, keeps, keeps_said, last_of, records, replies, sender_in, silent, start_of}
use Rattle.fab_protocol.specs.Stores.{vote, voted, votes, with_last}
use Rattle.fab_protocol.specs.Tables.{row_of}
use Rattle.fab_protocol.specs.Versions.{Row, name_of, version_of, left_by, is_tid}
use Rattle.fab_protocol.proofs.Senders.{sender_other}
use Rattle.fab_protocol.proofs.TableLaws.{row_of_all, row_of_name}
use Rattle.fab_protocol.proofs.VersionLaws.{version_of_row}
use Rattle.fab_world.specs.Machine.{Setting, World, shelf, front_of, rest_of, is_empty, is_running, may, of_store}
use Rattle.fab_release.specs.declared.release.Release.TheVariants.{Received, Voted}
use Rattle.fab_release.specs.Sights.{Sight, Public}
use Rattle.fab_release.specs.Record.{received}
use Rattle.fab_release.specs.Replay.{Rebuilt, StoreSeen, is_shown, row_at}
use Rattle.fab_isolation.specs.Law.{IsShared}
use Rattle.fab_integrity.proofs.Invariant.{Decided, In, Fits, IsDead, IsStore, IsWorker, Says, Settled, deals, rank_of, standing}
use Rattle.fab_integrity.proofs.Lists.{any_in, filter_in, filter_twice, in_append, in_filter, in_left, in_one}
use Rattle.fab_integrity.proofs.Orders.{front_boot}
use Rattle.fab_integrity.proofs.Readings.{read_back, spelled_so}
use Rattle.fab_integrity.proofs.StoreEvents.{settled_deal}
use Rattle.fab_integrity.proofs.Tids.{above_rank, tid_is}
use Rattle.fab_integrity.proofs.Transport.{front_and_rest, front_in}
use Rattle.fab_shadow.proofs.Shadow.{never, Stands, ShadowsStore, Dated}
use Rattle.fab_shadow.proofs.Fold.{at_store_refl}
use Rattle.fab_shadow.proofs.Deeds.{Makes}
use Rattle.fab_shadow.proofs.AppliesOutside.{applied_outside}
use Rattle.fab_shadow.proofs.StoreHere.{Lasts, SendsDated, Tells, by_test, calm_made, items_spelled, one_other, one_outside, shadows, shadows_still}

module _ (S : Setting) (sight : Sight) (P : Public) (shared : IsShared S sight P) (w : World) (log : List Logged) (cs : List Commit) (k : Rebuilt)
    (stands : Stands S sight P w log cs k) (s : ℕ) (me : IsStore S sight.has never s) (a : ℕ) (can : IsTrue (may S w (i.Deliver a s)))
    (from : is_worker S.rights a ≡ true) (side : sight.has a ≡ false) where
  abbrev bytes : List ℕ
  bytes = front_of (w.queue a s)

  -- what comes of a message with a tid of its own, if it has one
  abbrev Heard : Message → Type 0
  Heard message = S.read bytes ≡ Some message → is_own a message ≡ true
      → Makes S sight P w log cs k s (received sight (i.Deliver a s) bytes) (of_store S (w.node s).attempt (does S.rights s a message (shelf S w s))) []

  -- what it says is told so, with nothing received from the set
  abbrev Goes : Said → Type 0
  Goes said = Tells S sight P shared w log cs k stands s me [] said

  abbrev now : Shelf
  now = shelf S w s

  abbrev seen : StoreSeen
  seen = k.store s

  him : IsWorker S sight.has never a
  him = record { kind = from; outside = side }

  some : IsTrue (not (is_empty (w.queue a s)))
  some = (and_parts (is_running S w s && is_node S.rights a) (not (is_empty (w.queue a s))) can).1

  -- what its sender's standing says of it
  said_of : (message : Message) → S.read bytes ≡ Some message → Says S a s (standing S sight.has never w cs a) message
  said_of message read = (stands.holds.inv.pair a s him me).says bytes message (front_in (w.queue a s) some) read

  unreceived : (said : Said) → Goes said → Tells S sight P shared w log cs k stands s me (received sight (i.Deliver a s) bytes) said
  unreceived said h = subst (λ b. Tells S sight P shared w log cs k stands s me (if b then Received s a bytes ∷ [] else []) said) (sym side) h

  not_inside : (d : ℕ) → sight.has d ≡ true → d ≡ a → ⊥
  not_inside d inside e = both_ways (sight.has d) (ap sight.has e ∙ side) inside

  -- it says nothing
  quiet : Goes silent
  quiet =
      calm_made S sight P shared w log cs k stands s me silent now [] seen refl refl tt (at_store_refl k s) (shadows S sight P shared w log cs k stands s me) refl
      (λ p h settled. h) (λ p h settled. h) (λ n hn sent h. absurd h) (λ d inside. refl)

  -- ---- Fetch

  replied : (message : Message) → SendsDated S sight P shared w log cs k stands s me k.table now ((a, message) ∷ []) → Goes (replies a message)
  replied message new =
      calm_made S sight P shared w log cs k stands s me (replies a message) now [] seen refl refl tt (at_store_refl k s)
      (shadows S sight P shared w log cs k stands s me) refl (λ p h settled. h) (λ p h settled. h) new
      (λ d inside. one_outside S sight P shared w log cs k stands s me a message d side inside)

  denied : (t : Tid) (o : Oid) (reason : Why) → Goes (replies a (m.Deny t o reason))
  denied t o reason =
      replied (m.Deny t o reason)
      (one_other S sight P shared w log cs k stands s me a (m.Deny t o reason) now k.table (λ no. let differs : 3 ≡ 2 = no in absurd (omega (arith, differs))))

  -- a row of the store is dated
  row_dated : (o : Oid) (row : Row) → o.store ≡ s → is_shown sight P o ≡ true → row_of name_of now.rows o ≡ Some row → Dated S sight P k.table cs now row
  row_dated o row here shown there =
      let name : row.0 ≡ o = row_of_name name_of now.rows o row there in
      let version : version_of now.rows o ≡ row.1 = version_of_row now.rows o row there in
      record {
        known = ap (λ z. row_at k.table z row.1) name
            ∙ stands.shadow.tabled.now o row shown (subst (IsStore S sight.has never) (sym here) me)
            (subst (λ z. row_of name_of (shelf S w z).rows o ≡ Some row) (sym here) there);
        dated = inl (let same = ap (version_of now.rows) name in omega (arith, version, same));
      }

  object_dated : (t : Tid) (o : Oid) (row : Row) → IsTid t → IsOid o → row_of name_of now.rows o ≡ Some row
      → SendsDated S sight P shared w log cs k stands s me k.table now ((a, m.Object t o row.1 row.2) ∷ [])
  object_dated t o row tid name there n hn sent h u p version x read shown here =
      let same : ◌≡◌ {A = ℕ × Message} (n, sent) (a, m.Object t o row.1 row.2) = in_one (n, sent) (a, m.Object t o row.1 row.2) h in
      let is : S.read (spelled (m.Object t o row.1 row.2)) ≡ Some (m.Object u p version x) = ap (λ (z : ℕ × Message). S.read (spelled z.1)) (sym same) ∙ read in
      let found : version_of now.rows o ≡ row.1 = version_of_row now.rows o row there in
      let low = stands.low s me o in
      let fits : row.1 < 2 ^ 32 = omega (arith, found, low) in
      let object : IsObject sent_version row.2 =
      row_of_all name_of (λ (r : Row). IsObject sent_version r.2) now.rows o row (shadows S sight P shared w log cs k stands s me).spelled there in
      let back : m.Object u p version x ≡ m.Object t o row.1 row.2 =
      read_back S shared.setting (m.Object t o row.1 row.2) (m.Object u p version x) (tid, name, fits, object) is in
      let name_is : p ≡ o = cc in
      let version_is : version ≡ row.1 = cc in
      let object_is : x ≡ row.2 = cc in
      let its_name : row.0 ≡ o = row_of_name name_of now.rows o row there in
      let row_is : ◌≡◌ {A = Row} row (p, version, x) = λ j. ((its_name ∙ sym name_is) j, sym version_is j, sym object_is j) in
      subst (λ r. Dated S sight P k.table cs now r) row_is
      (row_dated o row (ap (λ (q : Oid). q.store) (sym name_is) ∙ here) (subst (λ q. is_shown sight P q ≡ true) name_is shown) there)

  found_told : (t : Tid) (o : Oid) → IsTid t → IsOid o → (row : Option Row) → row_of name_of now.rows o ≡ row → Goes (found a t o row)
  found_told t o tid name None there = denied t o why.Missing
  found_told t o tid name (Some row) there = replied (m.Object t o row.1 row.2) (object_dated t o row tid name there)

  fetch_heard : (t : Tid) (o : Oid) → Heard (m.Fetch t o)
  fetch_heard t o read own =
      let body : IsBody sent_version (m.Fetch t o) = (spelled_so S shared.setting bytes (m.Fetch t o) read).body in
      unreceived (fetched S.rights s a t o now)
      (by_test S sight P shared w log cs k stands s me [] (not (o.store == s) || not (knows S.rights o.class)) (replies a (m.Deny t o why.Missing))
      (if not (may_fetch S.rights a o.class) then replies a (m.Deny t o why.Rights) else found a t o (row_of name_of now.rows o))
      (λ _. denied t o why.Missing)
      (λ _. by_test S sight P shared w log cs k stands s me [] (not (may_fetch S.rights a o.class)) (replies a (m.Deny t o why.Rights))
      (found a t o (row_of name_of now.rows o)) (λ _. denied t o why.Rights) (λ _. found_told t o body.0 body.1 (row_of name_of now.rows o) refl)))

  -- ---- Prepare

  voted_told : (t : Tid) (answer : Answer) (entry : Option Entry) (behind : Shelf) → keeps_said entry now ≡ behind → ShadowsStore S sight P s behind seen
      → behind.rows ≡ now.rows
      → ((p : Prepared) → In p behind.prepared → Settled S sight.has never cs p → In p now.prepared)
      → ((p : Prepared) → In p now.prepared → Settled S sight.has never cs p → In p behind.prepared)
      → Goes (votes a t answer entry)
  voted_told t answer entry behind is ok rows old stay =
      subst (λ b. Lasts S sight P shared w log cs k stands s me (((if b then Voted s t answer ∷ [] else []) ++ []) ++ []) (votes a t answer entry)) (sym side)
      (calm_made S sight P shared w log cs k stands s me (votes a t answer entry) behind [] seen is refl ((λ u ne. refl), tt) (at_store_refl k s) ok rows old stay
      (one_other S sight P shared w log cs k stands s me a (m.Vote t answer) now k.table (λ no. let differs : 5 ≡ 2 = no in absurd (omega (arith, differs))))
      (λ d inside. one_outside S sight P shared w log cs k stands s me a (m.Vote t answer) d side inside))

  module _ (t : Tid) (items : Items) (mine : t.worker ≡ a) (read : S.read bytes ≡ Some (m.Prepare t items)) where
    fits : Fits S a s (standing S sight.has never w cs a) t items
    fits = said_of (m.Prepare t items) read

    -- of the senders of the set nothing changes
    same_senders : (d : ℕ) → sight.has d ≡ true → sender_in (with_last t now.senders) d ≡ sender_in now.senders d
    same_senders d inside =
        sender_other now.senders t.worker d (record (sender_in now.senders t.worker) { last = t }) (λ e. not_inside d inside (e ∙ mine))

    refused : (answer : Answer) → Goes (votes a t answer (Some (e.Refused t)))
    refused answer =
        voted_told t answer (Some (e.Refused t)) (keeps (e.Refused t) now) refl
        (shadows_still S sight P shared w log cs k stands s me (keeps (e.Refused t) now) refl refl same_senders
        (shadows S sight P shared w log cs k stands s me).left_spelled)
        refl (λ p h settled. h) (λ p h settled. h)

    -- its store has seen no later tid, so it isn't decided
    undecided : is_above t (last_of now a) ≡ true → Settled S sight.has never cs (t, items) → ⊥
    undecided above settled =
        let pair = stands.holds.inv.pair a s him me in
        let listed : In settled.commit (deals cs a) =
        subst (λ z. In settled.commit (deals cs z)) mine
        (settled_deal S sight.has never shared.setting w w cs stands.holds.state s stands.holds.inv me (t, items) settled) in
        let old : rank_of settled.commit.tid ≤ rank_of (last_of now a) = pair.aged settled.commit listed (fits.part settled.commit (inr (listed, settled.tid))) in
        let before : rank_of t ≤ rank_of (last_of now a) = subst (λ x. rank_of x ≤ rank_of (last_of now a)) settled.tid old in
        let less : rank_of (last_of now a) < rank_of t = above_rank t (last_of now a) above pair.numbered in
        omega (arith, before, less)

    abbrev taken : Shelf
    taken = keeps (e.Prepared t items) now

    taken_shadows : ShadowsStore S sight P s taken seen
    taken_shadows =
        shadows_still S sight P shared w log cs k stands s me taken refl
        (filter-append (λ (p : Prepared). sight.has p.0.worker) now.prepared ((t, items) ∷ [])
        ∙ ap (λ b. filter (λ (p : Prepared). sight.has p.0.worker) now.prepared ++ (if b then (t, items) ∷ [] else [])) (ap sight.has mine ∙ side)
        ∙ append-nil (filter (λ (p : Prepared). sight.has p.0.worker) now.prepared))
        same_senders
        (all_append (λ (p : Prepared). AllByRecursion (λ row. IsObject sent_version row.2) (left_by p.1)) now.prepared ((t, items) ∷ [])
        (shadows S sight P shared w log cs k stands s me).left_spelled
        (items_spelled items ((spelled_so S shared.setting bytes (m.Prepare t items) read).body).1, tt))

    prepared : is_above t (last_of now a) ≡ true → Goes (votes a t answers.Yes (Some (e.Prepared t items)))
    prepared above =
        voted_told t answers.Yes (Some (e.Prepared t items)) taken refl taken_shadows refl
        (λ p h settled. elim (in_append p now.prepared ((t, items) ∷ []) h) [
          | inl old ↦ old
          | inr new ↦ absurd (undecided above (subst (Settled S sight.has never cs) (in_one p (t, items) new) settled))
        ])
        (λ p h settled. in_left p now.prepared ((t, items) ∷ []) h)

    by_vote : is_above t (last_of now a) ≡ true → (answer : Answer) → Goes (votes a t answer (Some (voted t items answer)))
    by_vote above answers.Yes = prepared above
    by_vote above (answers.Stale o version) = refused (answers.Stale o version)
    by_vote above (answers.Locked u) = refused (answers.Locked u)
    by_vote above (answers.Rights o) = refused (answers.Rights o)
    by_vote above (answers.OldTid u) = refused (answers.OldTid u)
    by_vote above (answers.IllFormed o) = refused (answers.IllFormed o)
    by_vote above (answers.Exists o) = refused (answers.Exists o)

    asked_told : Goes (asked S.rights s a t items now)
    asked_told =
        by_test S sight P shared w log cs k stands s me [] (not (is_above t (last_of now a))) (votes a t (answers.OldTid (last_of now a)) None)
        (votes a t (vote S.rights s a t items now) (Some (voted t items (vote S.rights s a t items now))))
        (λ _. voted_told t (answers.OldTid (last_of now a)) None now refl (shadows S sight P shared w log cs k stands s me) refl (λ p h settled. h) (λ p h settled. h))
        (λ new. by_vote (not-false (is_above t (last_of now a)) new) (vote S.rights s a t items now))

  prepare_heard : (t : Tid) (items : Items) → Heard (m.Prepare t items)
  prepare_heard t items read own = unreceived (asked S.rights s a t items now) (asked_told t items (eqb-true t.worker a own) read)

  commit_heard : (t : Tid) → Heard (m.Commit t)
  commit_heard t read own =
      let mine : t.worker ≡ a = eqb-true t.worker a own in
      unreceived (does S.rights s a (m.Commit t) now)
      (by_test S sight P shared w log cs k stands s me [] (is_prepared t now) (records (e.Applied t) (note.Applied t ∷ [])) silent
      (λ there.
      let f = any_in (λ (p : Prepared). is_tid p.0 t) now.prepared there in
      let same : f.0.0 ≡ t = tid_is f.0.0 t f.2 in
      applied_outside S sight P shared w log cs k stands s me t f.0.1 (subst (λ x. In (x, f.0.1) now.prepared) same f.1)
      (subst (IsWorker S sight.has never) (sym mine) him)
      (subst (λ z. Decided (standing S sight.has never w cs z) t) (sym mine) (said_of (m.Commit t) read)))
      (λ none. quiet))

  -- ---- Abort and Boot: some of its sender's transactions go, of which none is decided

  less_told : (entry : Entry) (test : Prepared → Bool) → (keeps entry now).rows ≡ now.rows → (keeps entry now).prepared ≡ filter test now.prepared
      → ((d : ℕ) → sight.has d ≡ true → sender_in (keeps entry now).senders d ≡ sender_in now.senders d)
      → ((p : Prepared) → sight.has p.0.worker ≡ true → test p ≡ true)
      → ((p : Prepared) → In p now.prepared → Settled S sight.has never cs p → test p ≡ true)
      → Goes (records entry [])
  less_told entry test rows rest senders keeps_theirs keeps_settled =
      calm_made S sight P shared w log cs k stands s me (records entry []) (keeps entry now) [] seen refl refl tt (at_store_refl k s)
      (shadows_still S sight P shared w log cs k stands s me (keeps entry now) rows
      (ap (filter (λ (p : Prepared). sight.has p.0.worker)) rest ∙ filter_twice (λ (p : Prepared). sight.has p.0.worker) test keeps_theirs now.prepared)
      senders
      (subst (AllByRecursion (λ (p : Prepared). AllByRecursion (λ row. IsObject sent_version row.2) (left_by p.1))) (sym rest)
      (all_filter (λ (p : Prepared). AllByRecursion (λ row. IsObject sent_version row.2) (left_by p.1)) test now.prepared
      (shadows S sight P shared w log cs k stands s me).left_spelled)))
      rows (λ p h settled. (in_filter test p now.prepared (subst (In p) rest h)).0)
      (λ p h settled. subst (In p) (sym rest) (filter_in test p now.prepared h (keeps_settled p h settled)))
      (λ n hn sent h. absurd h) (λ d inside. refl)

  -- the commit of a decided transaction of its sender is among the sender's
  deal_here : (p : Prepared) (settled : Settled S sight.has never cs p) → p.0.worker ≡ a → In settled.commit (deals cs a)
  deal_here p settled mine =
      subst (λ z. In settled.commit (deals cs z)) mine
      (settled_deal S sight.has never shared.setting w w cs stands.holds.state s stands.holds.inv me p settled)

  abort_heard : (t : Tid) → Heard (m.Abort t)
  abort_heard t read own =
      let mine : t.worker ≡ a = eqb-true t.worker a own in
      let dead : IsDead S a (standing S sight.has never w cs a) t = said_of (m.Abort t) read in
      unreceived (does S.rights s a (m.Abort t) now)
      (by_test S sight P shared w log cs k stands s me [] (is_prepared t now) (records (e.Released t) []) silent
      (λ there. less_told (e.Released t) (λ p. not (is_tid p.0 t)) refl refl (λ d inside. refl)
      (λ p inside. ap not (false_from_ne_true (is_tid p.0 t)
      (λ same. not_inside p.0.worker inside (ap (λ (x : Tid). x.worker) (tid_is p.0 t same) ∙ mine))))
      (λ p h settled. ap not (false_from_ne_true (is_tid p.0 t)
      (λ same.
      let is : p.0 ≡ t = tid_is p.0 t same in
      dead.dead settled.commit (inr (deal_here p settled (ap (λ (x : Tid). x.worker) is ∙ mine), settled.tid ∙ is))))))
      (λ none. quiet))

  boot_heard : (b : ℕ) → Heard (m.Boot b)
  boot_heard b read own =
      let front = front_boot S sight.has never shared.setting w cs s a bytes (rest_of (w.queue a s)) b stands.holds.ordered him me
      (front_and_rest (w.queue a s) some) read in
      unreceived (does S.rights s a (m.Boot b) now)
      (by_test S sight P shared w log cs k stands s me [] (nat_lt (boot_of now a) b) (records (e.BootSeen a b) []) silent
      (λ new. less_told (e.BootSeen a b) (λ p. not (p.0.worker == a)) refl refl
      (λ d inside. sender_other now.senders a d (record { last = start_of a b; boot = b }) (not_inside d inside))
      (λ p inside. ap not (ne_eqb p.0.worker a (not_inside p.0.worker inside)))
      (λ p h settled. ap not (ne_eqb p.0.worker a
      (λ mine.
      let listed : In settled.commit (deals cs a) = deal_here p settled mine in
      let kept = (stands.holds.inv.pair a s him me).kept p.0 p.1 h mine in
      front.due p.0 p.1 h settled.commit listed settled.tid (kept.part settled.commit (inr (listed, settled.tid)))))))
      (λ old. quiet))

  -- any message with a tid of its own
  pub heard_outside : (message : Message) → Heard message
  heard_outside (m.Fetch t o) = fetch_heard t o
  heard_outside (m.Prepare t items) = prepare_heard t items
  heard_outside (m.Commit t) = commit_heard t
  heard_outside (m.Abort t) = abort_heard t
  heard_outside (m.Boot b) = boot_heard b
  heard_outside (m.Object t o version x) = λ read own. absurd (true≢false (sym own))
  heard_outside (m.Deny t o reason) = λ read own. absurd (true≢false (sym own))
  heard_outside (m.Vote t answer) = λ read own. absurd (true≢false (sym own))
  heard_outside (m.Inquire t) = λ read own. absurd (true≢false (sym own))
