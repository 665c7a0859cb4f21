-- A store outside the set takes a message of a worker of the set: the record has the message, and the replay does with it what the store does.
use Rattle.std.proofs.Common.{◌≡◌, inl, inr, ℕ, ◌<◌, Bool, true, false, not, ◌&&◌, ◌||◌, nat_lt, IsTrue, List}
use Rattle.std.proofs.Common.{[], ◌∷◌, ◌++◌, Option, Some, None, length, set, true≢false, refl, sym, ap, ◌∙◌, subst, arith}
use Rattle.std.specs.Prelude.{◌==◌, if◌then◌else◌}
use Rattle.std.specs.List.{filter, flat_map, list_any, AllByRecursion}
use Rattle.std.proofs.lemmas.Bool.{and_from, both_ways, cases_eq, eq-eqb, eqb-true, false_from_ne_true, ne_eqb, not-false, not_from_false, or_parts}
use Rattle.std.proofs.lemmas.List.{append-nil, length-set}
use Rattle.std.proofs.lemmas.Map.Views.{any-filter_same}
use Rattle.std.proofs.lemmas.List.Elements.{filter-append}
use Rattle.fab_base.specs.declared.object.Oid.{Oid}
use Rattle.fab_base.specs.declared.object.Tid.{Tid}
use Rattle.fab_base.specs.declared.entry.Entry.{Entry}
use Rattle.fab_base.specs.declared.entry.Entry.TheVariants as e
use Rattle.fab_base.specs.declared.message.Answer.{Answer}
use Rattle.fab_base.specs.declared.message.Answer.TheVariants as answers
use Rattle.fab_base.specs.declared.message.Items.{Items}
use Rattle.fab_base.specs.declared.message.Message.{Message}
use Rattle.fab_base.specs.declared.message.Message.TheVariants as m
use Rattle.fab_base.specs.declared.message.Why.TheVariants as why
use Rattle.fab_base.specs.FieldSpelling.{IsObject, sent_version}
use Rattle.fab_base.specs.Tids.{is_above}
use Rattle.fab_base.proofs.Lists.{all_append, all_filter}
use Rattle.fab_net.specs.declared.event.Inner.TheVariants as i
use Rattle.fab_net.specs.declared.note.Commit.{Commit}
use Rattle.fab_net.specs.declared.note.Logged.{Logged}
use Rattle.fab_net.specs.declared.note.Note.TheVariants as note
use Rattle.fab_rights.specs.declared.rights.Rights.{Rights}
use Rattle.fab_rights.specs.Computed.{is_store, is_worker, knows, may_fetch}
use Rattle.fab_protocol.specs.declared.said.Said.{Said}
use Rattle.fab_protocol.specs.declared.sender.Sender.{Sender}
use Rattle.fab_protocol.specs.Stores.{Shelf, Prepared, asked, boot_of, does, fetched, found, is_own, is_prepared, keeps, keeps_said, last_of, prepared_as, records}
use Rattle.fab_protocol.specs.Stores.{replies, says, sender_in, silent, start_of, vote, voted, votes, with_last}
use Rattle.fab_protocol.specs.Tables.{row_of}
use Rattle.fab_protocol.specs.Versions.{Row, is_tid, left_by, name_of}
use Rattle.fab_protocol.proofs.Records.{worker_below}
use Rattle.fab_protocol.proofs.Senders.{as_many, sender_at, sender_other}
use Rattle.fab_world.specs.Machine.{Setting, World, shelf, front_of, may, of_store}
use Rattle.fab_release.specs.declared.release.Release.TheVariants.{Applied, Received, Voted}
use Rattle.fab_release.specs.Sights.{Sight, Public}
use Rattle.fab_release.specs.Record.{changes_of, of_note, received, seen_by, shows_change}
use Rattle.fab_release.specs.Replay as replay
use Rattle.fab_release.specs.Replay.{Rebuilt, StoreSeen, at_store, hears, is_heard, is_shown, next, row_at, sends, store_applies, store_hears, store_says, tabled, told}
use Rattle.fab_isolation.specs.Law.{IsShared}
use Rattle.fab_integrity.proofs.Invariant.{In, IsStore, Settled}
use Rattle.fab_integrity.proofs.Costs.{noted_commits}
use Rattle.fab_integrity.proofs.Lists.{all_of, any_in, filter_none, in_any, filter_in, in_append, in_filter, in_left, in_one}
use Rattle.fab_integrity.proofs.Readings.{spelled_so}
use Rattle.fab_integrity.proofs.Tids.{tid_is}
use Rattle.fab_integrity.proofs.Worlds.{at_other, at_same}
use Rattle.fab_shadow.proofs.Shadow.{never, Stands, ShadowsStore}
use Rattle.fab_shadow.proofs.Fold.{AtStore, after}
use Rattle.fab_shadow.proofs.Notes.{AreOwn}
use Rattle.fab_shadow.proofs.Deeds.{Makes}
use Rattle.fab_shadow.proofs.Rows.{filter_swap}
use Rattle.fab_shadow.proofs.Fresh.{is_old, vote_fresh}
use Rattle.fab_shadow.proofs.AppliesInside.{applied_inside, same_prepared, shown_left}
use Rattle.fab_shadow.proofs.StoreHere.{at_store_next, Lasts, SendsDated, Tells, by_test, calm_made, items_spelled, shadows, shelf_ok}

module _ (S : Setting) (sight : Sight) (P : Public) (shared : IsShared S sight P) (w : World) (log : List Logged) (cs : List Commit) (k : Rebuilt)
    (stands : Stands S sight P w log cs k) (s : ℕ) (me : IsStore S sight.has never s) (a : ℕ) (can : IsTrue (may S w (i.Deliver a s)))
    (from : is_worker S.rights a ≡ true) (side : sight.has a ≡ true) where
  abbrev bytes : List ℕ
  bytes = front_of (w.queue a s)

  -- what comes of a message with a tid of its own, if it has one
  abbrev Heard : Message → Type 0
  Heard message = S.read bytes ≡ Some message → is_own a message ≡ true
      → Makes S sight P w log cs k s (received sight (i.Deliver a s) bytes) (of_store S (w.node s).attempt (does S.rights s a message (shelf S w s))) []

  abbrev now : Shelf
  now = shelf S w s

  abbrev seen : StoreSeen
  seen = k.store s

  known : ShadowsStore S sight P s now seen
  known = shadows S sight P shared w log cs k stands s me

  -- what it says is told so, with the message received
  abbrev Goes : Said → Type 0
  Goes said = Tells S sight P shared w log cs k stands s me (Received s a bytes ∷ []) said

  is_received : (said : Said) → Goes said → Tells S sight P shared w log cs k stands s me (received sight (i.Deliver a s) bytes) said
  is_received said h = subst (λ b. Tells S sight P shared w log cs k stands s me (if b then Received s a bytes ∷ [] else []) said) (sym side) h

  -- ---- the replay hears it

  -- with the public part's rights, which are those of the setting; a store is no worker
  not_worker : is_worker S.rights s ≡ false
  not_worker = false_from_ne_true (is_worker S.rights s) (λ worker. both_ways (is_store S.rights s) (shared.setting.apart s worker) me.kind)

  no_worker : is_worker P.rights s ≡ false
  no_worker = ap (λ (r : Rights). is_worker r s) shared.public_is.rights ∙ not_worker

  heard_here : is_heard sight P s a ≡ true
  heard_here =
      ap (λ (r : Rights). (is_worker r s && is_store r a) || (is_store r s && is_worker r a)) shared.public_is.rights
      ∙ ap (λ b. (b && is_store S.rights a) || (is_store S.rights s && is_worker S.rights a)) not_worker
      ∙ ap (λ b. b && is_worker S.rights a) me.kind ∙ from

  read_here : (message : Message) → S.read bytes ≡ Some message → P.read bytes ≡ Some message
  read_here message read = shared.public_is.read bytes ∙ read

  next_is : (message : Message) → S.read bytes ≡ Some message
      → next sight P (Received s a bytes) k
      ≡ tabled sight P (store_applies sight P s a message seen) (at_store sight P k s (store_hears sight P s a message))
  next_is message read =
      ap (λ b. if b then hears sight P s a (P.read bytes) k else k) heard_here
      ∙ ap (λ heard. hears sight P s a heard k) (read_here message read)
      ∙ ap (λ b. if b then replay.at_worker sight P k s (replay.worker_hears sight P s a message)
      else tabled sight P (store_applies sight P s a message seen) (at_store sight P k s (store_hears sight P s a message))) no_worker

  pub sends_are : (message : Message) → S.read bytes ≡ Some message → sends sight P (Received s a bytes) k ≡ store_says sight P s a message seen
  sends_are message read =
      ap (λ b. if b then told sight P s a (P.read bytes) k else []) heard_here
      ∙ ap (λ heard. told sight P s a heard k) (read_here message read)
      ∙ ap (λ b. if b then replay.worker_says sight P s a message (k.worker s) else store_says sight P s a message seen) no_worker

  -- what the public part's store would say to a message of its own
  says_is : (message : Message) → is_own a message ≡ true → (x : Shelf) → says P.rights s a message x ≡ does S.rights s a message x
  says_is message own x =
      ap (λ (r : Rights). if is_worker r a && is_own a message then does r s a message x else silent) shared.public_is.rights
      ∙ ap (λ b. if b && is_own a message then does S.rights s a message x else silent) from
      ∙ ap (λ b. if b then does S.rights s a message x else silent) own

  pub at_heard : (message : Message) → S.read bytes ≡ Some message
      → AtStore k (next sight P (Received s a bytes) k) s (store_hears sight P s a message seen) (store_applies sight P s a message seen ++ k.table)
  at_heard message read =
      subst (λ r. AtStore k r s (store_hears sight P s a message seen) (store_applies sight P s a message seen ++ k.table)) (sym (next_is message read))
      (record {
        worker = refl;
        store = at_same k.store s (store_hears sight P s a message seen);
        others = λ z ne. at_other k.store s (store_hears sight P s a message seen) z ne;
        tabled = refl;
      })

  -- ---- a message by itself

  -- nothing is sent to a worker outside the set
  none_outside : (message : Message) → SendsDated S sight P shared w log cs k stands s me k.table now ((a, message) ∷ [])
  none_outside message n hn sent h t o version x read shown here =
      let same : ◌≡◌ {A = ℕ × Message} (n, sent) (a, message) = in_one (n, sent) (a, message) h in
      absurd (both_ways (sight.has n) hn.outside (ap (λ (z : ℕ × Message). sight.has z.0) same ∙ side))

  -- what is decided is of no worker of the set
  not_hers : (p : Prepared) → Settled S sight.has never cs p → p.0.worker ≡ a → ⊥
  not_hers p settled e = both_ways (sight.has p.0.worker) settled.outside (ap sight.has e ∙ side)

  -- where no object changes
  alone : (message : Message) (said : Said) (y : StoreSeen) → S.read bytes ≡ Some message → store_hears sight P s a message seen ≡ y
      → store_applies sight P s a message seen ≡ [] → store_says sight P s a message seen ≡ said.sends → said.notes ≡ []
      → ShadowsStore S sight P s (keeps_said said.entry now) y → (keeps_said said.entry now).rows ≡ now.rows
      → ((p : Prepared) → In p (keeps_said said.entry now).prepared → Settled S sight.has never cs p → In p now.prepared)
      → ((p : Prepared) → In p now.prepared → Settled S sight.has never cs p → In p (keeps_said said.entry now).prepared)
      → SendsDated S sight P shared w log cs k stands s me k.table now said.sends → Goes said
  alone message said y read hears applies tells_so none ok rows old stay new =
      subst (λ notes. Lasts S sight P shared w log cs k stands s me
      ((Received s a bytes ∷ []) ++ flat_map (of_note sight s (seen_by sight s log) log) notes ++ []) said) (sym none)
      (calm_made S sight P shared w log cs k stands s me said (keeps_said said.entry now) (Received s a bytes ∷ []) y refl (ap noted_commits none)
      (subst (AreOwn s) (sym none) tt)
      (subst (λ z. AtStore k (next sight P (Received s a bytes) k) s z k.table) hears
      (subst (λ rs. AtStore k (next sight P (Received s a bytes) k) s (store_hears sight P s a message seen) (rs ++ k.table)) applies (at_heard message read)))
      ok rows old stay new
      (λ d inside. ap (filter (λ (z : ℕ × Message). z.0 == d)) (append-nil (sends sight P (Received s a bytes) k) ∙ sends_are message read ∙ tells_so)))

  -- ---- Fetch

  module _ (t : Tid) (o : Oid) (read : S.read bytes ≡ Some (m.Fetch t o)) (own : is_own a (m.Fetch t o) ≡ true) where
    replied : (message : Message) → fetched S.rights s a t o seen.shelf ≡ replies a message → Goes (replies a message)
    replied message same =
        let says_so : says P.rights s a (m.Fetch t o) seen.shelf ≡ replies a message = says_is (m.Fetch t o) own seen.shelf ∙ same in
        alone (m.Fetch t o) (replies a message) seen read (ap (λ (z : Said). record seen { shelf = keeps_said z.entry seen.shelf }) says_so) refl
        (ap (λ (z : Said). z.sends) says_so) refl known refl (λ p h settled. h) (λ p h settled. h) (none_outside message)

    by_found : (row : Option Row) → fetched S.rights s a t o seen.shelf ≡ found a t o row → Goes (found a t o row)
    by_found None same = replied (m.Deny t o why.Missing) same
    by_found (Some row) same = replied (m.Object t o row.1 row.2) same

    -- what it may fetch the set sees
    row_same : o.store ≡ s → may_fetch S.rights a o.class ≡ true → row_of name_of seen.shelf.rows o ≡ row_of name_of now.rows o
    row_same here may_it =
        known.rows o
        (and_from (sight.shows o.class) (not (sight.has o.store)) (shared.sight_is.fetches a o.class side may_it)
        (not_from_false (sight.has o.store) (ap sight.has here ∙ me.outside))) here

    by_rights : (b : Bool) → (not (o.store == s) || not (knows S.rights o.class)) ≡ b → (c : Bool) → not (may_fetch S.rights a o.class) ≡ c
        → Goes (if b then replies a (m.Deny t o why.Missing) else (if c then replies a (m.Deny t o why.Rights) else found a t o (row_of name_of now.rows o)))
    by_rights true e c g =
        replied (m.Deny t o why.Missing)
        (ap (λ b. if b then replies a (m.Deny t o why.Missing)
        else (if not (may_fetch S.rights a o.class) then replies a (m.Deny t o why.Rights) else found a t o (row_of name_of seen.shelf.rows o))) e)
    by_rights false e true g =
        replied (m.Deny t o why.Rights)
        (ap (λ b. if b then replies a (m.Deny t o why.Missing)
        else (if not (may_fetch S.rights a o.class) then replies a (m.Deny t o why.Rights) else found a t o (row_of name_of seen.shelf.rows o))) e
        ∙ ap (λ c. if c then replies a (m.Deny t o why.Rights) else found a t o (row_of name_of seen.shelf.rows o)) g)
    by_rights false e false g =
        by_found (row_of name_of now.rows o)
        (ap (λ b. if b then replies a (m.Deny t o why.Missing)
        else (if not (may_fetch S.rights a o.class) then replies a (m.Deny t o why.Rights) else found a t o (row_of name_of seen.shelf.rows o))) e
        ∙ ap (λ c. if c then replies a (m.Deny t o why.Rights) else found a t o (row_of name_of seen.shelf.rows o)) g
        ∙ ap (found a t o)
        (row_same (eqb-true o.store s (not-false (o.store == s) (or_parts (not (o.store == s)) (not (knows S.rights o.class)) e).0))
        (not-false (may_fetch S.rights a o.class) g)))

  fetch_heard : (t : Tid) (o : Oid) → Heard (m.Fetch t o)
  fetch_heard t o read own =
      is_received (fetched S.rights s a t o now)
      (by_rights t o read own (not (o.store == s) || not (knows S.rights o.class)) refl (not (may_fetch S.rights a o.class)) refl)

  -- ---- Abort and Boot: some of its sender's transactions go

  -- nothing is said
  quiet : (message : Message) → S.read bytes ≡ Some message → store_hears sight P s a message seen ≡ seen → store_applies sight P s a message seen ≡ []
      → store_says sight P s a message seen ≡ [] → Goes silent
  quiet message read hears applies says_so =
      alone message silent seen read hears applies says_so refl known refl (λ p h settled. h) (λ p h settled. h) (λ n hn sent h. absurd h)

  less_heard : (message : Message) (entry : Entry) (test : Prepared → Bool) → S.read bytes ≡ Some message
      → store_hears sight P s a message seen ≡ record seen { shelf = keeps entry seen.shelf }
      → store_applies sight P s a message seen ≡ [] → store_says sight P s a message seen ≡ []
      → ((x : Shelf) → (keeps entry x).rows ≡ x.rows) → ((x : Shelf) → (keeps entry x).prepared ≡ filter test x.prepared)
      → length (keeps entry seen.shelf).senders ≡ 64
      → ((d : ℕ) → sight.has d ≡ true → sender_in (keeps entry seen.shelf).senders d ≡ sender_in (keeps entry now).senders d)
      → ((p : Prepared) → Settled S sight.has never cs p → test p ≡ true)
      → Goes (records entry [])
  less_heard message entry test read hears applies says_so rows rest wide senders spares =
      alone message (records entry []) (record seen { shelf = keeps entry seen.shelf }) read hears applies says_so refl
      (record {
        rows = λ o shown here. ap (λ rs. row_of name_of rs o) (rows seen.shelf) ∙ known.rows o shown here ∙ ap (λ rs. row_of name_of rs o) (sym (rows now));
        prepared = rest seen.shelf ∙ ap (filter test) known.prepared ∙ filter_swap test (λ p. sight.has p.0.worker) now.prepared
            ∙ ap (filter (λ (p : Prepared). sight.has p.0.worker)) (sym (rest now));
        wide = wide;
        senders = senders;
        spelled = subst (AllByRecursion (λ (row : Row). IsObject sent_version row.2)) (sym (rows now)) known.spelled;
        left_spelled = subst (AllByRecursion (λ (p : Prepared). AllByRecursion (λ row. IsObject sent_version row.2) (left_by p.1))) (sym (rest now))
            (all_filter (λ (p : Prepared). AllByRecursion (λ row. IsObject sent_version row.2) (left_by p.1)) test now.prepared known.left_spelled);
      })
      (rows now) (λ p h settled. (in_filter test p now.prepared (subst (In p) (rest now) h)).0)
      (λ p h settled. subst (In p) (sym (rest now)) (filter_in test p now.prepared h (spares p settled)))
      (λ n hn sent h. absurd h)

  -- a transaction of the sender is prepared in the replay if it is at the store
  prepared_alike : (t : Tid) → t.worker ≡ a → is_prepared t seen.shelf ≡ is_prepared t now
  prepared_alike t mine =
      ap (list_any (λ (p : Prepared). is_tid p.0 t)) known.prepared
      ∙ any-filter_same (λ (p : Prepared). is_tid p.0 t) (λ (p : Prepared). sight.has p.0.worker) true
      (λ p same. ap (λ (u : Tid). sight.has u.worker) (tid_is p.0 t same) ∙ ap sight.has mine ∙ side) now.prepared

  -- what the replay does with a message, by what its store would say
  heard_by : (message : Message) (said : Said) → says P.rights s a message seen.shelf ≡ said
      → ◌≡◌ {A = StoreSeen} (record seen { shelf = keeps_said (says P.rights s a message seen.shelf).entry seen.shelf }) (record seen { shelf = keeps_said said.entry seen.shelf })
  heard_by message said same = ap (λ (z : Said). record seen { shelf = keeps_said z.entry seen.shelf }) same

  abort_by : (t : Tid) → t.worker ≡ a → S.read bytes ≡ Some (m.Abort t) → (b : Bool)
      → says P.rights s a (m.Abort t) seen.shelf ≡ (if b then records (e.Released t) [] else silent) → Goes (if b then records (e.Released t) [] else silent)
  abort_by t mine read true says_so =
      less_heard (m.Abort t) (e.Released t) (λ p. not (is_tid p.0 t)) read (heard_by (m.Abort t) (records (e.Released t) []) says_so) refl
      (ap (λ (z : Said). z.sends) says_so) (λ x. refl) (λ x. refl) known.wide known.senders
      (λ p settled. ap not (false_from_ne_true (is_tid p.0 t) (λ same. not_hers p settled (ap (λ (u : Tid). u.worker) (tid_is p.0 t same) ∙ mine))))
  abort_by t mine read false says_so = quiet (m.Abort t) read (heard_by (m.Abort t) silent says_so) refl (ap (λ (z : Said). z.sends) says_so)

  abort_heard : (t : Tid) → Heard (m.Abort t)
  abort_heard t read own =
      let mine : t.worker ≡ a = eqb-true t.worker a own in
      is_received (does S.rights s a (m.Abort t) now)
      (abort_by t mine read (is_prepared t now)
      (says_is (m.Abort t) own seen.shelf ∙ ap (λ b. if b then records (e.Released t) [] else silent) (prepared_alike t mine)))

  -- what is remembered of the sender changes alike
  senders_set : (n : ℕ) (x y : Sender) → n < 64 → x ≡ y → (d : ℕ) → sight.has d ≡ true
      → sender_in (set seen.shelf.senders n x) d ≡ sender_in (set now.senders n y) d
  senders_set n x y low same d inside = elim (cases_eq d n) [
    | inl here ↦
        let wide = known.wide in
        let many = as_many now.senders (shelf_ok S sight P shared w log cs k stands s me).remembered in
        ap (sender_in (set seen.shelf.senders n x)) here ∙ sender_at seen.shelf.senders n x (omega (arith, wide, low)) ∙ same
        ∙ sym (sender_at now.senders n y (omega (arith, many, low))) ∙ ap (sender_in (set now.senders n y)) (sym here)
    | inr apart ↦ sender_other seen.shelf.senders n d x apart ∙ known.senders d inside ∙ sym (sender_other now.senders n d y apart)
  ]

  low : a < 64
  low = worker_below S.rights a shared.setting.workers from

  boot_by : (v : ℕ) → S.read bytes ≡ Some (m.Boot v) → (b : Bool) → says P.rights s a (m.Boot v) seen.shelf ≡ (if b then records (e.BootSeen a v) [] else silent)
      → Goes (if b then records (e.BootSeen a v) [] else silent)
  boot_by v read true says_so =
      less_heard (m.Boot v) (e.BootSeen a v) (λ p. not (p.0.worker == a)) read (heard_by (m.Boot v) (records (e.BootSeen a v) []) says_so) refl
      (ap (λ (z : Said). z.sends) says_so) (λ x. refl) (λ x. refl) (length-set seen.shelf.senders a (record { last = start_of a v; boot = v }) ∙ known.wide)
      (senders_set a (record { last = start_of a v; boot = v }) (record { last = start_of a v; boot = v }) low refl)
      (λ p settled. ap not (ne_eqb p.0.worker a (not_hers p settled)))
  boot_by v read false says_so = quiet (m.Boot v) read (heard_by (m.Boot v) silent says_so) refl (ap (λ (z : Said). z.sends) says_so)

  boot_heard : (v : ℕ) → Heard (m.Boot v)
  boot_heard v read own =
      is_received (does S.rights s a (m.Boot v) now)
      (boot_by v read (nat_lt (boot_of now a) v)
      (says_is (m.Boot v) own seen.shelf
      ∙ ap (λ (x : Sender). if nat_lt x.boot v then records (e.BootSeen a v) [] else silent) (known.senders a side)))

  -- ---- Prepare: the message, and the vote behind it

  module _ (t : Tid) (items : Items) (mine : t.worker ≡ a) (read : S.read bytes ≡ Some (m.Prepare t items)) where
    abbrev asking : StoreSeen
    asking = record seen { asked = Some (t, items) }

    voted_told : (answer : Answer) (entry : Option Entry) (y : StoreSeen) → replay.votes sight P t answer asking ≡ y
        → ShadowsStore S sight P s (keeps_said entry now) y → (keeps_said entry now).rows ≡ now.rows
        → ((p : Prepared) → In p (keeps_said entry now).prepared → Settled S sight.has never cs p → In p now.prepared)
        → ((p : Prepared) → In p now.prepared → Settled S sight.has never cs p → In p (keeps_said entry now).prepared)
        → Goes (votes a t answer entry)
    voted_told answer entry y is ok rows old stay =
        subst (λ b. Lasts S sight P shared w log cs k stands s me (((Received s a bytes ∷ []) ++ ((if b then Voted s t answer ∷ [] else []) ++ [])) ++ [])
        (votes a t answer entry)) (sym side)
        (calm_made S sight P shared w log cs k stands s me (votes a t answer entry) (keeps_said entry now) (Received s a bytes ∷ Voted s t answer ∷ []) y refl refl
        ((λ u ne. refl), tt)
        (subst (λ z. AtStore k (after sight P k (Received s a bytes ∷ Voted s t answer ∷ [])) s z k.table) is
        (at_store_next sight P k (next sight P (Received s a bytes) k) s asking k.table (replay.votes sight P t answer) (at_heard (m.Prepare t items) read)))
        ok rows old stay (none_outside (m.Vote t answer))
        (λ d inside. ap (filter (λ (z : ℕ × Message). z.0 == d))
        (ap (λ ms. ms ++ (t.worker, m.Vote t answer) ∷ []) (sends_are (m.Prepare t items) read) ∙ ap (λ z. (z, m.Vote t answer) ∷ []) mine)))

    last_known : (d : ℕ) → sight.has d ≡ true → sender_in (with_last t seen.shelf.senders) d ≡ sender_in (with_last t now.senders) d
    last_known d inside =
        senders_set t.worker (record (sender_in seen.shelf.senders t.worker) { last = t }) (record (sender_in now.senders t.worker) { last = t })
        (subst (λ z. z < 64) (sym mine) low) (ap (λ (z : Sender). record z { last = t }) (known.senders t.worker (ap sight.has mine ∙ side))) d inside

    wide_still : length (with_last t seen.shelf.senders) ≡ 64
    wide_still = length-set seen.shelf.senders t.worker (record (sender_in seen.shelf.senders t.worker) { last = t }) ∙ known.wide

    -- its tid is old, and nothing changes
    too_old : Goes (votes a t (answers.OldTid (last_of now a)) None)
    too_old =
        voted_told (answers.OldTid (last_of now a)) None asking refl
        (record {
          rows = known.rows;
          prepared = known.prepared;
          wide = known.wide;
          senders = known.senders;
          spelled = known.spelled;
          left_spelled = known.left_spelled;
        })
        refl (λ p h settled. h) (λ p h settled. h)

    refused : (answer : Answer) → replay.votes sight P t answer asking ≡ record asking { shelf = keeps (e.Refused t) seen.shelf }
        → Goes (votes a t answer (Some (e.Refused t)))
    refused answer is =
        voted_told answer (Some (e.Refused t)) (record asking { shelf = keeps (e.Refused t) seen.shelf }) is
        (record {
          rows = known.rows;
          prepared = known.prepared;
          wide = wide_still;
          senders = last_known;
          spelled = known.spelled;
          left_spelled = known.left_spelled;
        })
        refl (λ p h settled. h) (λ p h settled. h)

    prepared : Goes (votes a t answers.Yes (Some (e.Prepared t items)))
    prepared =
        voted_told answers.Yes (Some (e.Prepared t items)) (record asking { shelf = keeps (e.Prepared t items) seen.shelf }) refl
        (record {
          rows = known.rows;
          prepared = ap (λ ps. ps ++ (t, items) ∷ []) known.prepared
              ∙ sym (filter-append (λ (p : Prepared). sight.has p.0.worker) now.prepared ((t, items) ∷ [])
              ∙ ap (λ b. filter (λ (p : Prepared). sight.has p.0.worker) now.prepared ++ (if b then (t, items) ∷ [] else [])) (ap sight.has mine ∙ side));
          wide = wide_still;
          senders = last_known;
          spelled = known.spelled;
          left_spelled = all_append (λ (p : Prepared). AllByRecursion (λ row. IsObject sent_version row.2) (left_by p.1)) now.prepared ((t, items) ∷ []) known.left_spelled
              (items_spelled items ((spelled_so S shared.setting bytes (m.Prepare t items) read).body).1, tt);
        })
        refl
        (λ p h settled. elim (in_append p now.prepared ((t, items) ∷ []) h) [
          | inl old ↦ old
          | inr new ↦ absurd (not_hers p settled (ap (λ (q : Prepared). q.0.worker) (in_one p (t, items) new) ∙ mine))
        ])
        (λ p h settled. in_left p now.prepared ((t, items) ∷ []) h)

    by_vote : (answer : Answer) → is_old answer ≡ false → Goes (votes a t answer (Some (voted t items answer)))
    by_vote answers.Yes fresh = prepared
    by_vote (answers.Stale o version) fresh = refused (answers.Stale o version) refl
    by_vote (answers.Locked u) fresh = refused (answers.Locked u) refl
    by_vote (answers.Rights o) fresh = refused (answers.Rights o) refl
    by_vote (answers.OldTid u) fresh = absurd (true≢false fresh)
    by_vote (answers.IllFormed o) fresh = refused (answers.IllFormed o) refl
    by_vote (answers.Exists o) fresh = refused (answers.Exists o) refl

    asked_told : Goes (asked S.rights s a t items now)
    asked_told =
        by_test S sight P shared w log cs k stands s me (Received s a bytes ∷ []) (not (is_above t (last_of now a))) (votes a t (answers.OldTid (last_of now a)) None)
        (votes a t (vote S.rights s a t items now) (Some (voted t items (vote S.rights s a t items now))))
        (λ _. too_old) (λ _. by_vote (vote S.rights s a t items now) (vote_fresh S.rights s a t items now))

  prepare_heard : (t : Tid) (items : Items) → Heard (m.Prepare t items)
  prepare_heard t items read own = is_received (asked S.rights s a t items now) (asked_told t items (eqb-true t.worker a own) read)

  -- ---- Commit

  module _ (t : Tid) (mine : t.worker ≡ a) (read : S.read bytes ≡ Some (m.Commit t)) where
    -- of what isn't prepared nothing is applied
    none_applied : is_prepared t now ≡ false → store_applies sight P s a (m.Commit t) seen ≡ []
    none_applied none =
        ap (λ ps. if t.worker == a then filter (λ row. is_shown sight P row.0) (flat_map (λ (p : Prepared). left_by p.1) ps) else [])
        (filter_none (λ (p : Prepared). is_tid p.0 t) seen.shelf.prepared
        (all_of (λ (p : Prepared). is_tid p.0 t ≡ false) seen.shelf.prepared
        (λ p h. false_from_ne_true (is_tid p.0 t)
        (λ same. both_ways (is_prepared t seen.shelf) (prepared_alike t mine ∙ none) (in_any (λ (q : Prepared). is_tid q.0 t) p seen.shelf.prepared h same)))))
        ∙ ap (λ b. if b then [] else []) (eq-eqb t.worker a mine)

    -- a transaction of the set is noted as applied and no more
    nothing_more : shows_change sight s t log ≡ false
    nothing_more = ap (λ b. not b && list_any (λ (o : Oid). (o.store == s) && sight.shows o.class) (changes_of t log)) (ap sight.has mine ∙ side)

    commit_by : (b : Bool) → is_prepared t now ≡ b → says P.rights s a (m.Commit t) seen.shelf ≡ (if b then records (e.Applied t) (note.Applied t ∷ []) else silent)
        → Goes (if b then records (e.Applied t) (note.Applied t ∷ []) else silent)
    commit_by false none says_so =
        quiet (m.Commit t) read (heard_by (m.Commit t) silent says_so) (none_applied none) (ap (λ (z : Said). z.sends) says_so)
    commit_by true is says_so =
        let f = any_in (λ (p : Prepared). is_tid p.0 t) now.prepared is in
        let there : In (t, f.0.1) now.prepared = subst (λ x. In (x, f.0.1) now.prepared) (tid_is f.0.0 t f.2) f.1 in
        let inside : sight.has t.worker ≡ true = ap sight.has mine ∙ side in
        subst (λ b. Lasts S sight P shared w log cs k stands s me (((Received s a bytes ∷ []) ++ ((if b then Applied s t ∷ [] else []) ++ [])) ++ [])
        (records (e.Applied t) (note.Applied t ∷ []))) (sym nothing_more)
        (applied_inside S sight P shared w log cs k stands s me t f.0.1 there inside (Received s a bytes ∷ [])
        (subst (λ z. AtStore k (next sight P (Received s a bytes) k) s z (shown_left S sight P shared w log cs k stands s me t f.0.1 there inside ++ k.table))
        (heard_by (m.Commit t) (records (e.Applied t) (note.Applied t ∷ [])) says_so)
        (subst (λ rs. AtStore k (next sight P (Received s a bytes) k) s (store_hears sight P s a (m.Commit t) seen) (rs ++ k.table))
        (applies_are f.0.1 there inside) (at_heard (m.Commit t) read)))
        (λ d bad. ap (filter (λ (z : ℕ × Message). z.0 == d))
        (append-nil (sends sight P (Received s a bytes) k) ∙ sends_are (m.Commit t) read ∙ ap (λ (z : Said). z.sends) says_so)))
      where
        applies_are : (items : Items) (there : In (t, items) now.prepared) (inside : sight.has t.worker ≡ true)
            → store_applies sight P s a (m.Commit t) seen ≡ shown_left S sight P shared w log cs k stands s me t items there inside
        applies_are items there inside =
            ap (λ b. if b then filter (λ row. is_shown sight P row.0) (flat_map (λ (p : Prepared). left_by p.1) (prepared_as t seen.shelf.prepared)) else [])
            (eq-eqb t.worker a mine)
            ∙ ap (λ ps. filter (λ row. is_shown sight P row.0) (flat_map (λ (p : Prepared). left_by p.1) ps))
            (same_prepared S sight P shared w log cs k stands s me t items there inside)
            ∙ ap (filter (λ (row : Row). is_shown sight P row.0)) (append-nil (left_by items))

  commit_heard : (t : Tid) → Heard (m.Commit t)
  commit_heard t read own =
      let mine : t.worker ≡ a = eqb-true t.worker a own in
      is_received (does S.rights s a (m.Commit t) now)
      (commit_by t mine read (is_prepared t now) refl
      (says_is (m.Commit t) own seen.shelf ∙ ap (λ b. if b then records (e.Applied t) (note.Applied t ∷ []) else silent) (prepared_alike t mine)))

  -- any message with a tid of its own
  pub heard_inside : (message : Message) → Heard message
  heard_inside (m.Fetch t o) = fetch_heard t o
  heard_inside (m.Prepare t items) = prepare_heard t items
  heard_inside (m.Commit t) = commit_heard t
  heard_inside (m.Abort t) = abort_heard t
  heard_inside (m.Boot b) = boot_heard b
  heard_inside (m.Object t o version x) = λ read own. absurd (true≢false (sym own))
  heard_inside (m.Deny t o reason) = λ read own. absurd (true≢false (sym own))
  heard_inside (m.Vote t answer) = λ read own. absurd (true≢false (sym own))
  heard_inside (m.Inquire t) = λ read own. absurd (true≢false (sym own))
