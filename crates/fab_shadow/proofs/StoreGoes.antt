-- A store outside the set takes a message or recovers.
use Rattle.std.proofs.Common.{◌≡◌, ℕ, suc, Bool, true, false, ◌&&◌, ◌||◌, IsTrue, List, [], ◌∷◌, ◌++◌, map, Option, Some, None, refl, sym, ap, ◌∙◌, subst, inl, inr, arith}
use Rattle.std.specs.Prelude.{◌==◌, if◌then◌else◌}
use Rattle.std.specs.List.{filter}
use Rattle.std.proofs.lemmas.Bool.{and_parts, both_ways, cases_Bool, eqb-true, false_from_ne_true}
use Rattle.std.proofs.lemmas.List.{append-nil}
use Rattle.fab_base.specs.declared.message.Message.{Message}
use Rattle.fab_base.specs.declared.message.Message.TheVariants as m
use Rattle.fab_base.specs.MessageSpelling.{spelled}
use Rattle.fab_net.specs.declared.event.Inner.TheVariants as i
use Rattle.fab_net.specs.declared.note.Commit.{Commit}
use Rattle.fab_net.specs.declared.note.Logged.{Logged}
use Rattle.fab_rights.specs.declared.rights.Rights.{Rights}
use Rattle.fab_rights.specs.Computed.{is_store, is_worker}
use Rattle.fab_protocol.specs.declared.said.Said.{Said}
use Rattle.fab_protocol.specs.Stores.{Shelf, Prepared, asks, does, is_own, keeps_said, says, silent}
use Rattle.fab_world.specs.Machine.{Setting, World, front_of, kept, may, of_store, parts, shelf}
use Rattle.fab_world.specs.Machine as machine
use Rattle.fab_world.specs.Workers.{takes}
use Rattle.fab_world.specs.Workers as workers
use Rattle.fab_release.specs.declared.release.Release.{Release}
use Rattle.fab_release.specs.declared.release.Release.TheVariants.{Received, Recover}
use Rattle.fab_release.specs.Sights.{Sight, Public}
use Rattle.fab_release.specs.Record.{received}
use Rattle.fab_release.specs.Replay as replay
use Rattle.fab_release.specs.Replay.{Rebuilt, StoreSeen, hears, is_heard, next, sends, store_applies, store_hears, store_says, told}
use Rattle.fab_isolation.specs.Law.{IsShared}
use Rattle.fab_integrity.proofs.Invariant.{IsStore}
use Rattle.fab_integrity.proofs.Lists.{filter_twice, in_map}
use Rattle.fab_integrity.proofs.Readings.{same_kind}
use Rattle.fab_shadow.proofs.Shadow.{never, Stands, ShadowsStore}
use Rattle.fab_shadow.proofs.Fold.{AtStore, after, at_store_refl}
use Rattle.fab_shadow.proofs.Lists.{cond_same, filter_of_map}
use Rattle.fab_shadow.proofs.Deeds.{Goes, Makes}
use Rattle.fab_shadow.proofs.StoreHere.{Lasts, SaysSo, SendsDated, Tells, calm_made, shadows}
use Rattle.fab_shadow.proofs.StoreOutside.{heard_outside}
use Rattle.fab_shadow.proofs.StoreInside.{at_heard, heard_inside, sends_are}

module _ (S : Setting) (sight : Sight) (P : Public) (shared : IsShared S sight P) (w : World) (log : List Logged) (cs : List Commit) (k : Rebuilt)
    (stands : Stands S sight P w log cs k) (s : ℕ) (me : IsStore S sight.has never s) where
  abbrev now : Shelf
  now = shelf S w s

  abbrev seen : StoreSeen
  seen = k.store s

  known : ShadowsStore S sight P s now seen
  known = shadows S sight P shared w log cs k stands s me

  -- a store is no worker
  not_worker : is_worker S.rights s ≡ false
  not_worker = false_from_ne_true (is_worker S.rights s) (λ worker. both_ways (is_store S.rights s) (shared.setting.apart s worker) me.kind)

  no_worker : is_worker P.rights s ≡ false
  no_worker = ap (λ (r : Rights). is_worker r s) shared.public_is.rights ∙ not_worker

  -- ---- what is dropped

  silent_made : (entries : List Release) (y : StoreSeen) → AtStore k (after sight P k entries) s y k.table → ShadowsStore S sight P s now y
      → SaysSo S sight P shared w log cs k stands s me entries [] → Lasts S sight P shared w log cs k stands s me entries silent
  silent_made entries y at ok so =
      calm_made S sight P shared w log cs k stands s me silent now entries y refl refl tt at ok refl (λ p h settled. h) (λ p h settled. h)
      (λ n hn sent h. absurd h) so

  module _ (a : ℕ) (can : IsTrue (may S w (i.Deliver a s))) where
    abbrev bytes : List ℕ
    bytes = front_of (w.queue a s)

    -- what is said to what is received, if it is of a node of the set
    abbrev Answers : Said → Type 0
    Answers said = Tells S sight P shared w log cs k stands s me (received sight (i.Deliver a s) bytes) said

    -- the replay drops it, too, so there is nothing to tell
    dropped : next sight P (Received s a bytes) k ≡ k → sends sight P (Received s a bytes) k ≡ [] → Answers silent
    dropped same none = by_side (sight.has a)
      where
        by_side : (b : Bool) → Tells S sight P shared w log cs k stands s me (if b then Received s a bytes ∷ [] else []) silent
        by_side true =
            silent_made (Received s a bytes ∷ []) seen (subst (λ r. AtStore k r s seen k.table) (sym same) (at_store_refl k s)) known
            (λ d inside. ap (filter (λ (z : ℕ × Message). z.0 == d)) (append-nil (sends sight P (Received s a bytes) k) ∙ none))
        by_side false = silent_made [] seen (at_store_refl k s) known (λ d inside. refl)

    -- what is read as no message
    unread : S.read bytes ≡ None → Answers silent
    unread none =
        let read : P.read bytes ≡ None = shared.public_is.read bytes ∙ none in
        dropped
        (ap (λ heard. if is_heard sight P s a then hears sight P s a heard k else k) read ∙ cond_same (is_heard sight P s a) k)
        (ap (λ heard. if is_heard sight P s a then told sight P s a heard k else []) read ∙ cond_same (is_heard sight P s a) [])

    -- of a node that is no worker nothing is heard
    unheard : is_worker S.rights a ≡ false → is_heard sight P s a ≡ false
    unheard other =
        ap (λ (r : Rights). (is_worker r s && is_store r a) || (is_store r s && is_worker r a)) shared.public_is.rights
        ∙ ap (λ b. (b && is_store S.rights a) || (is_store S.rights s && is_worker S.rights a)) not_worker
        ∙ ap (λ b. b && is_worker S.rights a) me.kind ∙ other

    of_no_worker : is_worker S.rights a ≡ false → Answers silent
    of_no_worker other =
        dropped (ap (λ b. if b then hears sight P s a (P.read bytes) k else k) (unheard other))
        (ap (λ b. if b then told sight P s a (P.read bytes) k else []) (unheard other))

    -- ---- a message with another's tid, of a worker

    unsaid : (message : Message) → is_own a message ≡ false → (x : Shelf) → says P.rights s a message x ≡ silent
    unsaid message other x =
        ap (λ b. if is_worker P.rights a && b then does P.rights s a message x else silent) other ∙ never_both (is_worker P.rights a)
      where
        never_both : (b : Bool) → (if b && false then does P.rights s a message x else silent) ≡ silent
        never_both true = refl
        never_both false = refl

    still_heard : (message : Message) → is_own a message ≡ false
        → ShadowsStore S sight P s now (record seen { shelf = keeps_said (says P.rights s a message seen.shelf).entry seen.shelf })
    still_heard message other =
        subst (λ (z : Said). ShadowsStore S sight P s now (record seen { shelf = keeps_said z.entry seen.shelf })) (sym (unsaid message other seen.shelf)) known

    -- the replay keeps a Prepare, which nothing reads
    heard_still : (message : Message) → is_own a message ≡ false → ShadowsStore S sight P s now (store_hears sight P s a message seen)
    heard_still (m.Prepare t items) other = record {
      rows = known.rows;
      prepared = known.prepared;
      wide = known.wide;
      senders = known.senders;
      spelled = known.spelled;
      left_spelled = known.left_spelled;
    }
    heard_still (m.Fetch t o) other = still_heard (m.Fetch t o) other
    heard_still (m.Commit t) other = still_heard (m.Commit t) other
    heard_still (m.Abort t) other = still_heard (m.Abort t) other
    heard_still (m.Boot b) other = still_heard (m.Boot b) other
    heard_still (m.Object t o version x) other = still_heard (m.Object t o version x) other
    heard_still (m.Deny t o reason) other = still_heard (m.Deny t o reason) other
    heard_still (m.Vote t answer) other = still_heard (m.Vote t answer) other
    heard_still (m.Inquire t) other = still_heard (m.Inquire t) other

    none_applied : (message : Message) → is_own a message ≡ false → store_applies sight P s a message seen ≡ []
    none_applied (m.Commit t) other = rw other refl
    none_applied (m.Prepare t items) other = refl
    none_applied (m.Fetch t o) other = refl
    none_applied (m.Abort t) other = refl
    none_applied (m.Boot b) other = refl
    none_applied (m.Object t o version x) other = refl
    none_applied (m.Deny t o reason) other = refl
    none_applied (m.Vote t answer) other = refl
    none_applied (m.Inquire t) other = refl

    none_said : (message : Message) → is_own a message ≡ false → store_says sight P s a message seen ≡ []
    none_said (m.Prepare t items) other = refl
    none_said (m.Fetch t o) other = ap (λ (z : Said). z.sends) (unsaid (m.Fetch t o) other seen.shelf)
    none_said (m.Commit t) other = ap (λ (z : Said). z.sends) (unsaid (m.Commit t) other seen.shelf)
    none_said (m.Abort t) other = ap (λ (z : Said). z.sends) (unsaid (m.Abort t) other seen.shelf)
    none_said (m.Boot b) other = ap (λ (z : Said). z.sends) (unsaid (m.Boot b) other seen.shelf)
    none_said (m.Object t o version x) other = ap (λ (z : Said). z.sends) (unsaid (m.Object t o version x) other seen.shelf)
    none_said (m.Deny t o reason) other = ap (λ (z : Said). z.sends) (unsaid (m.Deny t o reason) other seen.shelf)
    none_said (m.Vote t answer) other = ap (λ (z : Said). z.sends) (unsaid (m.Vote t answer) other seen.shelf)
    none_said (m.Inquire t) other = ap (λ (z : Said). z.sends) (unsaid (m.Inquire t) other seen.shelf)

    of_another : (message : Message) → S.read bytes ≡ Some message → is_worker S.rights a ≡ true → is_own a message ≡ false → Answers silent
    of_another message read from other = by_side (sight.has a) refl
      where
        by_side : (b : Bool) → sight.has a ≡ b → Tells S sight P shared w log cs k stands s me (if b then Received s a bytes ∷ [] else []) silent
        by_side true inside =
            silent_made (Received s a bytes ∷ []) (store_hears sight P s a message seen)
            (subst (λ rows. AtStore k (next sight P (Received s a bytes) k) s (store_hears sight P s a message seen) (rows ++ k.table)) (none_applied message other)
            (at_heard S sight P shared w log cs k stands s me a can from inside message read))
            (heard_still message other)
            (λ d bad. ap (filter (λ (z : ℕ × Message). z.0 == d))
            (append-nil (sends sight P (Received s a bytes) k) ∙ sends_are S sight P shared w log cs k stands s me a can from inside message read
            ∙ none_said message other))
        by_side false inside = silent_made [] seen (at_store_refl k s) known (λ d bad. refl)

    -- ---- whatever it is

    owned : (message : Message) → S.read bytes ≡ Some message → is_worker S.rights a ≡ true → is_own a message ≡ true → Answers (does S.rights s a message now)
    owned message read from own = elim (cases_Bool (sight.has a)) [
      | inl inside ↦ heard_inside S sight P shared w log cs k stands s me a can from inside message read own
      | inr outside ↦ heard_outside S sight P shared w log cs k stands s me a can from outside message read own
    ]

    by_sender : (message : Message) → S.read bytes ≡ Some message → (b : Bool) → (is_worker S.rights a && is_own a message) ≡ b
        → Answers (if b then does S.rights s a message now else silent)
    by_sender message read true both = let p = and_parts (is_worker S.rights a) (is_own a message) both in owned message read p.0 p.1
    by_sender message read false neither = elim (cases_Bool (is_worker S.rights a)) [
      | inr other ↦ of_no_worker other
      | inl from ↦ of_another message read from (sym (ap (λ b. b && is_own a message) from) ∙ neither)
    ]

    by_reading : (heard : Option Message) → S.read bytes ≡ heard
        → Makes S sight P w log cs k s (received sight (i.Deliver a s) bytes) (machine.hears S w a s heard) []
    by_reading None none = unread none
    by_reading (Some message) read =
        subst (λ b. Makes S sight P w log cs k s (received sight (i.Deliver a s) bytes)
        (if b then takes S.rights S.cache s (kept S w s) a message (w.node s).attempt (parts S w s) else of_store S (w.node s).attempt (says S.rights s a message now)) [])
        (sym not_worker) (by_sender message read (is_worker S.rights a && is_own a message) refl)

  pub store_hears_goes : (a : ℕ) → IsTrue (may S w (i.Deliver a s)) → Goes S sight P w log cs k (i.Deliver a s)
  store_hears_goes a can = by_reading a can (S.read (front_of (w.queue a s))) refl

  -- ---- it recovers, and asks what became of what it has prepared

  asks_dated : SendsDated S sight P shared w log cs k stands s me k.table now (asks now).sends
  asks_dated n hn sent h t o version x read shown here =
      let f = in_map (λ (p : Prepared). (p.0.worker, m.Inquire p.0)) (n, sent) now.prepared h in
      let is : S.read (spelled (m.Inquire f.0.0)) ≡ Some (m.Object t o version x) = ap (λ (z : ℕ × Message). S.read (spelled z.1)) (sym f.2) ∙ read in
      let differs : 9 ≡ 2 = same_kind S shared.setting (m.Inquire f.0.0) (m.Object t o version x) is in
      absurd (omega (arith, differs))

  -- of each worker of the set it asks for the same, in the same order
  asks_alike : (d : ℕ) → sight.has d ≡ true → filter (λ z. z.0 == d) (asks seen.shelf).sends ≡ filter (λ z. z.0 == d) (asks now).sends
  asks_alike d inside =
      filter_of_map (λ (z : ℕ × Message). z.0 == d) (λ (p : Prepared). (p.0.worker, m.Inquire p.0)) seen.shelf.prepared
      ∙ ap (map (λ (p : Prepared). (p.0.worker, m.Inquire p.0)))
      (ap (filter (λ (p : Prepared). p.0.worker == d)) known.prepared
      ∙ filter_twice (λ (p : Prepared). p.0.worker == d) (λ (p : Prepared). sight.has p.0.worker)
      (λ p same. ap sight.has (eqb-true p.0.worker d same) ∙ inside) now.prepared)
      ∙ sym (filter_of_map (λ (z : ℕ × Message). z.0 == d) (λ (p : Prepared). (p.0.worker, m.Inquire p.0)) now.prepared)

  asks_made : Makes S sight P w log cs k s [] (of_store S (w.node s).attempt (asks now)) (Recover s ∷ [])
  asks_made =
      calm_made S sight P shared w log cs k stands s me (asks now) now (Recover s ∷ []) seen refl refl tt
      (subst (λ r. AtStore k r s seen k.table) (sym (ap (λ b. if b then replay.at_worker sight P k s (λ v. record v { boot = suc v.boot; number = 0 }) else k) no_worker))
      (at_store_refl k s))
      known refl (λ p h settled. h) (λ p h settled. h) asks_dated
      (λ d inside. ap (filter (λ (z : ℕ × Message). z.0 == d))
      (append-nil (sends sight P (Recover s) k) ∙ ap (λ b. if b then replay.wakes sight P (k.worker s) else (asks seen.shelf).sends) no_worker)
      ∙ asks_alike d inside)

  pub store_wakes_goes : IsTrue (may S w (i.Recover s)) → Goes S sight P w log cs k (i.Recover s)
  store_wakes_goes can =
      subst (λ b. Makes S sight P w log cs k s [] (if b then workers.wakes S.rights S.cache s (kept S w s) else of_store S (w.node s).attempt (asks now)) (Recover s ∷ []))
      (sym not_worker) asks_made
