-- A worker outside the set takes a message, of a store outside the set or of one in it.
use Rattle.std.proofs.Common.{◌≡◌, ℕ, Bool, true, false, ◌&&◌, ◌||◌, IsTrue, List, [], ◌∷◌, Option, Some, None, refl, sym, ap, ◌∙◌, subst}
use Rattle.std.specs.Prelude.{◌==◌, if◌then◌else◌}
use Rattle.std.specs.List.{filter}
use Rattle.std.proofs.lemmas.Bool.{and_parts, cond_both}
use Rattle.std.proofs.lemmas.List.{append-nil}
use Rattle.fab_base.specs.declared.object.Oid.{Oid}
use Rattle.fab_base.specs.declared.object.Object.{Object}
use Rattle.fab_base.specs.declared.object.Tid.{Tid}
use Rattle.fab_base.specs.declared.message.Answer.{Answer}
use Rattle.fab_base.specs.declared.message.Answer.TheVariants.{Yes, Stale, Locked, Rights as NoRight, OldTid, IllFormed, Exists}
use Rattle.fab_base.specs.declared.message.Message.{Message}
use Rattle.fab_base.specs.declared.message.Message.TheVariants as m
use Rattle.fab_base.specs.declared.message.Why.{Why}
use Rattle.fab_base.specs.declared.message.Why.TheVariants as why
use Rattle.fab_net.specs.declared.event.Inner.TheVariants as i
use Rattle.fab_net.specs.declared.note.Commit.{Commit}
use Rattle.fab_net.specs.declared.note.Logged.{Logged}
use Rattle.fab_net.specs.declared.outcome.Denial.TheVariants.{Rights as NoRights}
use Rattle.fab_net.specs.declared.outcome.ReqOutcome.TheVariants.{Denied}
use Rattle.fab_protocol.specs.declared.parts.Parts.{Parts}
use Rattle.fab_protocol.specs.Stores.{says}
use Rattle.fab_protocol.specs.Versions.{is_tid}
use Rattle.fab_rights.specs.Computed.{is_store, is_worker}
use Rattle.fab_rights.specs.declared.rights.Rights.{Rights}
use Rattle.fab_world.specs.Machine.{Setting, World, kept, parts, front_of, may, hears, of_store, shelf}
use Rattle.fab_world.specs.Workers as workers
use Rattle.fab_world.specs.Workers.{Act, Attempt, aborts, aborts_in, awaits_object, awaits_vote, denied, stays, takes, takes_any, voted_by}
use Rattle.fab_release.specs.declared.release.Release.{Release}
use Rattle.fab_release.specs.declared.release.Release.TheVariants.{Received}
use Rattle.fab_release.specs.Sights.{Sight, Public}
use Rattle.fab_release.specs.Record.{received}
use Rattle.fab_release.specs.Replay as replay
use Rattle.fab_release.specs.Replay.{Rebuilt, is_heard, next, sends, told, worker_hears, worker_says}
use Rattle.fab_isolation.specs.Law.{IsShared}
use Rattle.fab_integrity.proofs.Invariant.{In, IsWorker, Standing, Voted, standing, tid_at}
use Rattle.fab_integrity.proofs.Tids.{tid_is}
use Rattle.fab_integrity.proofs.Transport.{front_in, running_up}
use Rattle.fab_shadow.proofs.Shadow.{never, Stands}
use Rattle.fab_shadow.proofs.Lists.{cond_same}
use Rattle.fab_shadow.proofs.Fold.{AtWorker, after, at_worker_refl, tells}
use Rattle.fab_shadow.proofs.Deeds.{Makes, Goes}
use Rattle.fab_shadow.proofs.Hearing.{at_calm, gives_made, says_mute, stays_made, tries_made}
use Rattle.fab_shadow.proofs.Votes.{yes_made}
use Rattle.fab_shadow.proofs.Inquiries.{awaiting, inquired_made}
use Rattle.fab_shadow.proofs.Objects.{fetching_at, none_told, object_made}

module _ (S : Setting) (sight : Sight) (P : Public) (shared : IsShared S sight P) (w : World) (log : List Logged) (cs : List Commit) (k : Rebuilt)
    (stands : Stands S sight P w log cs k) (n : ℕ) (me : IsWorker S sight.has never n) (s : ℕ) (can : IsTrue (may S w (i.Deliver s n))) where
  abbrev bytes : List ℕ
  bytes = front_of (w.queue s n)

  abbrev a : Attempt
  a = (w.node n).attempt

  abbrev here : Standing
  here = standing S sight.has never w cs n

  abbrev whole : Parts
  whole = parts S w n

  up : (w.node n).up ≡ true
  up = running_up S w n (and_parts _ _ (and_parts _ _ can).0).0

  queued : In bytes (w.queue s n)
  queued = front_in (w.queue s n) (and_parts _ _ can).1

  abbrev es : List Release
  es = received sight (i.Deliver s n) bytes

  module _ (is : is_store S.rights s ≡ true) where
    -- what comes of a message of a store
    abbrev Heard : Message → Type 0
    Heard message = S.read bytes ≡ Some message
        → Makes S sight P w log cs k n (received sight (i.Deliver s n) bytes)
        (takes_any S.rights S.cache n (kept S w n) s message (w.node n).attempt (parts S w n)) []

    -- in the replay most messages change nothing, and to most nothing is said at once
    abbrev IsCalm : Message → Type 0
    IsCalm message = worker_hears sight P n s message (k.worker n) ≡ k.worker n

    abbrev IsMute : Message → Type 0
    IsMute message = worker_says sight P n s message (k.worker n) ≡ []

    calm : (message : Message) → S.read bytes ≡ Some message → IsCalm message → AtWorker k (after sight P k es) n (k.worker n) k.table
    calm message read e = at_calm S sight P shared w log cs k stands n me up s is message read (sight.has s) (λ _. e)

    mute : (message : Message) → S.read bytes ≡ Some message → IsMute message → tells sight P k es ≡ []
    mute message read e = says_mute S sight P shared w log cs k stands n me up s is message read (sight.has s) (λ _. e)

    dropped : (message : Message) → S.read bytes ≡ Some message → IsCalm message → IsMute message → Makes S sight P w log cs k n es (stays a) []
    dropped message read e f =
        stays_made S sight P shared w log cs k stands n me up s es [] (calm message read e) (λ d inside. ap (filter (λ (z : ℕ × Message). z.0 == d)) (mute message read f))

    pub object_heard : (t : Tid) (o : Oid) (version : ℕ) (x : Object) → Heard (m.Object t o version x)
    object_heard t o version x read = object_made S sight P shared w log cs k stands n me up s is t o version x read queued

    -- ---- it is denied

    denied_by : (t : Tid) (o : Oid) (reason : Why) → S.read bytes ≡ Some (m.Deny t o reason) → [] ≡ aborts_in S.rights S.cache n (kept S w n) a.phase a whole
        → Makes S sight P w log cs k n es (denied S.rights S.cache n (kept S w n) s reason a) []
    denied_by t o why.Missing read none =
        tries_made S sight P shared w log cs k stands n me up s es (calm (m.Deny t o why.Missing) read refl) (mute (m.Deny t o why.Missing) read refl) [] none
    denied_by t o why.Rights read none =
        gives_made S sight P shared w log cs k stands n me up s es (calm (m.Deny t o why.Rights) read refl) (mute (m.Deny t o why.Rights) read refl) (Denied s NoRights) [] none

    pub denied_heard : (t : Tid) (o : Oid) (reason : Why) → Heard (m.Deny t o reason)
    denied_heard t o reason read =
        cond_both (awaits_object S.rights S.cache n (kept S w n) s t o a a.phase) (denied S.rights S.cache n (kept S w n) s reason a) (stays a)
        (λ act. Makes S sight P w log cs k n es act [])
        (λ asked. denied_by t o reason read
        (none_told S sight P shared w log cs k stands n me up s o (fetching_at S sight P shared w log cs k stands n me up s t o a.phase asked).fetching))
        (λ _. dropped (m.Deny t o reason) read refl refl)

    -- ---- a vote

    module _ (t : Tid) (answer : Answer) (read : S.read bytes ≡ Some (m.Vote t answer)) (ls : List ℕ) (waiting : a.phase ≡ workers.Preparing ls) where
      voted_no : Makes S sight P w log cs k n es (workers.sending (aborts S.rights S.cache n (kept S w n) a whole) (workers.try_ends S.rights S.cache n (kept S w n) a)) []
      voted_no =
          tries_made S sight P shared w log cs k stands n me up s es (calm (m.Vote t answer) read refl) (mute (m.Vote t answer) read refl)
          (aborts S.rights S.cache n (kept S w n) a whole) (sym (ap (λ q. aborts_in S.rights S.cache n (kept S w n) q a whole) waiting))

    voted : (t : Tid) (answer : Answer) → S.read bytes ≡ Some (m.Vote t answer) → (ls : List ℕ) → a.phase ≡ workers.Preparing ls → is_tid t (tid_at n here) ≡ true
        → Makes S sight P w log cs k n es (voted_by S.rights S.cache n (kept S w n) s answer a whole) []
    voted t Yes read ls waiting same =
        yes_made S sight P shared w log cs k stands n me up s es (calm (m.Vote t Yes) read refl) (mute (m.Vote t Yes) read refl) ls waiting
        (λ hs. subst (Voted S n s here (shelf S w s)) (tid_is t (tid_at n here) same) ((stands.holds.inv.pair n s me hs).hears bytes (m.Vote t Yes) queued read))
    voted t (Stale o version) read ls waiting same = voted_no t (Stale o version) read ls waiting
    voted t (Locked u) read ls waiting same = voted_no t (Locked u) read ls waiting
    voted t (NoRight o) read ls waiting same = voted_no t (NoRight o) read ls waiting
    voted t (OldTid u) read ls waiting same = voted_no t (OldTid u) read ls waiting
    voted t (IllFormed o) read ls waiting same = voted_no t (IllFormed o) read ls waiting
    voted t (Exists o) read ls waiting same = voted_no t (Exists o) read ls waiting

    pub vote_heard : (t : Tid) (answer : Answer) → Heard (m.Vote t answer)
    vote_heard t answer read =
        cond_both (awaits_vote S.rights S.cache n (kept S w n) s t a whole a.phase) (voted_by S.rights S.cache n (kept S w n) s answer a whole) (stays a)
        (λ act. Makes S sight P w log cs k n es act [])
        (λ votes. let q = awaiting S sight P shared w log cs k stands n me up s t a.phase votes in voted t answer read q.left q.waiting q.tid_is)
        (λ _. dropped (m.Vote t answer) read refl refl)

    pub inquiry_heard : (t : Tid) → Heard (m.Inquire t)
    inquiry_heard t read =
        inquired_made S sight P shared w log cs k stands n me up s is t read (λ hs. (stands.holds.inv.pair n s me hs).hears bytes (m.Inquire t) queued read)

    message_heard : (message : Message) → Heard message
    message_heard (m.Object t o version x) read = object_heard t o version x read
    message_heard (m.Deny t o reason) read = denied_heard t o reason read
    message_heard (m.Vote t answer) read = vote_heard t answer read
    message_heard (m.Inquire t) read = inquiry_heard t read
    message_heard (m.Fetch t o) read = dropped (m.Fetch t o) read refl refl
    message_heard (m.Prepare t items) read = dropped (m.Prepare t items) read refl refl
    message_heard (m.Commit t) read = dropped (m.Commit t) read refl refl
    message_heard (m.Abort t) read = dropped (m.Abort t) read refl refl
    message_heard (m.Boot b) read = dropped (m.Boot b) read refl refl

  -- ---- what isn't read, and what is of no store

  -- where the replay neither changes nor says anything
  module _ (same : next sight P (Received n s bytes) k ≡ k) (none : sends sight P (Received n s bytes) k ≡ []) where
    at_same_k : (b : Bool) → AtWorker k (after sight P k (if b then Received n s bytes ∷ [] else [])) n (k.worker n) k.table
    at_same_k true = subst (λ z. AtWorker k z n (k.worker n) k.table) (sym same) (at_worker_refl k n)
    at_same_k false = at_worker_refl k n

    says_none : (b : Bool) → tells sight P k (if b then Received n s bytes ∷ [] else []) ≡ []
    says_none true = append-nil (sends sight P (Received n s bytes) k) ∙ none
    says_none false = refl

    ignored : Makes S sight P w log cs k n es (stays a) []
    ignored =
        stays_made S sight P shared w log cs k stands n me up s es [] (at_same_k (sight.has s))
        (λ d inside. ap (filter (λ (z : ℕ × Message). z.0 == d)) (says_none (sight.has s)))

  not_read : S.read bytes ≡ None → Makes S sight P w log cs k n es (stays a) []
  not_read e =
      let none : P.read bytes ≡ None = shared.public_is.read bytes ∙ e in
      ignored
      (ap (λ found. if is_heard sight P n s then replay.hears sight P n s found k else k) none ∙ cond_same (is_heard sight P n s) k)
      (ap (λ found. if is_heard sight P n s then told sight P n s found k else []) none ∙ cond_same (is_heard sight P n s) [])

  of_no_store : is_store S.rights s ≡ false → Makes S sight P w log cs k n es (stays a) []
  of_no_store other =
      let none : is_store S.rights n ≡ false = shared.setting.apart n me.kind in
      let deaf : is_heard sight P n s ≡ false =
      ap (λ (r : Rights). (is_worker r n && is_store r s) || (is_store r n && is_worker r s)) shared.public_is.rights
      ∙ (λ i. (me.kind i && other i) || (none i && is_worker S.rights s)) in
      ignored
      (ap (λ b. if b then replay.hears sight P n s (P.read bytes) k else k) deaf)
      (ap (λ b. if b then told sight P n s (P.read bytes) k else []) deaf)

  by_read : (found : Option Message) → S.read bytes ≡ found → Makes S sight P w log cs k n es (hears S w s n found) []
  by_read None e = not_read e
  by_read (Some message) e =
      subst (λ b. Makes S sight P w log cs k n es (if b then takes S.rights S.cache n (kept S w n) s message a whole else of_store S a (says S.rights n s message (shelf S w n))) []) (sym me.kind)
      (cond_both (is_store S.rights s) (takes_any S.rights S.cache n (kept S w n) s message a whole) (stays a) (λ act. Makes S sight P w log cs k n es act [])
      (λ is. message_heard is message e) of_no_store)

  pub worker_hears_goes : Goes S sight P w log cs k (i.Deliver s n)
  worker_hears_goes = by_read (S.read bytes) refl
