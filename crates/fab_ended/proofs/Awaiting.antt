-- What becomes of a worker's attempt at a message of a store: it awaits nothing, or is as before, or awaits a vote less.
use Rattle.std.proofs.Common.{◌≡◌, ℕ, List, ◌∷◌, true, not, ◌&&◌, ◌==◌, IsTrue}
use Rattle.std.proofs.Common.{None, refl, sym, ap, ◌∙◌, subst}
use Rattle.std.specs.List.{filter}
use Rattle.std.proofs.lemmas.Bool.{and_from, both_ways, eq-eqb, not-true}
use Rattle.fab_base.specs.declared.message.Answer.{Answer}
use Rattle.fab_base.specs.declared.message.Message.{Message}
use Rattle.fab_base.specs.declared.message.Message.TheVariants as m
use Rattle.fab_base.specs.declared.message.Why.{Why}
use Rattle.fab_base.specs.declared.object.Object.{Object}
use Rattle.fab_base.specs.declared.object.Oid.{Oid}
use Rattle.fab_base.specs.declared.object.Tid.{Tid}
use Rattle.fab_base.specs.FlatMap.{is_same}
use Rattle.fab_rights.specs.declared.rights.Rights.{Rights}
use Rattle.fab_rights.specs.Computed.{is_store}
use Rattle.fab_protocol.specs.declared.parts.Parts.{Parts}
use Rattle.fab_protocol.specs.Parts.{stores_of}
use Rattle.fab_protocol.specs.Versions.{is_tid}
use Rattle.fab_base.proofs.Names.{same_self}
use Rattle.fab_world.specs.Workers as workers
use Rattle.fab_world.specs.Workers.{Kept, Phase, Attempt, Act, awaits_object, awaits_vote, is_in, not_voted, stays, takes, tid_of}
use Rattle.fab_world.proofs.WorkerActs.{is_meant, taken}
use Rattle.fab_integrity.proofs.Invariant.{In}
use Rattle.fab_integrity.proofs.Lists.{in_filter, number_in}
use Rattle.fab_integrity.proofs.Tids.{tid_same}
use Rattle.fab_ended.proofs.Replies.{IsReply, IsVote}

-- nothing is awaited
abbrev pub Rests : Phase → Type 0
Rests workers.Idle = Unit {0}
Rests workers.Evaluating = Unit {0}
Rests (workers.Fetching o) = ⊥
Rests (workers.Preparing ls) = ⊥

module _ (rights : Rights) (k n : ℕ) (kept : Kept) (a : Attempt) (parts : Parts) (s : ℕ) where
  -- in this phase the attempt awaits such a message from store s
  abbrev pub Awaits : Message → Phase → Type 0
  Awaits message (workers.Fetching o) = (o.store ≡ s) × IsReply (tid_of n kept a) o message
  Awaits message (workers.Preparing ls) = In s (stores_of parts) × IsVote (tid_of n kept a) message
  Awaits message _ = ⊥

  -- what becomes of the attempt at a message of node s
  pub data Becomes (message : Message) (act : Act) : Type 0 where
    Over : Rests act.attempt.phase → Becomes message act
    Same : act.entry ≡ None → act.attempt ≡ a → (IsTrue (is_store rights s) → Awaits message a.phase → ⊥) → Becomes message act
    Fewer : (ls more : List ℕ) → a.phase ≡ workers.Preparing ls → act.entry ≡ None → act.attempt ≡ record a { phase = workers.Preparing more }
        → ((l : ℕ) → In l more → In l ls × (l ≡ s → ⊥)) → Becomes message act

  -- ---- what is awaited passes the worker's test

  fetch_awaited : (u : Tid) (p o : Oid) → o.store ≡ s → u ≡ tid_of n kept a → p ≡ o → (is_tid u (tid_of n kept a) && is_same p o && (p.store == s)) ≡ true
  fetch_awaited u p o at tid name =
      and_from (is_tid u (tid_of n kept a) && is_same p o) (p.store == s)
      (and_from (is_tid u (tid_of n kept a)) (is_same p o) (tid_same u (tid_of n kept a) tid) (subst (λ q. is_same p q ≡ true) name (same_self p)))
      (eq-eqb p.store s (ap (λ (q : Oid). q.store) name ∙ at))

  object_awaited : (u : Tid) (p : Oid) (version : ℕ) (x : Object) (phase : Phase) → Awaits (m.Object u p version x) phase
      → awaits_object rights k n kept s u p a phase ≡ true
  object_awaited u p version x (workers.Fetching o) h = fetch_awaited u p o h.0 h.1.0 h.1.1
  object_awaited u p version x workers.Idle h = absurd h
  object_awaited u p version x workers.Evaluating h = absurd h
  object_awaited u p version x (workers.Preparing ls) h = absurd h.1

  denial_awaited : (u : Tid) (p : Oid) (reason : Why) (phase : Phase) → Awaits (m.Deny u p reason) phase → awaits_object rights k n kept s u p a phase ≡ true
  denial_awaited u p reason (workers.Fetching o) h = fetch_awaited u p o h.0 h.1.0 h.1.1
  denial_awaited u p reason workers.Idle h = absurd h
  denial_awaited u p reason workers.Evaluating h = absurd h
  denial_awaited u p reason (workers.Preparing ls) h = absurd h.1

  vote_awaited : (u : Tid) (answer : Answer) (phase : Phase) → Awaits (m.Vote u answer) phase → awaits_vote rights k n kept s u a parts phase ≡ true
  vote_awaited u answer (workers.Preparing ls) h =
      and_from (is_tid u (tid_of n kept a)) (is_in s (stores_of parts)) (tid_same u (tid_of n kept a) h.1) (number_in s (stores_of parts) h.0)
  vote_awaited u answer workers.Idle h = absurd h
  vote_awaited u answer workers.Evaluating h = absurd h
  vote_awaited u answer (workers.Fetching o) h = absurd h.1

  -- a message of another kind isn't awaited
  none_awaits : (message : Message) → ((t : Tid) (o : Oid) → IsReply t o message → ⊥) → ((t : Tid) → IsVote t message → ⊥) → (phase : Phase)
      → Awaits message phase → ⊥
  none_awaits message reply vote (workers.Fetching o) h = reply (tid_of n kept a) o h.1
  none_awaits message reply vote (workers.Preparing ls) h = vote (tid_of n kept a) h.1
  none_awaits message reply vote workers.Idle h = h
  none_awaits message reply vote workers.Evaluating h = h

  awaited_meant : (message : Message) → Awaits message a.phase → is_meant rights k n kept s a parts message ≡ true
  awaited_meant (m.Object u p version x) h = object_awaited u p version x a.phase h
  awaited_meant (m.Deny u p reason) h = denial_awaited u p reason a.phase h
  awaited_meant (m.Vote u answer) h = vote_awaited u answer a.phase h
  awaited_meant message h = absurd (none_awaits message (λ t o e. e) (λ t e. e) a.phase h)

  -- ---- what the worker does

  as_before : (message : Message) (u : Tid) → message ≡ m.Inquire u → (act : Act) → act.entry ≡ None → act.attempt ≡ a → Becomes message act
  as_before message u is act none same =
      Same none same (λ store h. none_awaits (m.Inquire u) (λ t o e. e) (λ t e. e) a.phase (subst (λ x. Awaits x a.phase) is h))

  fewer : (message : Message) (ls : List ℕ) → a.phase ≡ workers.Preparing ls → (x : ℕ) (more : List ℕ) → filter (λ l. not (l == s)) (not_voted a.phase) ≡ x ∷ more
      → Becomes message (stays (record a { phase = workers.Preparing (x ∷ more) }))
  fewer message ls at x more is = Fewer ls (x ∷ more) at refl refl (λ l i.
      let left : filter (λ l. not (l == s)) ls ≡ x ∷ more = ap (λ q. filter (λ l. not (l == s)) (not_voted q)) (sym at) ∙ is in
      let f = in_filter (λ l. not (l == s)) l ls (subst (In l) (sym left) i) in
      (f.0, λ same. both_ways (l == s) (not-true (l == s) f.1) (eq-eqb l s same)))

  -- a message of a node that is no store changes nothing
  pub takes_becomes : (message : Message) → Becomes message (takes rights k n kept s message a parts)
  takes_becomes message = taken rights k n kept s a parts message (Becomes message) (record {
    rests = λ e. Same refl refl (λ is h. both_ways _ e (and_from _ _ is (awaited_meant message h)));
    learns = λ x e. Over tt;
    denied = λ reason x. Over tt;
    tires = λ x e. Over tt;
    tries = λ x e. Over tt;
    gives_up = λ x e. Over tt;
    aborts = λ x e. Over tt;
    decides = λ x e. Over tt;
    waits = λ x l ls e. fewer message x.awaited.waiting x.awaited.phase_is l ls e;
    commits = λ x e. as_before message x.tid x.is _ refl refl;
    forgets = λ x e g. as_before message x.tid x.is _ refl refl;
  })
