-- What a worker outside D does at each of its events keeps the invariant, with what it decides.
use Rattle.std.specs.Prelude.{◌≡◌, ◌⊎◌, ℕ, suc, ◌+◌, ◌≤◌, Bool, true, false, not, ◌==◌, if◌then◌else◌, IsTrue, List, [], ◌∷◌, ◌++◌}
use Rattle.std.specs.Prelude.{length, Option, Some, None, fold}
use Rattle.std.specs.List.{filter, flat_map}
use Rattle.std.proofs.Common.{refl, sym, ap, ◌∙◌, subst, inl, inr, arith, true≢false}
use Rattle.std.proofs.lemmas.Bool.{and_parts, not-true}
use Rattle.std.proofs.lemmas.List.{append-nil}
use Rattle.fab_base.specs.declared.message.Answer.TheVariants.{Yes}
use Rattle.fab_base.specs.declared.message.Message.{Message}
use Rattle.fab_base.specs.declared.message.Message.TheVariants as m
use Rattle.fab_base.specs.FlatMap.{put_all}
use Rattle.fab_net.specs.declared.event.Inner.{Inner}
use Rattle.fab_net.specs.declared.event.Inner.TheVariants as i
use Rattle.fab_net.specs.declared.note.Commit.{Commit}
use Rattle.fab_net.specs.declared.note.Note.TheVariants as note
use Rattle.fab_net.specs.declared.outcome.ReqOutcome.{ReqOutcome}
use Rattle.fab_net.specs.declared.outcome.ReqOutcome.TheVariants.{Failed, Stopped, Conflict, Denied}
use Rattle.fab_protocol.specs.Parts.{stores_of}
use Rattle.fab_protocol.specs.Stores.{says, asks}
use Rattle.fab_world.specs.Machine.{Setting, World, option_list, kept, shelf, meant, parts, node_of, act, hears, front_of, may, lacks, is_evaluating, is_idle, of_store}
use Rattle.fab_world.specs.Serial.{IsSetting, IsEvaluation, Excludes, replay_one, commit_in}
use Rattle.fab_integrity.specs.Redone.{AllRedone}
use Rattle.fab_world.specs.Workers as workers
use Rattle.fab_world.specs.Workers.{Act, Attempt, Kept, Phase, aborts, begins, decides, gives, gives_up, is_in, needs, new_downs, new_touches, not_voted, resumes, takes, telling, wakes}
use Rattle.fab_world.proofs.WorkerActs.{IsYes, ended, resumed, taken}
use Rattle.fab_integrity.proofs.Invariant.{In, State, Standing, Open, IsPreparing, IsEnded, Inv, IsWorker, IsStore, Voted, Has, TakesPart, standing}
use Rattle.fab_integrity.proofs.Invariant.{current, tid_at, limit, limit_in, limit_at, rank, rank_of, meant_by, parts_by}
use Rattle.fab_integrity.proofs.Lists.{in_filter, none_in}
use Rattle.fab_integrity.proofs.Worlds.{Lands}
use Rattle.fab_integrity.proofs.Replays.{changes_in, behind_one}
use Rattle.fab_integrity.proofs.Decides.{redone, righted, keeps_decides}
use Rattle.fab_integrity.proofs.WorkerEvents.{keeps_again, keeps_asks, keeps_begins, keeps_fails, keeps_gives, keeps_gives_up, keeps_learns, keeps_needs, keeps_stays}
use Rattle.fab_integrity.proofs.WorkerEvents.{keeps_told_abort, keeps_told_commit, keeps_wakes, keeps_yes, nothing, only_aborts, voted_then}
use Rattle.fab_integrity.proofs.Tids.{tid_is}
use Rattle.fab_integrity.proofs.Readings.{spelled_so}
use Rattle.fab_integrity.proofs.Transport.{front_in}
use Rattle.fab_integrity.proofs.Maps.{row_among}
use Rattle.fab_integrity.proofs.Deals.{deal_of}

-- notes don't matter to what lands
pub lands_noting : (n : ℕ) (act bare : Act) (w v : World) → act.entry ≡ bare.entry → act.attempt ≡ bare.attempt → act.sends ≡ bare.sends → Lands n act w v
    → Lands n bare w v
lands_noting n act bare w v entry attempt sends l = record {
  follows = record {
    others = l.follows.others;
    queues = λ x b bytes h. elim (l.follows.queues x b bytes h) [
      | inl old ↦ inl old
      | inr new ↦ inr (new.0, record { message = new.1.message; listed = subst (In (b, new.1.message)) sends new.1.listed; spells = new.1.spells })
    ];
  };
  entries = l.entries ∙ ap (λ e. (w.node n).entries ++ option_list e) entry;
  attempt = l.attempt ∙ attempt;
  up = l.up;
}

-- there is room for the numbers of one attempt or boot more
abbrev pub HasRoom : (S : Setting) → World → Inner → Type 0
HasRoom S w (i.Begin n) = (kept S w n).boot + suc (w.node n).attempt.number ≤ 4000000001
HasRoom S w (i.Recover n) = (kept S w n).boot + 1 ≤ 4000000001
HasRoom S w (i.Resume n) = Unit {0}
HasRoom S w (i.Deliver a b) = Unit {0}
HasRoom S w (i.Idle n s) = Unit {0}

-- a phase by its name
pub is_idle_at : (phase : Phase) → is_idle phase ≡ true → phase ≡ workers.Idle
is_idle_at workers.Idle h = refl
is_idle_at workers.Evaluating h = absurd (true≢false (sym h))
is_idle_at (workers.Fetching o) h = absurd (true≢false (sym h))
is_idle_at (workers.Preparing ls) h = absurd (true≢false (sym h))

pub is_evaluating_at : (phase : Phase) → is_evaluating phase ≡ true → phase ≡ workers.Evaluating
is_evaluating_at workers.Evaluating h = refl
is_evaluating_at workers.Idle h = absurd (true≢false (sym h))
is_evaluating_at (workers.Fetching o) h = absurd (true≢false (sym h))
is_evaluating_at (workers.Preparing ls) h = absurd (true≢false (sym h))

module _ (S : Setting) (D ex : ℕ → Bool) where
  -- what becomes of the invariant where these are decided
  pub record Done (v : World) (cs : List Commit) (C : State) (n : ℕ) (es : List Commit) : Type 0 where
    pub state : State
    pub map : state.map ≡ fold (replay_one S ex) C.map es
    pub inv : Inv S D ex v (cs ++ es) state
    pub redone : AllRedone S ex C.map es
    pub left : (B : ℕ → Bool) → Excludes S B ex → B n ≡ true → state.map ≡ C.map

  calm_done : (v : World) (cs : List Commit) (C : State) (n : ℕ) → Inv S D ex v cs C → Done v cs C n []
  calm_done v cs C n inv = record { state = C; map = refl; inv = subst (λ xs. Inv S D ex v xs C) (sym (append-nil cs)) inv; redone = tt; left = λ B h b. refl }

  module _ (given : IsSetting S) (law : IsEvaluation S) (hyp : Excludes S D ex) (w v : World) (cs : List Commit) (C : State) (n : ℕ)
      (inv : Inv S D ex w cs C) (me : IsWorker S D ex n) (few : length cs ≤ 4000000000) where
    abbrev k : Kept
    k = kept S w n

    abbrev a : Attempt
    a = (w.node n).attempt

    abbrev st : Standing
    st = standing S D ex w cs n

    abbrev c : Commit
    c = current S n st

    abbrev After : Act → Type 0
    After act = Lands n act w v → Done v cs C n (flat_map commit_in act.notes)

    -- ---- the decision

    module _ (up : (w.node n).up ≡ true)
        (ready : (Open n st (tid_at n st)) ⊎ ((limit st ≤ rank_of (tid_at n st)) × (stores_of (parts_by S c) ≡ [])))
        (ended : IsEnded (meant_by S c).ending)
        (all : (s : ℕ) → IsStore S D ex s → TakesPart S s c → Has S (shelf S w s) (tid_at n st)) where
      decided_done : (b : Attempt) → b.number ≡ a.number → b.answers ≡ a.answers → b.caches ≡ a.caches
          → Lands n (decides S.rights S.cache n k b (parts_by S c)) w v → Done v cs C n (c ∷ [])
      decided_done b number answers caches l = record {
        state = behind_one S ex C c;
        map = refl;
        inv = keeps_decides S D ex given law hyp w cs C n inv me ready ended all few up b number answers caches v l;
        redone = (redone S D ex given law hyp w cs C n inv me ready ended all, tt);
        left = λ B h b. ap (λ rows. put_all rows C.map) (none_in (changes_in S ex C.map c) (λ row i.
            let f = in_filter (λ r. ex r.0.class) row _ i in
            true≢false (sym (righted S D ex given law hyp w cs C n inv me ready ended all row.0 f.1 (row_among row.0 row.1 (changes_in S ex C.map c) i))
            ∙ h.unwritten n row.0.class b f.1)));
      }

    -- what each of its acts decides: nothing, unless it is the decision
    module _ (up : (w.node n).up ≡ true) where
      began_done : a.phase ≡ workers.Idle → k.boot + suc a.number ≤ 4000000001 → After (begins S.rights S.cache n k a)
      began_done idle low l = calm_done v cs C n (keeps_begins S D ex given law hyp w v cs C n inv me up idle low l)

      -- ---- Resume

      evaluating_ready : a.phase ≡ workers.Evaluating → stores_of (parts_by S c) ≡ [] → (Open n st (tid_at n st))
          ⊎ ((limit st ≤ rank_of (tid_at n st)) × (stores_of (parts_by S c) ≡ []))
      evaluating_ready p none =
          let at : limit st ≡ rank_of (tid_at n st) = ap (λ b. limit_in b k.boot a) up ∙ ap (λ q. rank k.boot (limit_at q a.number)) p in
          inr (omega (arith, at), none)

      -- an evaluation goes on
      pub resumed_done : a.phase ≡ workers.Evaluating → After (resumes S.rights S.cache n k a (meant S w n))
      resumed_done p = resumed S.rights S.cache n k a (meant S w n) After (record {
        finds = λ site o row e at l.
            calm_done v cs C n (keeps_needs S D ex given law hyp w v cs C n inv me up p site o e
            (subst (λ row. Lands n (needs S.rights S.cache n k site o row a (meant S w n)) w v) (sym at) l));
        fetches = λ site o e at l.
            calm_done v cs C n (keeps_needs S D ex given law hyp w v cs C n inv me up p site o e
            (subst (λ row. Lands n (needs S.rights S.cache n k site o row a (meant S w n)) w v) (sym at) l));
        decides = λ value e at l.
            decided_done up (evaluating_ready p at) (subst IsEnded (sym e) tt)
            (λ s is t. absurd (true≢false (sym (subst (λ ss. IsTrue (is_in s ss)) at t))))
            (telling a (meant S w n)) refl refl refl
            (lands_noting n _ (decides S.rights S.cache n k (telling a (meant S w n)) (parts_by S c)) w v refl refl refl l);
        asks = λ value s ss e at l.
            calm_done v cs C n (keeps_asks S D ex given law hyp w v cs C n inv me up p (subst IsEnded (sym e) tt) s ss at value
            (subst (λ zs. Lands n (ended S.rights S.cache n k a (meant S w n) value zs) w v) (sym at) l));
        fails = λ e l.
            calm_done v cs C n (keeps_fails S D ex given law hyp w v cs C n inv me up p
            (note.Failed (tid_at n st) (new_touches a (meant S w n)) (new_downs a (meant S w n)) ∷ []) Failed l);
        stops = λ limit e l.
            calm_done v cs C n (keeps_fails S D ex given law hyp w v cs C n inv me up p
            (note.Stopped (tid_at n st) limit (new_touches a (meant S w n)) (new_downs a (meant S w n)) ∷ []) (Stopped limit) l);
      })

      -- ---- a message that is heard

      module _ (s : ℕ) (message : Message) (bytes : List ℕ) (there : In bytes (w.queue s n)) (read : S.read bytes ≡ Some message) where
        -- a Yes, and a question, say that its sender has prepared
        voted_by : IsYes S.rights S.cache n k s a (parts S w n) message → IsStore S D ex s → Voted S n s st (shelf S w s) (tid_at n st)
        voted_by x at = subst (Voted S n s st (shelf S w s)) (tid_is x.tid (tid_at n st) x.awaited.same) (elim x.is [
          | inl vote ↦ (inv.pair n s me at).hears bytes (m.Vote x.tid Yes) there (read ∙ ap Some vote)
          | inr inquire ↦ (inv.pair n s me at).hears bytes (m.Inquire x.tid) there (read ∙ ap Some inquire)
        ])

        -- with these no longer waited for
        behind_yes : (ls more : List ℕ) → a.phase ≡ workers.Preparing ls → filter (λ l. not (l == s)) (not_voted a.phase) ≡ more → filter (λ l. not (l == s)) ls ≡ more
        behind_yes ls more at is = ap (λ q. filter (λ l. not (l == s)) (not_voted q)) (sym at) ∙ is

        waits_so : (ls : List ℕ) → a.phase ≡ workers.Preparing ls → IsPreparing a.phase
        waits_so ls at = subst IsPreparing (sym at) tt

        gives_done : (outcome : ReqOutcome) → After (gives S.rights S.cache n k outcome a)
        gives_done outcome l =
            calm_done v cs C n (keeps_gives S D ex given law hyp w v cs C n inv me up outcome [] (nothing S D ex given law hyp w v cs C n inv me up) l)

        heard_done : After (takes S.rights S.cache n k s message a (parts S w n))
        heard_done = taken S.rights S.cache n k s a (parts S w n) message After (record {
          rests = λ e l. calm_done v cs C n (keeps_stays S D ex given law hyp w v cs C n inv me up l);
          learns = λ x e l.
              let spelled = (spelled_so S given bytes (m.Object x.tid x.name x.version x.object) (read ∙ ap Some x.is)).body in
              calm_done v cs C n (keeps_learns S D ex given law hyp w v cs C n inv me up s x.tid x.name x.version x.object x.awaited
              (λ at c place. (inv.pair n s me at).hears bytes (m.Object x.tid x.name x.version x.object) there (read ∙ ap Some x.is) c place) spelled.2 spelled.3 e l);
          denied = λ reason x l. gives_done (Denied s reason) l;
          tires = λ x e l. gives_done Conflict l;
          tries = λ x e l.
              calm_done v cs C n (keeps_again S D ex given law hyp w v cs C n inv me up [] (nothing S D ex given law hyp w v cs C n inv me up) l);
          gives_up = λ x e l.
              calm_done v cs C n (keeps_gives S D ex given law hyp w v cs C n inv me up Conflict (aborts S.rights S.cache n k a (parts S w n))
              (only_aborts S D ex given law hyp w v cs C n inv me up (waits_so x.awaited.waiting x.awaited.phase_is)) l);
          aborts = λ x e l.
              calm_done v cs C n (keeps_again S D ex given law hyp w v cs C n inv me up (aborts S.rights S.cache n k a (parts S w n))
              (only_aborts S D ex given law hyp w v cs C n inv me up (waits_so x.awaited.waiting x.awaited.phase_is)) l);
          decides = λ x e l.
              let waits = waits_so x.awaited.waiting x.awaited.phase_is in
              decided_done up (inl (record { tid = refl; waits = waits })) ((inv.worker n me).ended waits)
              (λ z at part. voted_then S D ex given law hyp w v cs C n inv me up s x.awaited.waiting x.awaited.phase_is (voted_by x) z at part
              (ap (is_in z) (behind_yes x.awaited.waiting [] x.awaited.phase_is e))) a refl refl refl l;
          waits = λ x y ls e l.
              calm_done v cs C n (keeps_yes S D ex given law hyp w v cs C n inv me up s x.awaited.store x.awaited.waiting x.awaited.phase_is y ls
              (behind_yes x.awaited.waiting (y ∷ ls) x.awaited.phase_is e) (voted_by x) l);
          commits = λ x e l.
              calm_done v cs C n (keeps_told_commit S D ex given law hyp w v cs C n inv me up s x.tid
              (spelled_so S given bytes (m.Inquire x.tid) (read ∙ ap Some x.is)).body e l);
          forgets = λ x e none l.
              calm_done v cs C n (keeps_told_abort S D ex given law hyp w v cs C n inv me up s x.tid
              (spelled_so S given bytes (m.Inquire x.tid) (read ∙ ap Some x.is)).body e none
              (λ at. (inv.pair n s me at).hears bytes (m.Inquire x.tid) there (read ∙ ap Some x.is)) l);
        })

      heard_by : (s : ℕ) (heard : Option Message) → In (front_of (w.queue s n)) (w.queue s n) → S.read (front_of (w.queue s n)) ≡ heard → After (hears S w s n heard)
      heard_by s None there read = λ l. calm_done v cs C n (keeps_stays S D ex given law hyp w v cs C n inv me up l)
      heard_by s (Some message) there read =
          subst (λ b. After (if b then takes S.rights S.cache n k s message a (parts S w n) else of_store S a (says S.rights n s message (shelf S w n)))) (sym me.kind)
          (heard_done s message (front_of (w.queue s n)) there read)

      silent_done : (s : ℕ) → IsTrue (lacks s a.phase) → After (gives_up S.rights S.cache n k s a (parts S w n))
      silent_done s h l = calm_done v cs C n (keeps_gives_up S D ex given law hyp w v cs C n inv me up s h l)

    woke_done : (w.node n).up ≡ false → k.boot + 1 ≤ 4000000001 → After (wakes S.rights S.cache n k)
    woke_done down low l = calm_done v cs C n (keeps_wakes S D ex given w v cs C n inv me down (λ c h. inv.commits.numbered c (deal_of cs n c h).0) low l)

    -- ---- each event

    -- each event of a worker outside D keeps the invariant, with what is decided
    pub acted_done : (e : Inner) → node_of e ≡ n → IsTrue (may S w e) → HasRoom S w e → After (act S w e)
    acted_done (i.Begin x) at can room =
        subst (λ z. IsTrue (may S w (i.Begin z)) → HasRoom S w (i.Begin z) → After (act S w (i.Begin z))) (sym at)
        (λ can low. let p = and_parts _ _ (and_parts _ _ can).0 in began_done (and_parts _ _ (and_parts _ _ p.0).0).1 (is_idle_at a.phase p.1) low) can room
    acted_done (i.Resume x) at can room =
        subst (λ z. IsTrue (may S w (i.Resume z)) → After (act S w (i.Resume z))) (sym at)
        (λ can. let p = and_parts _ _ can in resumed_done (and_parts _ _ p.0).1 (is_evaluating_at a.phase p.1)) can
    acted_done (i.Deliver s x) at can room =
        subst (λ z. IsTrue (may S w (i.Deliver s z)) → After (act S w (i.Deliver s z))) (sym at)
        (λ can. let p = and_parts _ _ can in heard_by (and_parts _ _ (and_parts _ _ p.0).0).1 s (S.read (front_of (w.queue s n)))
        (front_in (w.queue s n) p.1) refl) can
    acted_done (i.Idle x s) at can room =
        subst (λ z. IsTrue (may S w (i.Idle z s)) → After (act S w (i.Idle z s))) (sym at)
        (λ can. let p = and_parts _ _ (and_parts _ _ can).0 in silent_done (and_parts _ _ (and_parts _ _ p.0).0).1 s p.1) can
    acted_done (i.Recover x) at can room =
        subst (λ z. IsTrue (may S w (i.Recover z)) → HasRoom S w (i.Recover z) → After (act S w (i.Recover z))) (sym at)
        (λ can low. subst (λ b. After (if b then wakes S.rights S.cache n k else of_store S a (asks (shelf S w n)))) (sym me.kind)
        (woke_done (not-true (w.node n).up (and_parts _ _ (and_parts _ _ can).0).1) low)) can room
