-- A store asks a worker outside the set what became of an attempt.
use Rattle.std.proofs.Common.{◌≡◌, ℕ, Bool, true, false, not, ◌&&◌, ◌||◌, cond, List, [], ◌∷◌, map, Some, refl, sym, ap, ◌∙◌, subst, true≢false}
use Rattle.std.specs.Prelude.{◌==◌, if◌then◌else◌}
use Rattle.std.specs.List.{filter, list_any}
use Rattle.std.proofs.lemmas.Bool.{and_parts, both_ways, cond_both, ne_eqb}
use Rattle.fab_base.specs.declared.message.Message.{Message}
use Rattle.fab_base.specs.declared.message.Message.TheVariants as m
use Rattle.fab_base.specs.declared.object.Oid.{Oid}
use Rattle.fab_base.specs.declared.object.Tid.{Tid}
use Rattle.fab_net.specs.declared.note.Commit.{Commit}
use Rattle.fab_net.specs.declared.note.Logged.{Logged}
use Rattle.fab_protocol.specs.declared.parts.Decision.{Decision}
use Rattle.fab_protocol.specs.declared.parts.Parts.{Parts}
use Rattle.fab_protocol.specs.Parts.{stores_of}
use Rattle.fab_protocol.specs.Versions.{is_tid}
use Rattle.fab_rights.specs.Computed.{is_store}
use Rattle.fab_world.specs.Machine.{Setting, World, front_of, kept, parts, shelf}
use Rattle.fab_world.specs.Workers as workers
use Rattle.fab_world.specs.Workers.{Attempt, Phase, awaits_vote, has_decided, inquired, is_in, sending, stays, takes_any, yes_from}
use Rattle.fab_release.specs.declared.release.Release.{Release}
use Rattle.fab_release.specs.Sights.{Sight, Public}
use Rattle.fab_release.specs.Replay.{Rebuilt, WorkerSeen, Commitment, Runs, Waits, has_committed, is_voting, worker_says}
use Rattle.fab_isolation.specs.Law.{IsShared}
use Rattle.fab_integrity.proofs.Invariant.{IsStore, IsWorker, Standing, Voted, decision_of, parts_by, standing, tid_at}
use Rattle.fab_integrity.proofs.Tids.{tid_is}
use Rattle.fab_shadow.proofs.Shadow.{never, Stands, InPhase, Keeps, commitment}
use Rattle.fab_shadow.proofs.Fold.{AtWorker, after}
use Rattle.fab_shadow.proofs.Deeds.{Makes}
use Rattle.fab_shadow.proofs.Here.{same_tid, shadows, worker_ok}
use Rattle.fab_shadow.proofs.Hearing.{at_calm, entries, says_mute, says_one, stays_made}
use Rattle.fab_shadow.proofs.Votes.{yes_made}

-- what is in a set is in a list if it is in what of the list is in the set
step_in : (has : ℕ → Bool) (s d : ℕ) (fewer rest : List ℕ) → has d ≡ true → is_in d fewer ≡ is_in d rest → (b : Bool) → has s ≡ b
    → is_in d (cond b (s ∷ fewer) fewer) ≡ ((s == d) || is_in d rest)
step_in has s d fewer rest inside same true e = ap (λ b. (s == d) || b) same
step_in has s d fewer rest inside same false e =
    same ∙ sym (ap (λ b. b || is_in d rest) (ne_eqb s d (λ is. both_ways (has s) e (ap has is ∙ inside))))

in_filtered : (has : ℕ → Bool) (ss : List ℕ) (d : ℕ) → has d ≡ true → is_in d (filter has ss) ≡ is_in d ss
in_filtered has [] d inside = refl
in_filtered has (s ∷ ss) d inside = step_in has s d (filter has ss) ss inside (in_filtered has ss d inside) (has s) refl

-- an attempt that is prepared with a store
pub record IsAwaiting (phase : Phase) (t tid : Tid) : Type 0 where
  pub left : List ℕ
  pub waiting : phase ≡ workers.Preparing left
  pub tid_is : is_tid t tid ≡ true

module _ (S : Setting) (sight : Sight) (P : Public) (shared : IsShared S sight P) (w : World) (log : List Logged) (cs : List Commit) (k : Rebuilt)
    (stands : Stands S sight P w log cs k) (n : ℕ) (me : IsWorker S sight.has never n) (up : (w.node n).up ≡ true) (s : ℕ) where
  abbrev a : Attempt
  a = (w.node n).attempt

  abbrev here : Standing
  here = standing S sight.has never w cs n

  abbrev y : WorkerSeen
  y = k.worker n

  abbrev whole : Parts
  whole = parts S w n

  abbrev bytes : List ℕ
  bytes = front_of (w.queue s n)

  keeps : Keeps S sight P here y
  keeps = (shadows S sight P shared w log cs k stands n me).keeps

  pub awaiting : (t : Tid) (phase : Phase) → awaits_vote S.rights S.cache n (kept S w n) s t a whole phase ≡ true → IsAwaiting phase t (tid_at n here)
  awaiting t workers.Idle h = absurd (true≢false (sym h))
  awaiting t workers.Evaluating h = absurd (true≢false (sym h))
  awaiting t (workers.Fetching o) h = absurd (true≢false (sym h))
  awaiting t (workers.Preparing ls) h = record { left = ls; waiting = refl; tid_is = (and_parts (is_tid t (tid_at n here)) (is_in s (stores_of whole)) h).0 }

  -- ---- the replay makes the same tests, for a store in the set

  module _ (t : Tid) (inside : sight.has s ≡ true) where
    commits_so : (ds : List Commit) → list_any (λ c. is_tid c.tid t && is_in s c.stores) (map (commitment S sight P) ds)
        ≡ list_any (λ d. is_tid d.tid t && is_in s d.stores) (map (decision_of S) ds)
    commits_so [] = refl
    commits_so (c ∷ ds) = λ i. (is_tid c.tid t && in_filtered sight.has (stores_of (parts_by S c)) s inside i) || commits_so ds i

    committed_so : has_committed sight P s t y ≡ has_decided S.rights S.cache n (kept S w n) t s
    committed_so =
        ap (λ (cs : List Commitment). list_any (λ c. is_tid c.tid t && is_in s c.stores) cs) keeps.commits ∙ commits_so here.deals
        ∙ ap (λ (ds : List Decision). list_any (λ d. is_tid d.tid t && is_in s d.stores) ds) (sym (worker_ok S sight P shared w log cs k stands n me).listed)

    not_voting : (b : Bool) (o : Oid) → is_voting sight P n s t y (if b then Waits o else Runs) ≡ false
    not_voting true o = refl
    not_voting false o = refl

    voting_so : (phase : Phase) → InPhase S sight P n phase here log y → is_voting sight P n s t y y.stage ≡ awaits_vote S.rights S.cache n (kept S w n) s t a whole phase
    voting_so workers.Idle h = ap (is_voting sight P n s t y) h
    voting_so workers.Evaluating h = ap (is_voting sight P n s t y) h.stage
    voting_so (workers.Fetching o) h = ap (is_voting sight P n s t y) h.stage ∙ not_voting (sight.has o.store) o
    voting_so (workers.Preparing ls) h =
        ap (is_voting sight P n s t y) h.stage
        ∙ ap (λ u. is_tid t u && is_in s (stores_of h.parts)) (same_tid S sight P shared w log cs k stands n me y keeps up)
        ∙ ap (λ b. is_tid t (tid_at n here) && b)
        (sym (in_filtered sight.has (stores_of h.parts) s inside) ∙ ap (is_in s) h.shade.stores ∙ in_filtered sight.has (stores_of whole) s inside)

    -- so it says the same
    abbrev says_by : Bool → Bool → Bool → List (ℕ × Message)
    says_by mine decided votes = if not mine then [] else (if decided then (s, m.Commit t) ∷ [] else (if votes then [] else (s, m.Abort t) ∷ []))

    says_as : (mine decided votes : Bool) → (t.worker == n) ≡ mine → has_decided S.rights S.cache n (kept S w n) t s ≡ decided
        → awaits_vote S.rights S.cache n (kept S w n) s t a whole a.phase ≡ votes → worker_says sight P n s (m.Inquire t) y ≡ says_by mine decided votes
    says_as mine decided votes e f g = λ i.
        says_by (e i) ((committed_so ∙ f) i) ((voting_so a.phase (shadows S sight P shared w log cs k stands n me).phase ∙ g) i)

  -- ---- the answer

  module _ (is : is_store S.rights s ≡ true) (t : Tid) (read : S.read bytes ≡ Some (m.Inquire t))
      (heard : IsStore S sight.has never s → Voted S n s here (shelf S w s) t) where
    abbrev es : List Release
    es = entries S sight P shared w log cs k stands n me up s (sight.has s)

    at : AtWorker k (after sight P k es) n y k.table
    at = at_calm S sight P shared w log cs k stands n me up s is (m.Inquire t) read (sight.has s) (λ _. refl)

    not_mine : (t.worker == n) ≡ false → Makes S sight P w log cs k n es (stays a) []
    not_mine other =
        stays_made S sight P shared w log cs k stands n me up s es [] at
        (λ d inside. ap (filter (λ (z : ℕ × Message). z.0 == d))
        (says_mute S sight P shared w log cs k stands n me up s is (m.Inquire t) read (sight.has s)
        (λ has. says_as t has false (has_decided S.rights S.cache n (kept S w n) t s) (awaits_vote S.rights S.cache n (kept S w n) s t a whole a.phase) other refl refl)))

    asked : (t.worker == n) ≡ true → Makes S sight P w log cs k n es (inquired S.rights S.cache n (kept S w n) s t a whole) []
    asked mine =
        cond_both (has_decided S.rights S.cache n (kept S w n) t s) (sending ((s, m.Commit t) ∷ []) (stays a))
        (cond (awaits_vote S.rights S.cache n (kept S w n) s t a whole a.phase) (yes_from S.rights S.cache n (kept S w n) s a whole) (sending ((s, m.Abort t) ∷ []) (stays a)))
        (λ act. Makes S sight P w log cs k n es act [])
        (λ decided.
        stays_made S sight P shared w log cs k stands n me up s es ((s, m.Commit t) ∷ []) at
        (says_one S sight P shared w log cs k stands n me up s is (m.Inquire t) read (m.Commit t) (sight.has s) refl
        (λ has. says_as t has true true (awaits_vote S.rights S.cache n (kept S w n) s t a whole a.phase) mine decided refl)))
        (λ undecided.
        cond_both (awaits_vote S.rights S.cache n (kept S w n) s t a whole a.phase) (yes_from S.rights S.cache n (kept S w n) s a whole) (sending ((s, m.Abort t) ∷ []) (stays a))
        (λ act. Makes S sight P w log cs k n es act [])
        (λ votes.
        let q = awaiting t a.phase votes in
        yes_made S sight P shared w log cs k stands n me up s es at
        (says_mute S sight P shared w log cs k stands n me up s is (m.Inquire t) read (sight.has s) (λ has. says_as t has true false true mine undecided votes))
        q.left q.waiting (λ hs. subst (Voted S n s here (shelf S w s)) (tid_is t (tid_at n here) q.tid_is) (heard hs)))
        (λ unasked.
        stays_made S sight P shared w log cs k stands n me up s es ((s, m.Abort t) ∷ []) at
        (says_one S sight P shared w log cs k stands n me up s is (m.Inquire t) read (m.Abort t) (sight.has s) refl
        (λ has. says_as t has true false false mine undecided unasked))))

    pub inquired_made : Makes S sight P w log cs k n es (takes_any S.rights S.cache n (kept S w n) s (m.Inquire t) a whole) []
    inquired_made =
        cond_both (t.worker == n) (inquired S.rights S.cache n (kept S w n) s t a whole) (stays a) (λ act. Makes S sight P w log cs k n es act [])
        asked not_mine
