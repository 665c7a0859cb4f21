-- The outcomes of a run can be shown: attempts have numbers of 32 bits, results are in their ranges, and each store that is named is a node.
use Rattle.std.proofs.Common.{◌≡◌, inl, inr, ℕ, zero, suc, ◌+◌, ◌-◌, ◌<◌, ◌^◌, List, [], ◌∷◌, ◌++◌, map, length, Bool, true, false, ◌==◌, IsTrue, if◌then◌else◌}
use Rattle.std.proofs.Common.{Option, Some, None, refl, sym, ap, ◌∙◌, subst, arith, append_assoc, append-nil}
use Rattle.std.specs.Prelude.{slice_get}
use Rattle.std.specs.List.{AllByRecursion, range_with_len}
use Rattle.std.proofs.lemmas.Bool.{and_parts, both_ways, cases_Bool, cond_both, or_right}
use Rattle.std.proofs.lemmas.List.FromFn.{length-map-range_with_len}
use Rattle.fab_base.specs.declared.entry.Entry.{Entry}
use Rattle.fab_base.specs.declared.entry.Entry.TheVariants as e
use Rattle.fab_base.proofs.Lists.{all_always, all_map}
use Rattle.fab_tree.specs.declared.resolved.Resolved.{Resolved}
use Rattle.fab_tree.specs.declared.start.Start.{Start}
use Rattle.fab_language.specs.Numbers.{resolved}
use Rattle.fab_net.specs.declared.event.Inner.{Inner}
use Rattle.fab_net.specs.declared.event.Inner.TheVariants as i
use Rattle.fab_net.specs.declared.note.Commit.{Commit}
use Rattle.fab_net.specs.declared.outcome.Denial.TheVariants.{Rights as NoRights, IllFormed}
use Rattle.fab_net.specs.declared.outcome.ReqOutcome.{ReqOutcome}
use Rattle.fab_net.specs.declared.outcome.ReqOutcome.TheVariants as o
use Rattle.fab_rights.specs.declared.rights.Rights.{Rights}
use Rattle.fab_rights.specs.Computed.{is_node, is_store, is_worker}
use Rattle.fab_protocol.specs.Shelves.{CanKeep}
use Rattle.fab_protocol.specs.Stores.{Shelf}
use Rattle.fab_attempts.specs.Sessions.{requests_of}
use Rattle.fab_world.specs.Machine.{Setting, World, Move, Form, act, at_start, enabled, form_of, kept, may, node_of, option_list, outcome, outcome_of, shelf, steps}
use Rattle.fab_world.specs.Serial.{IsEvaluation, IsRun, IsSetting, commits_in, world_of}
use Rattle.fab_world.specs.Workers.{Kept, kept_of}
use Rattle.fab_integrity.proofs.Lasting.{kept_start}
use Rattle.fab_integrity.proofs.Runs.{front_run}
use Rattle.fab_integrity.proofs.Steps.{may_honest}
use Rattle.fab_outcomes.specs.Causes.{IsCaused, IsGiven}
use Rattle.fab_outcomes.proofs.Having.{have_causes}
use Rattle.fab_outcomes.proofs.Nodes.{event_may, event_records, stands_or_not}
use Rattle.fab_outcomes.proofs.Outcomes.{move_enabled, run_append}
use Rattle.fab_outcomes.proofs.Records.{outcome_by, outcome_in, outcomes_more}
use Rattle.fab_outcomes.proofs.Tidy.{Good, Worker, good_run}
use Rattle.fab_settings.specs.Settings.{IsAcceptedWith, setting_of}
use Rattle.fab_settings.proofs.Gives.{gives_setting}
use Rattle.fab_settings.proofs.Meanings.{evaluates}
use Rattle.fab_reports.specs.Showable.{AreOutcomesIn, IsNode, IsOutcomeIn}
use Rattle.fab_shown.specs.Shown.{all_outcomes, node_count, outcomes_at}
use Rattle.fab_shown.proofs.Acts.{decided_in, kind_of, store_filed}
use Rattle.fab_named.proofs.Numbered.{has_node}
use Rattle.fab_shown.proofs.Nodes.{rights_node}

-- no record of a store gives an outcome
kept_gives : (rights : Rights) (s : ℕ) (shelf : Shelf) (entry : Entry) → CanKeep rights s entry shelf → outcome_in entry ≡ None
kept_gives rights s shelf (e.Decided t request value stores) h = absurd h
kept_gives rights s shelf (e.Closed request code node) h = absurd h
kept_gives rights s shelf (e.Boot b) h = refl
kept_gives rights s shelf (e.Prepared t items) h = refl
kept_gives rights s shelf (e.Refused t) h = refl
kept_gives rights s shelf (e.Applied t) h = refl
kept_gives rights s shelf (e.Released t) h = refl
kept_gives rights s shelf (e.BootSeen w b) h = refl

none_gives : (rights : Rights) (s : ℕ) (shelf : Shelf) (entry : Option Entry) → ((x : Entry) → entry ≡ Some x → CanKeep rights s x shelf) → outcome_by entry ≡ None
none_gives rights s shelf None h = refl
none_gives rights s shelf (Some entry) h = kept_gives rights s shelf entry (h entry refl)

module _ (s : Start) (rights : Rights) (a : IsAcceptedWith s rights) where
  abbrev r : Resolved
  r = resolved s

  abbrev S : Setting
  S = setting_of (resolved s) rights

  given : IsSetting S
  given = gives_setting s rights a

  law : IsEvaluation S
  law = evaluates s rights a

  store_node : (n : ℕ) → IsTrue (is_store rights n) → IsNode r n
  store_node n h = rights_node r rights a.rights_are n (or_right (is_worker rights n) (is_store rights n) h)

  -- ---- of a worker: by its cause

  module _ (moves : List Move) (run : IsRun S moves) (n q : ℕ) (me : is_worker rights n ≡ true) where
    module _ (o : ReqOutcome) (g : IsGiven S moves n q o) where
      abbrev w : World
      w = world_of S g.before

      front : IsRun S (g.before ++ g.move ∷ g.more)
      front = subst (IsRun S) g.is run

      may_event : IsTrue (may S w g.event)
      may_event = event_may S w (form_of g.move) g.event (move_enabled S (at_start S) g.before g.move g.more front.enabled).1 g.whole

      good : Good S w (commits_in S S.hostile g.before)
      good = good_run S given law g.before (front_run S g.before (g.move ∷ g.more) front)

      worker : Worker S (node_of g.event)
      worker = record { kind = subst (λ z. is_worker rights z ≡ true) (sym g.node) me; outside = may_honest S w g.event may_event }

    idle_node : (w : World) (event : Inner) (x : ℕ) → event ≡ i.Idle n x → IsTrue (may S w event) → is_node rights x ≡ true
    idle_node w event x is can =
        let may_idle : IsTrue (may S w (i.Idle n x)) = subst (λ y. IsTrue (may S w y)) is can in
        (and_parts _ _ (and_parts _ _ (and_parts _ _ may_idle).0).0).1

    caused_in : (o : ReqOutcome) → IsCaused S moves n q o → IsOutcomeIn r o
    caused_in (o.Committed t value) g =
        let d = g.gives in
        decided_in S given law (w (o.Committed t value) g) _ (good (o.Committed t value) g) g.event (worker (o.Committed t value) g) t q value d.stores d.record_is
    caused_in (o.Silent x) g = rights_node r rights a.rights_are x (idle_node (w (o.Silent x) g) g.event x g.gives (may_event (o.Silent x) g))
    caused_in (o.Denied x NoRights) g = let d = g.gives in let heard = d.heard in store_node x heard.store
    caused_in (o.Denied x IllFormed) g = let d = g.gives in let heard = d.heard in store_node x heard.store
    caused_in o.Failed g = tt
    caused_in o.Conflict g = tt
    caused_in (o.Stopped limit) g = tt
    caused_in o.NodeDown g = tt
    caused_in o.Unfinished g = tt

    worker_outcome : IsOutcomeIn r (outcome S (world_of S moves) n q)
    worker_outcome = caused_in (outcome S (world_of S moves) n q) ((have_causes S moves n q (outcome S (world_of S moves) n q) run me).0 refl)

  -- ---- of another node: it has none

  module _ (n : ℕ) (other : is_worker rights n ≡ false) where
    abbrev HasNone : World → Type 0
    HasNone w = (kept S w n).outcomes ≡ []

    event_none : (w : World) (cs : List Commit) (event : Inner) → Good S w cs → node_of event ≡ n → IsTrue (may S w event) → outcome_by (act S w event).entry ≡ None
    event_none w cs event good at can = elim (kind_of S w event can) [
      | inl me ↦ absurd (both_ways (is_worker rights n) other (subst (λ z. is_worker rights z ≡ true) at me.kind))
      | inr me ↦
          let filed = store_filed S given law w cs good event me can in
          none_gives rights (node_of event) (shelf S w (node_of event)) (act S w event).entry filed.keeps
    ]

    step_none : (w : World) (cs : List Commit) (form : Form) → Good S w cs → IsTrue (enabled S w form) → HasNone w → HasNone (steps S w form)
    step_none w cs form good can h = elim (stands_or_not S w form n) [
      | inr same ↦ ap (λ es. (kept_of es).outcomes) same ∙ h
      | inl stands ↦
          let entries : ((steps S w form).node n).entries ≡ (w.node n).entries ++ option_list (act S w stands.event).entry =
          subst (λ z. ((steps S w form).node z).entries ≡ (w.node z).entries ++ option_list (act S w stands.event).entry) stands.node
          (event_records S w form stands.event stands.whole) in
          let none = event_none w cs stands.event good stands.node (event_may S w form stands.event can stands.whole) in
          ap (λ es. (kept_of es).outcomes) entries ∙ outcomes_more (w.node n).entries (act S w stands.event).entry
          ∙ ap (λ x. (kept S w n).outcomes ++ option_list x) none ∙ append-nil (kept S w n).outcomes ∙ h
    ]

    all_none : (xs ys : List Move) → IsRun S (xs ++ ys) → HasNone (world_of S xs) → HasNone (world_of S (xs ++ ys))
    all_none xs [] run h = subst (λ zs. HasNone (world_of S zs)) (sym (append-nil xs)) h
    all_none xs (move ∷ ys) run h =
        let same : (xs ++ move ∷ []) ++ ys ≡ xs ++ move ∷ ys = append_assoc xs (move ∷ []) ys in
        let can = move_enabled S (at_start S) xs move ys run.enabled in
        let next = step_none (world_of S xs) (commits_in S S.hostile xs) (form_of move) (good_run S given law xs (front_run S xs (move ∷ ys) run)) can.1 h in
        subst (λ zs. HasNone (world_of S zs)) same
        (all_none (xs ++ move ∷ []) ys (subst (IsRun S) (sym same) run) (subst HasNone (sym (run_append S (at_start S) xs (move ∷ []))) next))

    has_none : (moves : List Move) → IsRun S moves → HasNone (world_of S moves)
    has_none moves run = all_none [] moves run (ap (λ (k : Kept). k.outcomes) kept_start)

    ended_in : (failed : Bool) → IsOutcomeIn r (outcome_of S None failed)
    ended_in true = tt
    ended_in false = tt

    other_outcome : (moves : List Move) → IsRun S moves → (q : ℕ) → IsOutcomeIn r (outcome S (world_of S moves) n q)
    other_outcome moves run q =
        let failed : Bool = ((world_of S moves).node n).failed in
        subst (λ os. IsOutcomeIn r (outcome_of S (if q == 0 then None else slice_get os (q - 1)) failed)) (sym (has_none moves run))
        (cond_both (q == 0) None (slice_get [] (q - 1)) (λ x. IsOutcomeIn r (outcome_of S x failed)) (λ _. ended_in failed) (λ _. ended_in failed))

  -- ---- all of them

  module _ (moves : List Move) (run : IsRun S moves) where
    each_outcome : (n q : ℕ) → IsOutcomeIn r (outcome S (world_of S moves) n q)
    each_outcome n q = elim (cases_Bool (is_worker rights n)) [
      | inl me ↦ worker_outcome moves run n q me
      | inr other ↦ other_outcome n other moves run q
    ]

    node_outcomes : (n : ℕ) → IsNode r n
        → (length (outcomes_at r rights (world_of S moves) n) < 2 ^ 32) × AllByRecursion (λ x. IsNode r n × IsOutcomeIn r x) (outcomes_at r rights (world_of S moves) n)
    node_outcomes n node =
        let long = length-map-range_with_len (λ k. outcome S (world_of S moves) n (k + 1)) 0 (length (requests_of r n)) in
        let few = given.requests n in (
          omega (arith, long, few),
          all_map (λ x. IsNode r n × IsOutcomeIn r x) (λ k. outcome S (world_of S moves) n (k + 1)) (range_with_len 0 (length (requests_of r n)))
              (all_always (λ k. IsNode r n × IsOutcomeIn r (outcome S (world_of S moves) n (k + 1))) (λ k. (node, each_outcome n (k + 1))) (range_with_len 0 (length (requests_of r n)))),
        )

    outcomes_from : (n k : ℕ) → ((m : ℕ) → m < n + k → IsNode r m) → AreOutcomesIn r n (map (outcomes_at r rights (world_of S moves)) (range_with_len n k))
    outcomes_from n zero nodes = tt
    outcomes_from n (suc k) nodes =
        let next : n + 1 ≡ suc n = omega arith in (
          node_outcomes n (nodes n (omega arith)),
          subst (λ m. AreOutcomesIn r m (map (outcomes_at r rights (world_of S moves)) (range_with_len (n + 1) k))) next
              (outcomes_from (n + 1) k (λ m low. nodes m (omega (arith, low)))),
        )

    pub outcomes_are_in : AreOutcomesIn r 0 (all_outcomes r rights (world_of S moves))
    outcomes_are_in = outcomes_from 0 (node_count r) (λ m low. has_node s.program.nodes m (omega (arith, low)))
