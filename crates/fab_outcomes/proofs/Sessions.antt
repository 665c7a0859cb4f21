-- A worker that isn't idle is at a request of its session, so no other request has an outcome.
use Rattle.std.proofs.Common.{◌≡◌, ◌⊎◌, inl, inr, ℕ, ◌<◌, ◌≤◌, List, [], ◌∷◌, ◌++◌, length, Bool, true, false, IsTrue}
use Rattle.std.proofs.Common.{Option, Some, None, refl, sym, ap, ◌∙◌, subst, true≢false, arith, append-nil}
use Rattle.std.proofs.lemmas.Bool.{and_parts, both_ways, cases_Bool}
use Rattle.fab_net.specs.declared.event.Inner.{Inner}
use Rattle.fab_net.specs.declared.outcome.ReqOutcome.{ReqOutcome}
use Rattle.fab_rights.specs.Computed.{is_worker}
use Rattle.fab_world.specs.Machine.{Setting, World, Node, Move, Form, Does, act, are_enabled, at_start, enabled, form_of, is_idle, kept, node_of, option_list, outcome_of, runs, step, steps}
use Rattle.fab_world.specs.Serial.{IsRun, world_of}
use Rattle.fab_world.specs.Workers.{Attempt, kept_of}
use Rattle.fab_outcomes.specs.Causes.{is_final, lost_tries, AreOfSessions, IsGiven}
use Rattle.fab_outcomes.proofs.Acts.{Goes, Loses, Commits, Ends, IsAwake, comes_at}
use Rattle.fab_outcomes.proofs.Given.{given_recorded, recorded_busy}
use Rattle.fab_outcomes.proofs.Nodes.{Own, Beside, Downs, Touches, touches, event_may}
use Rattle.fab_outcomes.proofs.Having.{not_final}
use Rattle.fab_outcomes.proofs.Outcomes.{slot, slot_given, move_enabled}
use Rattle.fab_outcomes.proofs.Tries.{counted_runs}
use Rattle.fab_integrity.proofs.Changes.{does_changes}

module _ (S : Setting) (n : ℕ) (me : is_worker S.rights n ≡ true) where
  abbrev done : World → ℕ
  done w = length (kept S w n).outcomes

  abbrev idle : World → Bool
  idle w = is_idle (w.node n).attempt.phase

  -- a worker at work has a request that isn't done
  abbrev IsOpen : World → Type 0
  IsOpen w = idle w ≡ false → done w < S.requests n

  module _ (w : World) (e : Inner) (at : node_of e ≡ n) (can : IsTrue (enabled S w (Does e))) (open_ : IsOpen w) where
    abbrev v : World
    v = steps S w (Does e)

    idle_is : idle v ≡ is_idle (act S w e).attempt.phase
    idle_is = ap (λ (x : Attempt). is_idle x.phase) (subst (λ z. (v.node z).attempt ≡ (act S w e).attempt) at (does_changes S w e).attempt)

    done_is : (act S w e).entry ≡ None → done v ≡ done w
    done_is none =
        ap (λ es. length (kept_of es).outcomes)
        (subst (λ z. (v.node z).entries ≡ (w.node z).entries ++ option_list (act S w e).entry) at (does_changes S w e).entries
        ∙ ap (λ x. (w.node n).entries ++ option_list x) none ∙ append-nil (w.node n).entries)

    resting : is_idle (act S w e).attempt.phase ≡ true → IsOpen v
    resting rests busy = absurd (both_ways (idle v) busy (idle_is ∙ rests))

    -- it was at work, or begins
    going : (act S w e).entry ≡ None → (idle w ≡ true → (is_idle (act S w e).attempt.phase ≡ true) ⊎ (done w < S.requests n)) → IsOpen v
    going none rests busy = elim (cases_Bool (idle w)) [
      | inr working ↦ let low = open_ working in let same = done_is none in omega (arith, low, same)
      | inl idle_before ↦ elim (rests idle_before) [
        | inl idle_now ↦ resting idle_now busy
        | inr begins ↦ let same = done_is none in omega (arith, begins, same)
      ]
    ]

    awake : IsAwake S w n (w.node n).attempt.tries me e (act S w e) → IsOpen v
    awake up = elim up.comes [
      | Goes none t l rests ↦ going none rests
      | Loses none t l rests ↦ resting rests
      | Commits value stores is t b rests ↦ resting rests
      | Ends o is t g b rests ↦ resting rests
    ]

    acts_open : IsOpen v
    acts_open = elim (comes_at S w n (w.node n).attempt.tries me e at can (λ _. refl)) [
      | inl up ↦ awake up
      | inr r ↦ resting (ap (λ (x : Attempt). is_idle x.phase) r.fresh)
    ]

  by_touch : (w : World) (form : Form) → IsTrue (enabled S w form) → Touches S w form n → IsOpen w → IsOpen (steps S w form)
  by_touch w form can (Own e is at) h = subst (λ f. IsOpen (steps S w f)) (sym is) (acts_open w e at (subst (λ f. IsTrue (enabled S w f)) is can) h)
  by_touch w form can (Beside apart) h = subst (λ (x : Node). is_idle x.attempt.phase ≡ false → length (kept_of x.entries).outcomes < S.requests n) (sym apart.node) h
  by_touch w form can (Downs down fallen) h = λ busy. absurd (both_ways (idle (steps S w form)) busy (ap (λ (x : Attempt). is_idle x.phase) fallen))

  open_runs : (w : World) (moves : List Move) → IsTrue (are_enabled S w moves) → IsOpen w → IsOpen (runs S w moves)
  open_runs w [] can h = h
  open_runs w (move ∷ moves) can h =
      let p = and_parts (enabled S w (form_of move)) (are_enabled S (step S w move) moves) can in
      open_runs (step S w move) moves p.1 (by_touch w (form_of move) p.0 (touches S w (form_of move) n) h)

  -- a request that is given an outcome is one of the session
  pub given_within : (moves : List Move) (r : ℕ) (o : ReqOutcome) → IsRun S moves → IsGiven S moves n r o → r ≤ S.requests n
  given_within moves r o run g =
      let w : World = world_of S g.before in
      let can = move_enabled S (at_start S) g.before g.move g.more (subst (λ xs. IsTrue (are_enabled S (at_start S) xs)) g.is run.enabled) in
      let may_event = event_may S w (form_of g.move) g.event can.1 g.whole in
      let counted : (w.node n).up ≡ true → (w.node n).attempt.tries ≡ lost_tries S n g.before =
      λ up. counted_runs S n me (at_start S) 0 g.before can.0 (λ _. refl) up in
      let recorded = given_recorded S w n (lost_tries S n g.before) me g.event may_event counted o r g.gives in
      let busy = recorded_busy S w n (lost_tries S n g.before) me g.event may_event counted g.node o recorded in
      let low = open_runs (at_start S) g.before can.0 (λ busy_at_start. absurd (true≢false busy_at_start)) busy in
      let is = g.request in
      omega (arith, low, is)

pub of_sessions : (S : Setting) → AreOfSessions S
of_sessions S moves n r run me beyond = by_slot (slot S n r (world_of S moves)) refl
  where
    by_slot : (x : Option ReqOutcome) → slot S n r (world_of S moves) ≡ x → is_final (outcome_of S x ((world_of S moves).node n).failed) ≡ false
    by_slot (Some o) is = let within = given_within S n me moves r o run (slot_given S n r me moves o run is) in absurd (omega (arith, within, beyond))
    by_slot None is = not_final S ((world_of S moves).node n).failed
