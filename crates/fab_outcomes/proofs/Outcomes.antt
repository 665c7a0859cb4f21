-- Each outcome of a run has its cause, each cause its outcome, and an outcome stays once it is there.
use Rattle.std.proofs.Common.{◌≡◌, inl, inr, ℕ, zero, suc, ◌-◌, List, [], ◌∷◌, ◌++◌, length, true, ◌==◌, IsTrue, if◌then◌else◌}
use Rattle.std.proofs.Common.{Option, Some, None, refl, sym, ap, ◌∙◌, subst, arith, append-nil, append_assoc}
use Rattle.std.specs.Prelude.{slice_get}
use Rattle.std.proofs.lemmas.Bool.{and_parts, ne_eqb}
use Rattle.std.proofs.lemmas.List.Sums.{fold-append}
use Rattle.fab_base.specs.declared.entry.Entry.{Entry}
use Rattle.fab_net.specs.declared.event.Inner.{Inner}
use Rattle.fab_net.specs.declared.outcome.ReqOutcome.{ReqOutcome}
use Rattle.fab_rights.specs.Computed.{is_worker}
use Rattle.fab_world.specs.Machine.{Setting, World, Move, Form, act, are_enabled, at_start, enabled, form_of, kept, node_of, option_list, runs, step, steps}
use Rattle.fab_world.specs.Serial.{IsRun, world_of}
use Rattle.fab_world.specs.Workers.{kept_of, request_of}
use Rattle.fab_integrity.proofs.Runs.{enabled_front}
use Rattle.fab_outcomes.specs.Causes.{lost_tries, whole_event, Gives, IsGiven}
use Rattle.fab_outcomes.proofs.Slots.{slot_left, slot_next, slot_from}
use Rattle.fab_outcomes.proofs.Records.{outcome_by, outcomes_more}
use Rattle.fab_outcomes.proofs.Given.{recorded_given, given_recorded}
use Rattle.fab_outcomes.proofs.Nodes.{Stands, event_may, event_records, stands_or_not}
use Rattle.fab_outcomes.proofs.Tries.{counted_runs}
use Rattle.fab_integrity.proofs.Lasting.{kept_start}

module _ (S : Setting) where
  -- ---- runs, one behind the other

  pub run_append : (w : World) (xs ys : List Move) → runs S w (xs ++ ys) ≡ runs S (runs S w xs) ys
  run_append w xs ys = fold-append (step S) w xs ys

  -- a move of a run may come behind those before it
  pub move_enabled : (w : World) (before : List Move) (move : Move) (more : List Move) → IsTrue (are_enabled S w (before ++ move ∷ more))
      → IsTrue (are_enabled S w before) × IsTrue (enabled S (runs S w before) (form_of move))
  move_enabled w before move more h =
      let q = enabled_front S w before (move ∷ more) h in
      (q.0, (and_parts (enabled S (runs S w before) (form_of move)) (are_enabled S (step S (runs S w before) move) more) q.1).0)

  -- ---- slots: what the records say of a request

  module _ (n r : ℕ) where
    abbrev pub slot : World → Option ReqOutcome
    slot w = if r == 0 then None else slice_get (kept S w n).outcomes (r - 1)

    -- request 0 is none, and another one stands behind so many others
    slot_at : (w : World) (k : ℕ) → r ≡ suc k → slot w ≡ slice_get (kept S w n).outcomes k
    slot_at w k is =
        ap (λ b. if b then None else slice_get (kept S w n).outcomes (r - 1)) (ne_eqb r 0 (λ e. absurd (omega (arith, is, e))))
        ∙ ap (slice_get (kept S w n).outcomes) (omega (arith, is))

    -- what records leave
    abbrev Behind : World → World → Option Entry → Type 0
    Behind w v entry = (v.node n).entries ≡ (w.node n).entries ++ option_list entry

    outcomes_behind : (w v : World) (entry : Option Entry) → Behind w v entry
        → (kept S v n).outcomes ≡ (kept S w n).outcomes ++ option_list (outcome_by entry)
    outcomes_behind w v entry h = ap (λ es. (kept_of es).outcomes) h ∙ outcomes_more (w.node n).entries entry

    some_behind : (w : World) (form : Form) → (entry : Option Entry) × Behind w (steps S w form) entry
    some_behind w form = elim (stands_or_not S w form n) [
      | inl stands ↦ (
        (act S w stands.event).entry,
        subst (λ z. ((steps S w form).node z).entries ≡ (w.node z).entries ++ option_list (act S w stands.event).entry)
            stands.node (event_records S w form stands.event stands.whole),
      )
      | inr same ↦ (None, same ∙ sym (append-nil (w.node n).entries))
    ]

    by_number : (w v : World) (o : ReqOutcome) → ((k : ℕ) → r ≡ suc k → slice_get (kept S w n).outcomes k ≡ Some o → slice_get (kept S v n).outcomes k ≡ Some o)
        → (number : ℕ) → r ≡ number → slot w ≡ Some o → slot v ≡ Some o
    by_number w v o f zero is h = let none = ap (λ b. if b then None else slice_get (kept S w n).outcomes (r - 1)) (ap (λ x. x == 0) is) in
        let no : None ≡ Some o = sym none ∙ h in cc
    by_number w v o f (suc k) is h = slot_at v k is ∙ f k is (sym (slot_at w k is) ∙ h)

    slot_steps : (w : World) (form : Form) (o : ReqOutcome) → slot w ≡ Some o → slot (steps S w form) ≡ Some o
    slot_steps w form o h =
        let b = some_behind w form in
        by_number w (steps S w form) o (λ k is g.
        ap (λ os. slice_get os k) (outcomes_behind w (steps S w form) b.0 b.1) ∙ slot_left (kept S w n).outcomes (option_list (outcome_by b.0)) k o g) r refl h

    -- what a request's slot has it has behind all further moves
    pub slot_stays : (w : World) (moves : List Move) (o : ReqOutcome) → slot w ≡ Some o → slot (runs S w moves) ≡ Some o
    slot_stays w [] o h = h
    slot_stays w (move ∷ moves) o h = slot_stays (step S w move) moves o (slot_steps w (form_of move) o h)

    -- ---- a run, and its events

    module _ (me : is_worker S.rights n ≡ true) where
      counted : (before : List Move) → IsTrue (are_enabled S (at_start S) before) → ((world_of S before).node n).up ≡ true
          → ((world_of S before).node n).attempt.tries ≡ lost_tries S n before
      counted before can up = counted_runs S n me (at_start S) 0 before can (λ _. refl) up

      -- an event that gives an outcome fills the slot
      given_behind : (before : List Move) (move : Move) (event : Inner) (o : ReqOutcome) → IsTrue (are_enabled S (at_start S) before)
          → IsTrue (enabled S (world_of S before) (form_of move)) → whole_event S (world_of S before) (form_of move) ≡ Some event → node_of event ≡ n
          → request_of (kept S (world_of S before) n) ≡ r → Gives S (world_of S before) n r (lost_tries S n before) o event
          → slot (step S (world_of S before) move) ≡ Some o
      given_behind before move event o can may_move whole at request gives =
          let w : World = world_of S before in
          let v : World = step S w move in
          let recorded = given_recorded S w n (lost_tries S n before) me event (event_may S w (form_of move) event may_move whole) (counted before can) o r gives in
          let entries : Behind w v (act S w event).entry =
          subst (λ z. (v.node z).entries ≡ (w.node z).entries ++ option_list (act S w event).entry) at (event_records S w (form_of move) event whole) in
          slot_at v (length (kept S w n).outcomes) (sym request)
          ∙ ap (λ os. slice_get os (length (kept S w n).outcomes))
          (outcomes_behind w v (act S w event).entry entries ∙ ap (λ x. (kept S w n).outcomes ++ option_list x) recorded)
          ∙ slot_next (kept S w n).outcomes o

      pub given_slot : (moves : List Move) (o : ReqOutcome) → IsRun S moves → IsGiven S moves n r o → slot (world_of S moves) ≡ Some o
      given_slot moves o run g =
          let can = move_enabled (at_start S) g.before g.move g.more (subst (λ xs. IsTrue (are_enabled S (at_start S) xs)) g.is run.enabled) in
          let there = given_behind g.before g.move g.event o can.0 can.1 g.whole g.node g.request g.gives in
          ap slot (ap (world_of S) g.is ∙ run_append (at_start S) g.before (g.move ∷ g.more)) ∙ slot_stays (step S (world_of S g.before) g.move) g.more o there

      -- ---- what fills a slot is given

      abbrev AllGiven : List Move → Type 0
      AllGiven moves = (o : ReqOutcome) → slot (world_of S moves) ≡ Some o → IsGiven S moves n r o

      -- with more behind
      given_more : (xs ys : List Move) (o : ReqOutcome) → IsGiven S xs n r o → IsGiven S (xs ++ ys) n r o
      given_more xs ys o g = record {
        before = g.before;
        move = g.move;
        more = g.more ++ ys;
        event = g.event;
        is = ap (λ zs. zs ++ ys) g.is ∙ append_assoc g.before (g.move ∷ g.more) ys;
        whole = g.whole;
        node = g.node;
        request = g.request;
        gives = g.gives;
      }

      new_given : (xs : List Move) (move : Move) → IsTrue (are_enabled S (at_start S) xs) → IsTrue (enabled S (world_of S xs) (form_of move)) → AllGiven xs
          → Stands S (world_of S xs) (form_of move) n → (o : ReqOutcome) (number : ℕ) → r ≡ number → slot (step S (world_of S xs) move) ≡ Some o
          → IsGiven S (xs ++ move ∷ []) n r o
      new_given xs move can may_move given stands o zero is h =
          let none = ap (λ b. if b then None else slice_get (kept S (step S (world_of S xs) move) n).outcomes (r - 1)) (ap (λ x. x == 0) is) in
          let no : None ≡ Some o = sym none ∙ h in cc
      new_given xs move can may_move given stands o (suc k) is h =
          let w : World = world_of S xs in
          let v : World = step S w move in
          let event : Inner = stands.event in
          let entries : Behind w v (act S w event).entry =
          subst (λ z. (v.node z).entries ≡ (w.node z).entries ++ option_list (act S w event).entry) stands.node
          (event_records S w (form_of move) event stands.whole) in
          let there = ap (λ os. slice_get os k) (sym (outcomes_behind w v (act S w event).entry entries)) ∙ sym (slot_at v k is) ∙ h in
          elim (slot_from (kept S w n).outcomes k o (outcome_by (act S w event).entry) there) [
            | inl old ↦ given_more xs (move ∷ []) o (given o (slot_at w k is ∙ old))
            | inr new ↦
                let request : request_of (kept S w n) ≡ r = ap suc (sym new.0) ∙ sym is in
                record {
                  before = xs;
                  move = move;
                  more = [];
                  event = event;
                  is = refl;
                  whole = stands.whole;
                  node = stands.node;
                  request = request;
                  gives = subst (λ z. Gives S w n z (lost_tries S n xs) o event) request
                      (recorded_given S w n (lost_tries S n xs) me event (event_may S w (form_of move) event may_move stands.whole) (counted xs can)
                      stands.node o new.1);
                }
          ]

      step_given : (xs : List Move) (move : Move) → IsTrue (are_enabled S (at_start S) xs) → IsTrue (enabled S (world_of S xs) (form_of move)) → AllGiven xs
          → AllGiven (xs ++ move ∷ [])
      step_given xs move can may_move given o h =
          let w : World = world_of S xs in
          let there : slot (step S w move) ≡ Some o = sym (ap slot (run_append (at_start S) xs (move ∷ []))) ∙ h in
          elim (stands_or_not S w (form_of move) n) [
            | inl stands ↦ new_given xs move can may_move given stands o r refl there
            | inr same ↦ given_more xs (move ∷ []) o
                (given o (ap (λ es. if r == 0 then None else slice_get (kept_of es).outcomes (r - 1)) (sym same) ∙ there))
          ]

      all_given : (xs ys : List Move) → IsTrue (are_enabled S (at_start S) (xs ++ ys)) → AllGiven xs → AllGiven (xs ++ ys)
      all_given xs [] can given = subst AllGiven (sym (append-nil xs)) given
      all_given xs (move ∷ ys) can given =
          let same : (xs ++ move ∷ []) ++ ys ≡ xs ++ move ∷ ys = append_assoc xs (move ∷ []) ys in
          let may_move = move_enabled (at_start S) xs move ys can in
          subst AllGiven same (all_given (xs ++ move ∷ []) ys (subst (λ zs. IsTrue (are_enabled S (at_start S) zs)) (sym same) can)
          (step_given xs move may_move.0 may_move.1 given))

      none_at_start : AllGiven []
      none_at_start o h =
          let no : None ≡ Some o = by_number_start r refl in cc
        where
          by_number_start : (number : ℕ) → r ≡ number → None ≡ Some o
          by_number_start zero is = sym (ap (λ b. if b then None else slice_get (kept S (at_start S) n).outcomes (r - 1)) (ap (λ x. x == 0) is)) ∙ h
          by_number_start (suc k) is = sym (slot_at (at_start S) k is ∙ ap (λ k0. slice_get k0.outcomes k) kept_start) ∙ h

      pub slot_given : (moves : List Move) (o : ReqOutcome) → IsRun S moves → slot (world_of S moves) ≡ Some o → IsGiven S moves n r o
      slot_given moves o run h = all_given [] moves run.enabled none_at_start o h
