-- Nobody gives up waiting in a calm run without hostile nodes, so no request ends by silence; and without crash lines and marks runs are calm.
use Rattle.std.proofs.Common.{◌≡◌, inl, inr, ℕ, List, [], ◌∷◌, ◌++◌, Bool, true, false, not, ◌&&◌, ◌||◌, IsTrue, if◌then◌else◌}
use Rattle.std.proofs.Common.{Option, None, is_some, length, refl, sym, ap, ◌∙◌, subst, true≢false, append-nil, append_assoc, arith}
use Rattle.std.specs.Prelude.{slice_get}
use Rattle.std.specs.List.{list_all}
use Rattle.std.proofs.lemmas.Bool.{and_parts, both_ways, eqb-true, false_from_ne_true, or_cases}
use Rattle.std.proofs.lemmas.Option.{slice_get_past}
use Rattle.fab_base.proofs.Lists.{all_split}
use Rattle.fab_net.specs.declared.event.Event.{Event}
use Rattle.fab_net.specs.declared.event.Event.TheVariants as event
use Rattle.fab_net.specs.declared.event.Inner.{Inner}
use Rattle.fab_net.specs.declared.event.Inner.TheVariants as i
use Rattle.fab_net.specs.declared.outcome.ReqOutcome.TheVariants.{Silent}
use Rattle.fab_net.specs.declared.note.Commit.{Commit}
use Rattle.fab_rights.specs.Computed.{is_node, is_store, is_worker, nodes_in}
use Rattle.fab_world.specs.Crashing.{crashes_by, crashes_of, cut_at, events_of, if_after, is_cut_to, keeps_by, keeps_lines, line_now, may_follow}
use Rattle.fab_world.specs.Machine.{Setting, World, Move, Form, Does, Cuts, Fails, Posts, Crashes, Never, act, at_start, enabled, form_by, form_of, is_empty, is_evaluating, is_running}
use Rattle.fab_world.specs.Machine.{is_settled, kept, lacks, may, node_of, record_at, step, steps}
use Rattle.fab_world.specs.Serial.{IsEvaluation, IsOrdinary, IsRun, IsSetting, commits_in, world_of}
use Rattle.fab_world.specs.Workers as workers
use Rattle.fab_world.specs.Workers.{Phase}
use Rattle.fab_integrity.proofs.Invariant.{In}
use Rattle.fab_integrity.proofs.Lists.{in_numbers}
use Rattle.fab_integrity.proofs.Runs.{front_run}
use Rattle.fab_integrity.proofs.Roles.{at_node}
use Rattle.fab_integrity.proofs.Steps.{lacks_none}
use Rattle.fab_outcomes.specs.Causes.{IsGiven}
use Rattle.fab_outcomes.proofs.Having.{have_causes}
use Rattle.fab_outcomes.proofs.Nodes.{event_may}
use Rattle.fab_outcomes.proofs.Outcomes.{move_enabled, run_append}
use Rattle.fab_outcomes.proofs.Tidy.{Good, good_run, tidy_run}
use Rattle.fab_ended.specs.Ended.{AreUnmarked}
use Rattle.fab_ended.specs.Silence.{AreCalm, IsCalm, NoneGivesUp, NoneIsHostile, NoneIsSilent, no_lines}
use Rattle.fab_ended.proofs.Served.{IsServed, Served, served_does, store_is}
use Rattle.fab_ended.proofs.Waiting.{not_empty}

-- of two that are none, either
none_both : {A : Type 0} (b : Bool) (x : Option A) → x ≡ None → (if b then x else None) ≡ None
none_both true x h = h
none_both false x h = refl

module _ (S : Setting) where
  module _ (given : IsSetting S) (law : IsEvaluation S) (honest : NoneIsHostile S) where
    -- ---- in a world in which each worker is served

    module _ (w : World) (cs : List Commit) (good : Good S w cs) (served : Served S w) where
      -- at a node that is settled nothing waits
      settled_hears : (x : ℕ) → is_settled S w x ≡ true → (a : ℕ) → is_node S.rights a ≡ true → is_empty (w.queue a x) ≡ true
      settled_hears x h a is =
          let still : Bool = (w.node x).up && not (is_evaluating (w.node x).attempt.phase) && list_all (λ a. is_empty (w.queue a x)) (nodes_in S.rights) in
          elim (or_cases (S.hostile x || (w.node x).failed) still (and_parts (is_empty (w.posts x)) (S.hostile x || (w.node x).failed || still) h).1) [
            | inl gone ↦ elim (or_cases (S.hostile x) (w.node x).failed gone) [
              | inl hostile ↦ absurd (both_ways (S.hostile x) (honest x) hostile)
              | inr failed ↦ absurd (both_ways (w.node x).failed (served.sound x) failed)
            ]
            | inr none ↦
                at_node S.rights given.workers given.stores (λ b. is_empty (w.queue b x))
                (and_parts ((w.node x).up && not (is_evaluating (w.node x).attempt.phase)) (list_all (λ a. is_empty (w.queue a x)) (nodes_in S.rights)) none).1 a is
          ]

      module _ (n s : ℕ) (node : is_node S.rights n ≡ true) (other : is_node S.rights s ≡ true)
          (all : list_all (is_settled S w) (nodes_in S.rights) ≡ true) where
        -- no question waits for s, and no answer for n
        none_to : (bytes : List ℕ) → In bytes (w.queue n s) → ⊥
        none_to bytes h = not_empty bytes (w.queue n s) h (settled_hears s (at_node S.rights given.workers given.stores (is_settled S w) all s other) n node)

        none_back : (bytes : List ℕ) → In bytes (w.queue s n) → ⊥
        none_back bytes h = not_empty bytes (w.queue s n) h (settled_hears n (at_node S.rights given.workers given.stores (is_settled S w) all n node) s other)

        -- so nothing of it is awaited
        none_lacked : (p : Phase) → IsServed S n (kept S w n) (w.node n).attempt (w.queue n) (λ x. w.queue x n) p → lacks s p ≡ true → ⊥
        none_lacked workers.Idle h lack = true≢false (sym lack)
        none_lacked workers.Evaluating h lack = true≢false (sym lack)
        none_lacked (workers.Fetching o) h lack =
            let same = eqb-true o.store s lack in
            elim h.1 [
              | inl c ↦ none_to c.bytes (subst (λ z. In c.bytes (w.queue n z)) same c.waits)
              | inr c ↦ none_back c.bytes (subst (λ z. In c.bytes (w.queue z n)) same c.waits)
            ]
        none_lacked (workers.Preparing ls) h lack =
            let g = h s (in_numbers s ls lack) in
            elim g.2 [ inl c ↦ none_to c.bytes c.waits | inr c ↦ none_back c.bytes c.waits ]

      -- no worker may give up
      none_idle : (n s : ℕ) → may S w (i.Idle n s) ≡ false
      none_idle n s = false_from_ne_true (may S w (i.Idle n s)) (λ can.
          let p = and_parts (is_running S w n && is_node S.rights s && lacks s (w.node n).attempt.phase) (list_all (is_settled S w) (nodes_in S.rights)) can in
          let q = and_parts (is_running S w n && is_node S.rights s) (lacks s (w.node n).attempt.phase) p.0 in
          let r = and_parts (is_running S w n) (is_node S.rights s) q.0 in
          let node : is_node S.rights n ≡ true =
          (and_parts (is_node S.rights n) (not (S.hostile n)) (and_parts (is_node S.rights n && not (S.hostile n)) (w.node n).up r.0).0).0 in
          elim (or_cases (is_worker S.rights n) (is_store S.rights n) node) [
            | inl worker ↦ none_lacked n s node r.1 p.1 (w.node n).attempt.phase (served.each n worker) q.1
            | inr store ↦ lacks_none s (w.node n).attempt.phase (good.idle n (store_is S given law honest n store)) q.1
          ])

    -- ---- in calm runs

    served_start : Served S (at_start S)
    served_start = record { up = λ x. refl; sound = λ x. refl; each = λ n me. tt }

    served_form : (xs : List Move) → IsRun S xs → Served S (world_of S xs) → (form : Form) → IsOrdinary form → IsTrue (enabled S (world_of S xs) form)
        → Served S (steps S (world_of S xs) form)
    served_form xs run served (Does e) calm can =
        served_does S given law honest (world_of S xs) (commits_in S S.hostile xs) (good_run S given law xs run) (tidy_run S given law xs run) served e can
    served_form xs run served (Posts h) calm can =
        absurd (both_ways (S.hostile h) (honest h) (and_parts (is_node S.rights h) (S.hostile h) (and_parts _ _ can).0).1)
    served_form xs run served (Cuts keep e) calm can = absurd calm
    served_form xs run served (Fails keep e) calm can = absurd calm
    served_form xs run served (Crashes n) calm can = absurd calm
    served_form xs run served Never calm can = absurd calm

    served_runs : (xs ys : List Move) → IsRun S (xs ++ ys) → IsCalm ys → Served S (world_of S xs) → Served S (world_of S (xs ++ ys))
    served_runs xs [] run calm served = subst (λ zs. Served S (world_of S zs)) (sym (append-nil xs)) served
    served_runs xs (move ∷ ys) run calm served =
        let same : (xs ++ move ∷ []) ++ ys ≡ xs ++ move ∷ ys = append_assoc xs (move ∷ []) ys in
        let can = move_enabled S (at_start S) xs move ys run.enabled in
        let next : Served S (step S (world_of S xs) move) = served_form xs (front_run S xs (move ∷ ys) run) served (form_of move) calm.0 can.1 in
        subst (λ zs. Served S (world_of S zs)) same
        (served_runs (xs ++ move ∷ []) ys (subst (IsRun S) (sym same) run) calm.1 (subst (Served S) (sym (run_append S (at_start S) xs (move ∷ []))) next))

    pub none_gives_up : NoneGivesUp S
    none_gives_up moves n s run calm =
        none_idle (world_of S moves) (commits_in S S.hostile moves) (good_run S given law moves run) (served_runs [] moves run calm served_start) n s

    -- an outcome by silence has its event, which can't have come
    pub none_silent : NoneIsSilent S
    none_silent moves n r s run calm me h =
        let g : IsGiven S moves n r (Silent s) = (have_causes S moves n r (Silent s) run me).0 h in
        let w : World = world_of S g.before in
        let whole = subst (IsRun S) g.is run in
        let can = move_enabled S (at_start S) g.before g.move g.more whole.enabled in
        let may_event = event_may S w (form_of g.move) g.event can.1 g.whole in
        let idle : IsTrue (may S w (i.Idle n s)) = subst (λ e. IsTrue (may S w e)) g.gives may_event in
        let front = (all_split (λ (move : Move). IsOrdinary (form_of move)) g.before (g.move ∷ g.more) (subst IsCalm g.is calm)).0 in
        both_ways (may S w (i.Idle n s)) (none_gives_up g.before n s (front_run S g.before (g.move ∷ g.more) whole) front) idle

  -- ---- runs without crash lines and marks

  no_line : (w : World) (before : List Move) (n : ℕ) → line_now S no_lines w before n ≡ None
  no_line w before n =
      none_both (is_running S w n) (if_after (events_of n before) (slice_get (no_lines n) (crashes_of n before)))
      (ap (if_after (events_of n before)) (slice_get_past (no_lines n) (crashes_of n before) (omega arith)))

  no_cut : (w : World) (before : List Move) (e : Inner) → cut_at S no_lines w before e ≡ None
  no_cut w before e =
      none_both (is_some (act S w e).entry) (keeps_by S no_lines (line_now S no_lines w before (node_of e))) (ap (keeps_by S no_lines) (no_line w before (node_of e)))

  calm_event : (w : World) (before : List Move) (e : Event) → IsTrue (may_follow S no_lines w before (form_by false e)) → IsOrdinary (form_by false e)
  calm_event w before (event.Begin n) h = tt
  calm_event w before (event.Resume n) h = tt
  calm_event w before (event.Deliver a b) h = tt
  calm_event w before (event.Idle n s) h = tt
  calm_event w before (event.Recover n) h = tt
  calm_event w before (event.Post x) h = tt
  calm_event w before (event.Crash n) h =
      absurd (true≢false (sym (and_parts (is_running S w n) _ h).1 ∙ ap (λ line. crashes_by S no_lines line) (no_line w before n)))
  calm_event w before (event.CrashIn keep e) h =
      absurd (true≢false (sym (and_parts _ (is_cut_to S no_lines (cut_at S no_lines w before e) keep (length (record_at S w e))) h).1
      ∙ ap (λ c. is_cut_to S no_lines c keep (length (record_at S w e))) (no_cut w before e)))

  calm_from : (w : World) (before moves : List Move) → IsTrue (keeps_lines S no_lines w before moves) → AreUnmarked moves → IsCalm moves
  calm_from w before [] h unmarked = tt
  calm_from w before (move ∷ moves) h unmarked =
      let p = and_parts (may_follow S no_lines w before (form_of move)) (keeps_lines S no_lines (step S w move) (before ++ move ∷ []) moves) h in (
        subst (λ b. IsTrue (may_follow S no_lines w before (form_by b move.event)) → IsOrdinary (form_by b move.event)) (sym unmarked.0)
            (calm_event w before move.event) p.0,
        calm_from (step S w move) (before ++ move ∷ []) moves p.1 unmarked.1,
      )

  pub are_calm : AreCalm S
  are_calm moves h unmarked = calm_from (at_start S) [] moves h unmarked
