-- In every calm run a worker that is alone comes to what its requests come to one after the other; and so does a run that is over.
use Rattle.std.proofs.Common.{◌≡◌, ◌⊎◌, inl, inr, ℕ, zero, suc, ◌-◌, ◌<◌, ◌≤◌, List, [], ◌∷◌, ◌++◌, map, length, Bool, true, false, not, ◌&&◌, ◌==◌, IsTrue, if◌then◌else◌}
use Rattle.std.proofs.Common.{Option, Some, None, option_map, refl, sym, ap, ◌∙◌, subst, arith, append-nil, append_assoc, lit≤, true≢false, cond}
use Rattle.std.specs.Prelude.{nat_lt, slice_get}
use Rattle.std.specs.List.{AllByRecursion, filter, range_with_len}
use Rattle.std.proofs.lemmas.Bool.{and_parts, both_ways, cases_Bool, cases_eq, cases_lt, eq-eqb, false_from_ne_true, ltb-true, ne_eqb, not-true, or_cases}
use Rattle.std.proofs.lemmas.Option.{unwrap_or-slice_get}
use Rattle.fab_base.specs.declared.message.Message.TheVariants as m
use Rattle.fab_base.specs.declared.object.Object.{Object}
use Rattle.fab_base.specs.declared.object.Oid.{Oid}
use Rattle.fab_base.specs.FieldSpelling.{IsTid}
use Rattle.fab_base.specs.FlatMap.{FlatMap, get, is_same}
use Rattle.fab_base.specs.MessageSpelling.{spelled}
use Rattle.fab_base.proofs.NameOrder.{one_name}
use Rattle.fab_base.proofs.Lists.{all_append}
use Rattle.fab_language.specs.declared.ending.Ending.{Ending}
use Rattle.fab_language.specs.declared.ending.Ending.TheVariants as endings
use Rattle.fab_language.specs.Evaluation.{if_ended}
use Rattle.fab_net.specs.declared.event.Inner.{Inner}
use Rattle.fab_net.specs.declared.event.Inner.TheVariants as i
use Rattle.fab_net.specs.declared.note.Commit.{Commit}
use Rattle.fab_rights.specs.Computed.{is_node, is_store, is_worker}
use Rattle.fab_protocol.specs.declared.parts.Decision.{Decision}
use Rattle.fab_protocol.specs.declared.sender.Sender.{Sender}
use Rattle.fab_protocol.specs.Stores.{Prepared, behind, sender_in, unheard}
use Rattle.fab_protocol.specs.Tables.{row_of}
use Rattle.fab_protocol.specs.Versions.{Row, begun, is_tid, name_of}
use Rattle.fab_protocol.proofs.Records.{worker_below}
use Rattle.fab_protocol.proofs.Commits.{tid_itself}
use Rattle.fab_world.specs.Crashing.{CrashLine, IsOver}
use Rattle.fab_world.specs.Machine.{Setting, World, Move, Form, Does, Cuts, Fails, Posts, Crashes, Never, act, at_start, enabled, form_of, held_at, is_decided, is_empty, is_evaluating, is_idle, is_running}
use Rattle.fab_world.specs.Machine.{kept, lands, may, option_list, outcome_of, ready, shelf, step, steps}
use Rattle.fab_world.specs.Serial.{AreFit, ArePosts, Excludes, IsEvaluation, IsFit, IsOrdinary, IsRun, IsSetting, commits_in, held_map, world_of}
use Rattle.fab_world.specs.Workers as workers
use Rattle.fab_world.specs.Workers.{Act, Phase}
use Rattle.fab_integrity.proofs.Held.{held_is, held_row}
use Rattle.fab_integrity.proofs.Invariant.{In, IsStore, State, committed, decision_of}
use Rattle.fab_integrity.proofs.Lasting.{kept_start, shelf_start}
use Rattle.fab_integrity.proofs.Lists.{get_or_all, in_any, map_in}
use Rattle.fab_integrity.proofs.Maps.{get_in, same_maps}
use Rattle.fab_integrity.proofs.Lists.{each_of}
use Rattle.fab_integrity.proofs.Over.{over_is_done}
use Rattle.fab_integrity.proofs.Runs.{front_run, holds_run}
use Rattle.fab_integrity.proofs.Steps.{Holds}
use Rattle.fab_integrity.proofs.WorkerSteps.{is_evaluating_at, is_idle_at}
use Rattle.fab_outcomes.proofs.Outcomes.{move_enabled, run_append}
use Rattle.fab_outcomes.proofs.Slots.{slot_left, slot_next}
use Rattle.fab_outcomes.proofs.Tidy.{Good, Tidy, good_run, tidy_run}
use Rattle.fab_ended.specs.Silence.{IsCalm, NoneIsHostile}
use Rattle.fab_ended.proofs.Served.{store_is}
use Rattle.fab_ended.proofs.Silent.{none_gives_up}
use Rattle.fab_ended.proofs.Waiting.{read_itself}
use Rattle.fab_alone.specs.Alone.{HasRights, IsInTurn, IsSameOverMore, NoneLacks, first_tid, map_behind, meant_behind, outcome_by}
use Rattle.fab_alone.proofs.Caches.{cached_blank}
use Rattle.fab_alone.proofs.Evaluations.{ascends_behind}
use Rattle.fab_alone.proofs.Links.{HasRow, IsDue, Left, Link, Rests, commit_bytes, outcomes_to, parts_now}
use Rattle.fab_alone.proofs.Steps.{AloneIn, answer_lands, begin_result, other_lands, resume_result, store_lands, stranger_lands, worker_lands}
use Rattle.fab_alone.proofs.Tables.{object_in}
use Rattle.fab_alone.proofs.Views.{landed_failed, landed_up}
use Rattle.fab_alone.proofs.WorkerSteps.{length_outcomes}

-- ---- the start

all_new : (ns : List ℕ) → AllByRecursion (λ (x : Sender). x.last.number ≤ 0) (map unheard ns)
all_new [] = tt
all_new (n ∷ ns) = (omega arith, all_new ns)

new_sender : (ns : List ℕ) (n : ℕ) → (sender_in (map unheard ns) n).last.number ≤ 0
new_sender ns n =
    subst (λ (x : Sender). x.last.number ≤ 0) (sym (unwrap_or-slice_get (map unheard ns) n (unheard n)))
    (get_or_all (λ (x : Sender). x.last.number ≤ 0) (map unheard ns) n (unheard n) (all_new ns) (omega arith))

-- a root stands at its store
start_content : (roots : FlatMap) (s : ℕ) (o : Oid) → o.store ≡ s
    → object_in (row_of name_of (map begun (filter (λ (root : Oid × Object). root.0.store == s) roots)) o) ≡ get roots o
start_content [] s o at = refl
start_content (r ∷ roots) s o at =
    let rest : List Row = map begun (filter (λ (root : Oid × Object). root.0.store == s) roots) in
    elim (cases_eq r.0.store s) [
      | inl here ↦
          ap (λ b. object_in (row_of name_of (map begun (cond b (r ∷ filter (λ (root : Oid × Object). root.0.store == s) roots) (filter (λ (root : Oid × Object). root.0.store == s) roots))) o))
          (eq-eqb r.0.store s here)
          ∙ elim (is_same r.0 o) as (λ b. object_in (cond b (Some (begun r)) (row_of name_of rest o)) ≡ (if b then Some r.1 else get roots o)) [
            | true ↦ refl
            | false ↦ start_content roots s o at
          ]
      | inr other ↦
          ap (λ b. object_in (row_of name_of (map begun (cond b (r ∷ filter (λ (root : Oid × Object). root.0.store == s) roots) (filter (λ (root : Oid × Object). root.0.store == s) roots))) o))
          (ne_eqb r.0.store s other)
          ∙ start_content roots s o at
          ∙ sym (ap (λ b. if b then Some r.1 else get roots o)
          (false_from_ne_true (is_same r.0 o) (λ e. other (ap (λ (p : Oid). p.store) (one_name r.0 o e) ∙ at))))
    ]

-- the object of a committed row
committed_object : (C : State) (o : Oid) → object_in (committed C o) ≡ get C.map o
committed_object C o = elim (get C.map o) as (λ x. object_in (option_map (λ y. (o, C.version o, y)) x) ≡ x) [ None ↦ refl | Some x ↦ refl ]

module _ (S : Setting) (given : IsSetting S) (law : IsEvaluation S) (honest : NoneIsHostile S) (n : ℕ) (me : IsTrue (is_worker S.rights n)) where
  start_alone : AloneIn S n (at_start S)
  start_alone = record {
    count = 0;
    table = λ s. map begun (filter (λ (root : Oid × Object). root.0.store == s) S.roots);
    boot = ap (λ (x : workers.Kept). x.boot) kept_start;
    outcomes = ap (λ (x : workers.Kept). x.outcomes) kept_start;
    tries = refl;
    number = refl;
    left = omega arith;
    awaits = tt;
    content = λ o. start_content S.roots o.store o refl;
    cached = cached_blank (HasRow S n (λ s. map begun (filter (λ (root : Oid × Object). root.0.store == s) S.roots))) 0 (range_with_len 0 64);
    answered = λ r h. absurd h;
    links = λ s store.
        subst (λ x. Rests n 0 (map begun (filter (λ (root : Oid × Object). root.0.store == s) S.roots)) [] [] x) (sym (shelf_start S.roots s))
        (record {
          owes = record { due = None; own = tt; waits = refl; prepared = refl; rows = refl; low = new_sender (range_with_len 0 64) n };
          none = refl;
        });
  }

  module _ (only : (x : ℕ) → IsTrue (is_worker S.rights x) → x ≡ n) (rights : HasRights S n) (found : NoneLacks S n) (more : IsSameOverMore S n) where
    -- ---- in calm runs

    -- every node is up and sound, and the worker is as it is to be
    record Works (w : World) : Type 0 where
      up : (x : ℕ) → (w.node x).up ≡ true
      sound : (x : ℕ) → (w.node x).failed ≡ false
      alone : AloneIn S n w

    works_by : (u : World) → ((x : ℕ) → (u.node x).up ≡ true) → ((x : ℕ) → (u.node x).failed ≡ false) → (b : ℕ) (does : Act) → AloneIn S n (lands S u b does)
        → Works (lands S u b does)
    works_by u up sound b does h = record { up = landed_up S honest u up b does; sound = λ x. landed_failed S honest u up b does x ∙ sound x; alone = h }

    module _ (w : World) (cs : List Commit) (good : Good S w cs) (tidy : Tidy S w cs) (works : Works w) where
      node_kind : (x : ℕ) → is_running S w x ≡ true → is_worker S.rights x ≡ true ⊎ (is_store S.rights x ≡ true)
      node_kind x h =
          or_cases (is_worker S.rights x) (is_store S.rights x)
          (and_parts (is_node S.rights x) (not (S.hostile x)) (and_parts (is_node S.rights x && not (S.hostile x)) (w.node x).up h).0).0

      heard_works : (x b : ℕ) → is_running S w b ≡ true → IsTrue (not (is_empty (w.queue x b))) → Works (steps S w (Does (i.Deliver x b)))
      heard_works x b running some =
          let u = ready S w (i.Deliver x b) in
          works_by u works.up works.sound b (act S w (i.Deliver x b)) (elim (node_kind b running) [
            | inl work ↦
                subst (λ z. IsTrue (not (is_empty (w.queue x z))) → AloneIn S n (steps S w (Does (i.Deliver x z)))) (sym (only b work)) (λ some_here.
                elim (cases_Bool (is_store S.rights x)) [
                  | inl store ↦ answer_lands S given law honest n me rights found more w cs good tidy works.up works.alone x store some_here
                  | inr none ↦ stranger_lands S given law honest n me rights found more w cs good tidy works.up works.alone x none
                ]) some
            | inr store ↦ elim (cases_Bool (is_worker S.rights x)) [
              | inl work ↦
                  subst (λ z. IsTrue (not (is_empty (w.queue z b))) → AloneIn S n (steps S w (Does (i.Deliver z b)))) (sym (only x work)) (λ some_here.
                  store_lands S given law honest n me rights found more w cs good tidy works.up works.alone b store some_here) some
              | inr none ↦ other_lands S given law honest n me rights found more w cs good tidy works.up works.alone x b store none
            ]
          ])

      does_works : (e : Inner) → IsTrue (may S w e) → ((x s : ℕ) → may S w (i.Idle x s) ≡ false) → Works (steps S w (Does e))
      does_works (i.Begin x) can never =
          let p = and_parts (is_running S w x && is_worker S.rights x && is_idle (w.node x).attempt.phase) _ can in
          let q = and_parts (is_running S w x && is_worker S.rights x) (is_idle (w.node x).attempt.phase) p.0 in
          let work = (and_parts (is_running S w x) (is_worker S.rights x) q.0).1 in
          subst (λ z. is_idle (w.node z).attempt.phase ≡ true → nat_lt (length (kept S w z).outcomes) (S.requests z) ≡ true → Works (steps S w (Does (i.Begin z)))) (sym (only x work))
          (λ idle few. works_by w works.up works.sound n (act S w (i.Begin n)) (worker_lands S given law honest n me w works.up (act S w (i.Begin n))
          (begin_result S given law honest n me rights found more w cs good tidy works.up works.alone (is_idle_at (w.node n).attempt.phase idle)
          (ltb-true (length (kept S w n).outcomes) (S.requests n) few)))) q.1 p.1
      does_works (i.Resume x) can never =
          let p = and_parts (is_running S w x) (is_evaluating (w.node x).attempt.phase) can in
          elim (node_kind x p.0) [
            | inr store ↦ absurd (true≢false (sym p.1 ∙ ap is_evaluating (good.idle x (store_is S given law honest x store))))
            | inl work ↦
                subst (λ z. is_evaluating (w.node z).attempt.phase ≡ true → Works (steps S w (Does (i.Resume z)))) (sym (only x work))
                (λ busy. works_by w works.up works.sound n (act S w (i.Resume n)) (worker_lands S given law honest n me w works.up (act S w (i.Resume n))
                (resume_result S given law honest n me rights found more w cs good tidy works.up works.alone (is_evaluating_at (w.node n).attempt.phase busy)))) p.1
          ]
      does_works (i.Deliver x b) can never =
          let p = and_parts (is_running S w b && is_node S.rights x) (not (is_empty (w.queue x b))) can in
          heard_works x b (and_parts (is_running S w b) (is_node S.rights x) p.0).0 p.1
      does_works (i.Idle x s) can never = absurd (both_ways (may S w (i.Idle x s)) (never x s) can)
      does_works (i.Recover x) can never =
          let p = and_parts (is_node S.rights x && not (S.hostile x) && not (w.node x).up) (not (w.node x).failed) can in
          let q = and_parts (is_node S.rights x && not (S.hostile x)) (not (w.node x).up) p.0 in
          absurd (both_ways (w.node x).up (not-true (w.node x).up q.1) (works.up x))

    works_form : (xs : List Move) → IsRun S xs → IsCalm xs → Works (world_of S xs) → (form : Form) → IsOrdinary form → IsTrue (enabled S (world_of S xs) form)
        → Works (steps S (world_of S xs) form)
    works_form xs run calm works (Does e) ordinary can =
        does_works (world_of S xs) (commits_in S S.hostile xs) (good_run S given law xs run) (tidy_run S given law xs run) works e can
        (λ x s. none_gives_up S given law honest xs x s run calm)
    works_form xs run calm works (Posts h) ordinary can =
        absurd (both_ways (S.hostile h) (honest h) (and_parts (is_node S.rights h) (S.hostile h) (and_parts _ _ can).0).1)
    works_form xs run calm works (Cuts keep e) ordinary can = absurd ordinary
    works_form xs run calm works (Fails keep e) ordinary can = absurd ordinary
    works_form xs run calm works (Crashes x) ordinary can = absurd ordinary
    works_form xs run calm works Never ordinary can = absurd ordinary

    works_runs : (xs ys : List Move) → IsRun S (xs ++ ys) → IsCalm xs → IsCalm ys → Works (world_of S xs) → Works (world_of S (xs ++ ys))
    works_runs xs [] run before calm works = subst (λ zs. Works (world_of S zs)) (sym (append-nil xs)) works
    works_runs xs (move ∷ ys) run before calm works =
        let same : (xs ++ move ∷ []) ++ ys ≡ xs ++ move ∷ ys = append_assoc xs (move ∷ []) ys in
        let can = move_enabled S (at_start S) xs move ys run.enabled in
        let next : Works (step S (world_of S xs) move) = works_form xs (front_run S xs (move ∷ ys) run) before works (form_of move) calm.0 can.1 in
        subst (λ zs. Works (world_of S zs)) same
        (works_runs (xs ++ move ∷ []) ys (subst (IsRun S) (sym same) run)
        (all_append (λ (x : Move). IsOrdinary (form_of x)) xs (move ∷ []) before (calm.0, tt)) calm.1 (subst Works (sym (run_append S (at_start S) xs (move ∷ []))) next))

    works_at : (moves : List Move) → IsRun S moves → IsCalm moves → Works (world_of S moves)
    works_at moves run calm = works_runs [] moves run tt calm (record { up = λ x. refl; sound = λ x. refl; alone = start_alone })

    -- ---- the outcomes

    outcome_slot : (k j : ℕ) → j < k → slice_get (outcomes_to S n k) j ≡ Some (outcome_by (first_tid n (suc j)) (meant_behind S n j).ending)
    outcome_slot zero j h = absurd (omega (arith, h))
    outcome_slot (suc k) j h = elim (cases_eq j k) [
      | inl same ↦
          let x = outcome_by (first_tid n (suc k)) (meant_behind S n k).ending in
          subst (λ z. slice_get (outcomes_to S n k ++ x ∷ []) z ≡ Some (outcome_by (first_tid n (suc z)) (meant_behind S n z).ending)) (sym same)
          (ap (slice_get (outcomes_to S n k ++ x ∷ [])) (sym (length_outcomes S n k)) ∙ slot_next (outcomes_to S n k) x)
      | inr other ↦
          slot_left (outcomes_to S n k) (outcome_by (first_tid n (suc k)) (meant_behind S n k).ending ∷ []) j
          (outcome_by (first_tid n (suc j)) (meant_behind S n j).ending) (outcome_slot k j (omega (arith, h, other)))
    ]

    -- ---- the objects

    next_fits : (k : ℕ) → k < S.requests n → IsTid (first_tid n (suc k))
    next_fits k h =
        let low = worker_below S.rights n given.workers me in
        let few = given.requests n in
        record { worker = omega (arith, low); boot = omega arith; number = omega (arith, h, few) }

    fit_behind : (k : ℕ) → k ≤ S.requests n → AreFit S (map_behind S n k)
    fit_behind zero h = given.roots_fit
    fit_behind (suc k) h = by (meant_behind S n k).ending (fit_behind k (omega (arith, h)))
      where
        by : (ending : Ending) → AreFit S (map_behind S n k) → AreFit S (if_ended ending (meant_behind S n k).map (map_behind S n k))
        by (endings.Ended v) f =
            law.fits n (suc k) (first_tid n (suc k)) (map_behind S n k) (next_fits k (omega (arith, h))) (ascends_behind S law n given.roots_old k given.roots_ascend) f
        by endings.Failed f = f
        by (endings.Stopped limit) f = f
        by (endings.Missing site o) f = f

    abbrev nobody : ℕ → Bool
    nobody x = false

    abbrev every : ℕ → Bool
    every class = true

    nobody_excluded : Excludes S nobody every
    nobody_excluded = record {
      hostile = λ x e. absurd (both_ways (S.hostile x) (honest x) e);
      unwritten = λ x c d e. absurd (true≢false (sym d));
      unheld = λ x c d e. absurd (true≢false (sym d));
    }

    module _ (moves : List Move) (run : IsRun S moves) (works : Works (world_of S moves)) (idle : ((world_of S moves).node n).attempt.phase ≡ workers.Idle) where
      abbrev w : World
      w = world_of S moves

      abbrev cs : List Commit
      cs = commits_in S nobody moves

      abbrev alone : AloneIn S n w
      alone = works.alone

      holds : Holds S nobody every w cs
      holds = holds_run S nobody every given law nobody_excluded moves run

      store_at : (s : ℕ) → IsTrue (is_store S.rights s) → IsStore S nobody every s
      store_at s is = record { kind = is; outside = refl }

      -- what is held is the table: what is prepared is decided, and its Commit waits
      held_by : (s : ℕ) → IsTrue (is_store S.rights s) → (due : Option Prepared) → IsDue n due → w.queue n s ≡ commit_bytes due
          → (shelf S w s).prepared ≡ option_list due → behind (option_list due) (shelf S w s).rows ≡ alone.table s → held_at S w s ≡ alone.table s
      held_by s store None own waits prepared rows =
          ap (λ (ps : List Prepared). behind (filter (λ p. is_decided S w p.0) ps) (shelf S w s).rows) prepared ∙ rows
      held_by s store (Some p) own waits prepared rows =
          let pair = holds.inv.pair n s (record { kind = me; outside = refl }) (store_at s store) in
          let read = read_itself S given (m.Commit p.0) own.0 (lit≤ tt) in
          let d = pair.says (spelled (m.Commit p.0)) (m.Commit p.0) (subst (In (spelled (m.Commit p.0))) (sym waits) (inl refl)) read in
          let worker_ok = holds.inv.worker n (record { kind = me; outside = refl }) in
          let listed : In (decision_of S d.commit) (kept S w n).decided =
          subst (In (decision_of S d.commit)) (sym worker_ok.listed) (map_in (decision_of S) d.commit _ d.listed) in
          let decided : is_decided S w p.0 ≡ true =
          in_any (λ (x : Decision). is_tid x.tid p.0) (decision_of S d.commit) (kept S w p.0.worker).decided
          (subst (λ z. In (decision_of S d.commit) (kept S w z).decided) (sym own.1) listed) (subst (λ t. is_tid t p.0 ≡ true) (sym d.tid) (tid_itself p.0)) in
          ap (λ (ps : List Prepared). behind (filter (λ q. is_decided S w q.0) ps) (shelf S w s).rows) prepared
          ∙ ap (λ b. behind (cond b (p ∷ []) []) (shelf S w s).rows) decided ∙ rows

      held_table : (s : ℕ) → IsTrue (is_store S.rights s) → held_at S w s ≡ alone.table s
      held_table s store =
          let r : Rests n alone.count (alone.table s) (w.queue n s) (w.queue s n) (shelf S w s) =
          subst (λ p. Link S n alone.count (parts_now S n alone.count (w.node n).attempt.answers) s (alone.table s) (w.queue n s) (w.queue s n) (shelf S w s) p) idle (alone.links s store) in
          let o = r.owes in
          held_by s store o.due o.own o.waits o.prepared o.rows

      not_held : (N : FlatMap) → AreFit S N → (o : Oid) → is_store S.rights o.store ≡ false → get N o ≡ None
      not_held N f o none = by (get N o) refl
        where
          by : (x : Option Object) → get N o ≡ x → get N o ≡ None
          by None h = h
          by (Some y) h =
              let g = each_of (IsFit S) N (o, y) f (get_in N o y h) in
              absurd (both_ways (is_store S.rights o.store) none (given.holders o.store o.class g.name.placed))

      same_object : alone.count ≤ S.requests n → (o : Oid) → get holds.state.map o ≡ get (map_behind S n alone.count) o
      same_object few o = elim (cases_Bool (is_store S.rights o.store)) [
        | inl store ↦
            sym (committed_object holds.state o)
            ∙ ap object_in (sym (held_row S nobody every given nobody_excluded w cs holds.state holds.inv o.store (store_at o.store store) o refl refl))
            ∙ ap (λ rows. object_in (row_of name_of rows o)) (held_table o.store store)
            ∙ alone.content o
        | inr none ↦ unheld (get holds.state.map o) refl none ∙ sym (not_held (map_behind S n alone.count) (fit_behind alone.count few) o none)
      ]
        where
          unheld : (x : Option Object) → get holds.state.map o ≡ x → is_store S.rights o.store ≡ false → get holds.state.map o ≡ None
          unheld None h none = h
          unheld (Some y) h none =
              let g = holds.inv.commits.fits o y h in
              absurd (both_ways (is_store S.rights o.store) none (given.holders o.store o.class g.name.placed))

      held_same : alone.count ≤ S.requests n → held_map S nobody every w ≡ map_behind S n alone.count
      held_same few =
          held_is S nobody every given nobody_excluded w cs holds.state holds.inv
          ∙ same_maps holds.state.map (map_behind S n alone.count) holds.inv.commits.ascending (ascends_behind S law n given.roots_old alone.count given.roots_ascend)
          (same_object few)

    -- ---- a run that is over

    idle_or_open : (p : Phase) (k : ℕ) → Left S n p k → (p ≡ workers.Idle) ⊎ (k < S.requests n)
    idle_or_open workers.Idle k h = inl refl
    idle_or_open workers.Evaluating k h = inr h
    idle_or_open (workers.Fetching o) k h = inr h
    idle_or_open (workers.Preparing ls) k h = inr h

    pub in_turn : ArePosts S → (lines : ℕ → List CrashLine) (moves : List Move) → IsRun S moves → IsCalm moves → IsOver S lines moves → IsInTurn S n moves
    in_turn posts lines moves run calm over =
        let works = works_at moves run calm in
        let w = world_of S moves in
        let alone = works.alone in
        let all : length (kept S w n).outcomes ≡ alone.count = ap length alone.outcomes ∙ length_outcomes S n alone.count in
        elim (cases_lt (length (kept S w n).outcomes) (S.requests n)) [
          | inl waiting ↦
              absurd (over_is_done S given law posts lines moves run over n (record { kind = me; honest = honest n; sound = works.sound n; left = waiting }))
          | inr done ↦ elim (idle_or_open (w.node n).attempt.phase alone.count alone.left) [
            | inr more_left ↦ absurd (omega (arith, more_left, done, all))
            | inl idle ↦
                let few : alone.count ≤ S.requests n = subst (λ p. Left S n p alone.count) idle alone.left in
                let same : alone.count ≡ S.requests n = omega (arith, few, done, all) in
                record {
                  outcomes = λ j lower.
                      ap (λ b. outcome_of S (if b then None else slice_get (kept S w n).outcomes (suc j - 1)) (w.node n).failed) (ne_eqb (suc j) 0 (λ e. omega (arith, e)))
                      ∙ ap (λ z. outcome_of S (slice_get (kept S w n).outcomes z) (w.node n).failed) (less_one j)
                      ∙ ap (λ os. outcome_of S (slice_get os j) (w.node n).failed) alone.outcomes
                      ∙ ap (λ x. outcome_of S x (w.node n).failed) (outcome_slot alone.count j (omega (arith, lower, same)));
                  held = held_same moves run works idle few ∙ ap (map_behind S n) same;
                }
          ]
        ]
      where
        less_one : (j : ℕ) → suc j - 1 ≡ j
        less_one j = omega arith
