-- Behind a run that is over, every request of an honest worker has an outcome, or its worker has failed for good.
--
-- An ordinary event that may come is due as it is, or as the cut that a line makes of it, or its node's crash is due.
use Rattle.std.proofs.Common.{◌≡◌, ℕ, ◌<◌, ◌^◌, List, Bool, true, false, not, ◌&&◌, nat_lt}
use Rattle.std.proofs.Common.{if◌then◌else◌, IsTrue, IsFalse, Option, Some, None, is_some, length, min, refl, ap, ◌∙◌, inl, inr, true≢false, sym}
use Rattle.std.specs.List.{list_all}
use Rattle.std.proofs.lemmas.Bool.{cases_Bool, and_from, and_parts, both_ways, eq-eqb, not_from_false, not-true}
use Rattle.fab_net.specs.declared.event.Inner.{Inner}
use Rattle.fab_net.specs.declared.event.Inner.TheVariants as i
use Rattle.fab_rights.specs.Computed.{is_node, is_worker, nodes_in}
use Rattle.fab_world.specs.Machine.{Setting, World, Move, Form, Does, Cuts, Fails, Posts, Crashes, Never, node_of, enabled, may, record_at, is_running}
use Rattle.fab_world.specs.Machine.{kept, lacks, is_idle, is_evaluating, is_empty, is_settled}
use Rattle.fab_world.specs.Serial.{IsSetting, IsEvaluation, IsRun, IsWaiting, IsOrdinary, ArePosts, world_of}
use Rattle.fab_world.specs.Crashing.{CrashLine, IsOver, must_crash, crashes_by, cut_at, is_cut_to, target, is_due}
use Rattle.fab_integrity.proofs.Live.{live}
use Rattle.fab_integrity.proofs.Roles.{at_node}

-- ---- what is due where an event may come

module _ (S : Setting) (lines : ℕ → List CrashLine) (w : World) (moves : List Move) where
  abbrev crashes : ℕ → Bool
  crashes n = must_crash S lines w moves n

  abbrev due : Form → Bool
  due form = is_due S lines w moves form

  record IsSomeDue : Type 0 where
    form : Form
    due : IsTrue (is_due S lines w moves form)

  -- a line is used at a node that is running
  used_there : (b : Bool) (line : Option CrashLine) → crashes_by S lines (if b then line else None) ≡ true → b ≡ true
  used_there true line h = refl
  used_there false line h = h

  its_crash : (n : ℕ) → crashes n ≡ true → IsSomeDue
  its_crash n must = record {
    form = Crashes n;
    due = and_from (is_running S w n) (crashes n) (used_there (is_running S w n) _ must) must;
  }

  module _ (e : Inner) (can : may S w e ≡ true) (calm : crashes (node_of e) ≡ false) where
    may_now : (may S w e && not (crashes (node_of e))) ≡ true
    may_now = and_from (may S w e) (not (crashes (node_of e))) can (not_from_false (crashes (node_of e)) calm)

    whole_or_cut : (bytes : Option ℕ) → cut_at S lines w moves e ≡ bytes → IsSomeDue
    whole_or_cut None none = record {
      form = Does e;
      due = and_from (may S w e && not (crashes (node_of e))) (not (is_some (cut_at S lines w moves e))) may_now
          (not_from_false (is_some (cut_at S lines w moves e)) (ap is_some none));
    }
    whole_or_cut (Some bytes) some =
        let keep : ℕ = min bytes (length (record_at S w e)) in
        record {
          form = Cuts keep e;
          due = and_from (may S w e && not (crashes (node_of e))) (is_cut_to S lines (cut_at S lines w moves e) keep (length (record_at S w e))) may_now
              (ap (λ c. is_cut_to S lines c keep (length (record_at S w e))) some ∙ eq-eqb keep keep refl);
        }

  some_due : (form : Form) → IsOrdinary form → IsTrue (enabled S w form) → IsSomeDue
  some_due (Does e) ordinary can = elim (cases_Bool (crashes (node_of e))) [
    | inl must ↦ its_crash (node_of e) must
    | inr calm ↦ whole_or_cut e can calm (cut_at S lines w moves e) refl
  ]
  some_due (Posts h) ordinary can = elim (cases_Bool (crashes (target S lines w h))) [
    | inl must ↦ its_crash (target S lines w h) must
    | inr calm ↦ record {
      form = Posts h;
      due = and_from (enabled S w (Posts h)) (not (crashes (target S lines w h))) can (not_from_false (crashes (target S lines w h)) calm);
    }
  ]
  some_due (Cuts keep e) ordinary can = absurd ordinary
  some_due (Fails keep e) ordinary can = absurd ordinary
  some_due (Crashes n) ordinary can = absurd ordinary
  some_due Never ordinary can = absurd ordinary

-- no request of an honest worker is left behind a run that is over, unless the worker has failed for good
pub over_is_done : (S : Setting) → IsSetting S → IsEvaluation S → ArePosts S → (lines : ℕ → List CrashLine) (moves : List Move) → IsRun S moves
    → IsOver S lines moves → (n : ℕ) → IsWaiting S (world_of S moves) n → ⊥
over_is_done S given law own lines moves run over n wait =
    let next = live S given law own moves n run wait in
    let d = some_due S lines (world_of S moves) moves next.form next.ordinary next.may in
    both_ways (is_due S lines (world_of S moves) moves d.form) (over d.form) d.due

-- ---- that a run is over is decided over the nodes that there are

module _ (S : Setting) (lines : ℕ → List CrashLine) (w : World) (moves : List Move) where
  -- it may come, whole or cut
  abbrev comes : Inner → Bool
  comes e = may S w e && not (must_crash S lines w moves (node_of e))

  abbrev none_between : ℕ → ℕ → Bool
  none_between n m = not (comes (i.Deliver n m)) && not (comes (i.Idle n m))

  abbrev none_at : ℕ → Bool
  none_at n =
      not (comes (i.Begin n)) && not (comes (i.Resume n)) && not (comes (i.Recover n))
      && not (is_due S lines w moves (Posts n)) && not (is_due S lines w moves (Crashes n)) && list_all (none_between n) (nodes_in S.rights)

  abbrev pub none_due : Bool
  none_due = list_all none_at (nodes_in S.rights)

  all_six : (a b c d e f : Bool) → (a && b && c && d && e && f) ≡ true
      → (a ≡ true) × (b ≡ true) × (c ≡ true) × (d ≡ true) × (e ≡ true) × (f ≡ true)
  all_six true true true true true true h = (refl, refl, refl, refl, refl, refl)
  all_six true true true true true false h = absurd (true≢false (sym h))
  all_six true true true true false f h = absurd (true≢false (sym h))
  all_six true true true false e f h = absurd (true≢false (sym h))
  all_six true true false d e f h = absurd (true≢false (sym h))
  all_six true false c d e f h = absurd (true≢false (sym h))
  all_six false b c d e f h = absurd (true≢false (sym h))

  running_node : (n : ℕ) → is_running S w n ≡ true → is_node S.rights n ≡ true
  running_node n h =
      let front = (and_parts (is_node S.rights n && not (S.hostile n)) (w.node n).up h).0 in (and_parts (is_node S.rights n) (not (S.hostile n)) front).0

  module _ (workers : S.rights.workers < 2 ^ 64) (stores : S.rights.stores < 2 ^ 64) (none : none_due ≡ true) where
    -- what none_at says of a node
    module _ (n : ℕ) (is : is_node S.rights n ≡ true) where
      abbrev six : (not (comes (i.Begin n)) ≡ true) × (not (comes (i.Resume n)) ≡ true) × (not (comes (i.Recover n)) ≡ true)
          × (not (is_due S lines w moves (Posts n)) ≡ true) × (not (is_due S lines w moves (Crashes n)) ≡ true)
          × (list_all (none_between n) (nodes_in S.rights) ≡ true)
      six = all_six (not (comes (i.Begin n))) (not (comes (i.Resume n))) (not (comes (i.Recover n))) (not (is_due S lines w moves (Posts n)))
          (not (is_due S lines w moves (Crashes n))) (list_all (none_between n) (nodes_in S.rights)) (at_node S.rights workers stores none_at none n is)

      between : (m : ℕ) → is_node S.rights m ≡ true → (not (comes (i.Deliver n m)) ≡ true) × (not (comes (i.Idle n m)) ≡ true)
      between m too = and_parts (not (comes (i.Deliver n m))) (not (comes (i.Idle n m))) (at_node S.rights workers stores (none_between n) six.5 m too)

    -- an event that comes is of nodes, and there it doesn't
    stays_out : (e : Inner) → comes e ≡ true → not (comes e) ≡ true
    stays_out (i.Begin n) c =
        let can = (and_parts (may S w (i.Begin n)) (not (must_crash S lines w moves n)) c).0 in
        let p = (and_parts (is_running S w n && is_worker S.rights n && is_idle (w.node n).attempt.phase) (nat_lt (length (kept S w n).outcomes) (S.requests n)) can).0 in
        let q = (and_parts (is_running S w n && is_worker S.rights n) (is_idle (w.node n).attempt.phase) p).0 in
        (six n (running_node n (and_parts (is_running S w n) (is_worker S.rights n) q).0)).0
    stays_out (i.Resume n) c =
        let can = (and_parts (may S w (i.Resume n)) (not (must_crash S lines w moves n)) c).0 in
        (six n (running_node n (and_parts (is_running S w n) (is_evaluating (w.node n).attempt.phase) can).0)).1
    stays_out (i.Deliver a b) c =
        let can = (and_parts (may S w (i.Deliver a b)) (not (must_crash S lines w moves b)) c).0 in
        let p = (and_parts (is_running S w b && is_node S.rights a) (not (is_empty (w.queue a b))) can).0 in
        let q = and_parts (is_running S w b) (is_node S.rights a) p in
        (between a q.1 b (running_node b q.0)).0
    stays_out (i.Idle n s) c =
        let can = (and_parts (may S w (i.Idle n s)) (not (must_crash S lines w moves n)) c).0 in
        let p = (and_parts (is_running S w n && is_node S.rights s && lacks s (w.node n).attempt.phase) (list_all (is_settled S w) (nodes_in S.rights)) can).0 in
        let q = (and_parts (is_running S w n && is_node S.rights s) (lacks s (w.node n).attempt.phase) p).0 in
        let r = and_parts (is_running S w n) (is_node S.rights s) q in
        (between n (running_node n r.0) s r.1).1
    stays_out (i.Recover n) c =
        let can = (and_parts (may S w (i.Recover n)) (not (must_crash S lines w moves n)) c).0 in
        let p = (and_parts (is_node S.rights n && not (S.hostile n) && not (w.node n).up) (not (w.node n).failed) can).0 in
        let q = (and_parts (is_node S.rights n && not (S.hostile n)) (not (w.node n).up) p).0 in
        (six n (and_parts (is_node S.rights n) (not (S.hostile n)) q).0).2

    not_coming : (e : Inner) → comes e ≡ false
    not_coming e = elim (cases_Bool (comes e)) [ inl c ↦ not-true (comes e) (stays_out e c) | inr n ↦ n ]

    post_not_due : (h : ℕ) → is_due S lines w moves (Posts h) ≡ false
    post_not_due h = elim (cases_Bool (is_node S.rights h)) [
      | inl is ↦ not-true (is_due S lines w moves (Posts h)) (six h is).3
      | inr no_node ↦ ap (λ b. b && S.hostile h && not (is_empty (w.posts h)) && not (must_crash S lines w moves (target S lines w h))) no_node
    ]

    crash_not_due : (n : ℕ) → is_due S lines w moves (Crashes n) ≡ false
    crash_not_due n = elim (cases_Bool (is_node S.rights n)) [
      | inl is ↦ not-true (is_due S lines w moves (Crashes n)) (six n is).4
      | inr no_node ↦ ap (λ b. b && not (S.hostile n) && (w.node n).up && must_crash S lines w moves n) no_node
    ]

    pub none_is_due : (form : Form) → IsFalse (is_due S lines w moves form)
    none_is_due (Does e) = ap (λ b. b && not (is_some (cut_at S lines w moves e))) (not_coming e)
    none_is_due (Cuts keep e) = ap (λ b. b && is_cut_to S lines (cut_at S lines w moves e) keep (length (record_at S w e))) (not_coming e)
    none_is_due (Fails keep e) = refl
    none_is_due (Posts h) = post_not_due h
    none_is_due (Crashes n) = crash_not_due n
    none_is_due Never = refl
