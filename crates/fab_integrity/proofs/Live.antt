-- A run can go on as long as a request of an honest worker has no outcome, unless its node has failed for good.
--
-- A worker that is down may recover, an idle one may begin, one that evaluates may resume; one that waits lacks a store. There
-- Idle may come once all nodes are settled, and at a node that isn't settled something else may.
use Rattle.std.proofs.Common.{◌≡◌, ℕ, List, [], ◌∷◌, ◌++◌, length, Bool, true, false, not, ◌&&◌, ◌||◌, ◌==◌, nat_lt, IsTrue}
use Rattle.std.proofs.Common.{Option, None, refl, sym, ap, ◌∙◌, subst, inl, inr, append-nil, append_assoc, true≢false}
use Rattle.std.specs.List.{list_all, range_with_len}
use Rattle.std.proofs.lemmas.Bool.{cases_eq, cases_Bool, and_from, and_parts, and_cases, or_parts, or_right, both_ways, lt-ltb, eq-eqb, not_from_false}
use Rattle.std.proofs.lemmas.List.Sums.{fold-append}
use Rattle.fab_base.specs.declared.entry.Entry.{Entry}
use Rattle.fab_base.specs.declared.object.Oid.{Oid}
use Rattle.fab_net.specs.declared.event.Inner.{Inner}
use Rattle.fab_net.specs.declared.event.Inner.TheVariants as i
use Rattle.fab_net.specs.declared.note.Commit.{Commit}
use Rattle.fab_rights.specs.Computed.{is_node, is_store, is_worker, nodes_in}
use Rattle.fab_world.specs.Machine.{Setting, World, Node, Move, Form, Does, Cuts, Fails, Posts, Crashes, Never, form_of, act, node_of, at_start, step, steps}
use Rattle.fab_world.specs.Machine.{posted, enabled, are_enabled, may, record_at, kept, lacks, is_idle, is_evaluating, is_empty, is_running, is_settled}
use Rattle.fab_world.specs.Serial.{IsSetting, IsEvaluation, Excludes, IsRun, IsLive, IsWaiting, GoesOn, ArePosts, world_of, commits_in}
use Rattle.fab_world.specs.Workers as workers
use Rattle.fab_world.specs.Workers.{Phase, Attempt, is_in}
use Rattle.fab_integrity.proofs.Invariant.{In, IsWorker}
use Rattle.fab_integrity.proofs.Lists.{in_filter}
use Rattle.fab_integrity.proofs.Changes.{Changes, does_changes, down_changes, fails_changes, cuts_changes, posted_node, if_whole, ready_posts}
use Rattle.fab_integrity.proofs.Worlds.{at_other}
use Rattle.fab_integrity.proofs.Steps.{Holds}
use Rattle.fab_integrity.proofs.Runs.{enabled_front, excludes_none, front_run, holds_run, no_classes}
use Rattle.fab_integrity.proofs.Awaited.{Waits, waits_act, all_stores, named_store}

-- ---- small things

-- where not all are so, one isn't
one_not : {A : Type 0} (f : A → Bool) (xs : List A) → list_all f xs ≡ false → (x : A) × In x xs × (f x ≡ false)
one_not f [] h = absurd (true≢false h)
one_not f (x ∷ xs) h = elim (and_cases (f x) (list_all f xs) h) [
  | inl e ↦ (x, inl refl, e)
  | inr t ↦ let r = one_not f xs t in (r.0, inr r.1, r.2)
]

-- ---- an event that may come, in a world

module _ (S : Setting) (w : World) where
  abbrev IsNode : ℕ → Type 0
  IsNode n = IsTrue (is_node S.rights n)

  abbrev phase : ℕ → Phase
  phase n = (w.node n).attempt.phase

  node_in : (n : ℕ) → In n (nodes_in S.rights) → IsNode n
  node_in n h = (in_filter (is_node S.rights) n (range_with_len 0 64) h).1

  running : (n : ℕ) → IsNode n → S.hostile n ≡ false → (w.node n).up ≡ true → IsTrue (is_running S w n)
  running n is honest up =
      and_from (is_node S.rights n && not (S.hostile n)) (w.node n).up
      (and_from (is_node S.rights n) (not (S.hostile n)) is (not_from_false (S.hostile n) honest)) up

  goes : (e : Inner) → IsTrue (may S w e) → GoesOn S w
  goes e can = record { form = Does e; ordinary = tt; may = can }

  recovers : (n : ℕ) → IsNode n → S.hostile n ≡ false → (w.node n).up ≡ false → (w.node n).failed ≡ false → GoesOn S w
  recovers n is honest down sound =
      goes (i.Recover n)
      (and_from (is_node S.rights n && not (S.hostile n) && not (w.node n).up) (not (w.node n).failed)
      (and_from (is_node S.rights n && not (S.hostile n)) (not (w.node n).up)
      (and_from (is_node S.rights n) (not (S.hostile n)) is (not_from_false (S.hostile n) honest)) (not_from_false (w.node n).up down))
      (not_from_false (w.node n).failed sound))

  resumes : (n : ℕ) → IsTrue (is_running S w n) → is_evaluating (phase n) ≡ true → GoesOn S w
  resumes n run ev = goes (i.Resume n) (and_from (is_running S w n) (is_evaluating (phase n)) run ev)

  delivers : (a b : ℕ) → IsNode a → IsTrue (is_running S w b) → is_empty (w.queue a b) ≡ false → GoesOn S w
  delivers a b is run some =
      goes (i.Deliver a b)
      (and_from (is_running S w b && is_node S.rights a) (not (is_empty (w.queue a b))) (and_from (is_running S w b) (is_node S.rights a) run is)
      (not_from_false (is_empty (w.queue a b)) some))

  sends : (h : ℕ) → IsNode h → S.hostile h ≡ true → is_empty (w.posts h) ≡ false → GoesOn S w
  sends h is hostile some = record {
    form = Posts h;
    ordinary = tt;
    may = and_from (is_node S.rights h && S.hostile h) (not (is_empty (w.posts h))) (and_from (is_node S.rights h) (S.hostile h) is hostile)
        (not_from_false (is_empty (w.posts h)) some);
  }

  -- an honest node that hasn't failed, and isn't settled
  module _ (h : ℕ) (is : IsNode h) (honest : S.hostile h ≡ false) (sound : (w.node h).failed ≡ false) where
    abbrev none_wait : Bool
    none_wait = list_all (λ a. is_empty (w.queue a h)) (nodes_in S.rights)

    hears_some : (w.node h).up ≡ true → none_wait ≡ false → GoesOn S w
    hears_some up some =
        let r = one_not (λ a. is_empty (w.queue a h)) (nodes_in S.rights) some in
        delivers r.0 h (node_in r.0 r.1) (running h is honest up) r.2

    wakes_up : (w.node h).up && not (is_evaluating (phase h)) && none_wait ≡ false → GoesOn S w
    wakes_up e = elim (cases_Bool (w.node h).up) [
      | inr down ↦ recovers h is honest down sound
      | inl up ↦ elim (cases_Bool (is_evaluating (phase h))) [
        | inl ev ↦ resumes h (running h is honest up) ev
        | inr calm ↦ elim (and_cases ((w.node h).up && not (is_evaluating (phase h))) none_wait e) [
          | inl none ↦ absurd (both_ways ((w.node h).up && not (is_evaluating (phase h))) none
              (and_from (w.node h).up (not (is_evaluating (phase h))) up (not_from_false (is_evaluating (phase h)) calm)))
          | inr some ↦ hears_some up some
        ]
      ]
    ]

  -- posts are left at hostile nodes alone
  module _ (own : (h : ℕ) → S.hostile h ≡ false → w.posts h ≡ []) where
    unsettled : (h : ℕ) → IsNode h → is_settled S w h ≡ false → GoesOn S w
    unsettled h is e =
        let still : Bool = (w.node h).up && not (is_evaluating (phase h)) && list_all (λ a. is_empty (w.queue a h)) (nodes_in S.rights) in
        elim (and_cases (is_empty (w.posts h)) (S.hostile h || (w.node h).failed || still) e) [
          | inl some ↦ elim (cases_Bool (S.hostile h)) [
            | inl hostile ↦ sends h is hostile some
            | inr honest ↦ absurd (both_ways (is_empty (w.posts h)) some (ap (λ ps. is_empty ps) (own h honest)))
          ]
          | inr rest ↦
              let p = or_parts (S.hostile h || (w.node h).failed) still rest in
              let q = or_parts (S.hostile h) (w.node h).failed p.0 in
              wakes_up h is q.0 q.1 p.1
        ]

    -- a worker that lacks a node
    gives_up_on : (n s : ℕ) → IsTrue (is_running S w n) → IsNode s → lacks s (phase n) ≡ true → GoesOn S w
    gives_up_on n s run is lack = elim (cases_Bool (list_all (is_settled S w) (nodes_in S.rights))) [
      | inl all ↦ goes (i.Idle n s)
          (and_from (is_running S w n && is_node S.rights s && lacks s (phase n)) (list_all (is_settled S w) (nodes_in S.rights))
          (and_from (is_running S w n && is_node S.rights s) (lacks s (phase n)) (and_from (is_running S w n) (is_node S.rights s) run is) lack) all)
      | inr some ↦ let r = one_not (is_settled S w) (nodes_in S.rights) some in unsettled r.0 (node_in r.0 r.1) r.2
    ]

    store_is_node : (s : ℕ) → IsTrue (is_store S.rights s) → IsNode s
    store_is_node s is = or_right (is_worker S.rights s) (is_store S.rights s) is

    lacks_first : (l : ℕ) (ls : List ℕ) → lacks l (workers.Preparing (l ∷ ls)) ≡ true
    lacks_first l ls = ap (λ b. b || is_in l ls) (eq-eqb l l refl)

    module _ (n : ℕ) (wait : IsWaiting S w n) (up : (w.node n).up ≡ true) where
      is_running_here : IsTrue (is_running S w n)
      is_running_here = running n (ap (λ b. b || is_store S.rights n) wait.kind) wait.honest up

      in_phase : (p : Phase) → phase n ≡ p → ((o : Oid) → p ≡ workers.Fetching o → IsTrue (is_store S.rights o.store)) → Waits S.rights p
          → GoesOn S w
      in_phase workers.Idle e asked h =
          goes (i.Begin n)
          (and_from (is_running S w n && is_worker S.rights n && is_idle (phase n)) (nat_lt (length (kept S w n).outcomes) (S.requests n))
          (and_from (is_running S w n && is_worker S.rights n) (is_idle (phase n)) (and_from (is_running S w n) (is_worker S.rights n) is_running_here wait.kind)
          (ap is_idle e)) (lt-ltb (length (kept S w n).outcomes) (S.requests n) wait.left))
      in_phase workers.Evaluating e asked h = resumes n is_running_here (ap is_evaluating e)
      in_phase (workers.Fetching o) e asked h =
          gives_up_on n o.store is_running_here (store_is_node o.store (asked o refl)) (ap (lacks o.store) e ∙ eq-eqb o.store o.store refl)
      in_phase (workers.Preparing []) e asked h = absurd (true≢false h.some)
      in_phase (workers.Preparing (l ∷ ls)) e asked h =
          gives_up_on n l is_running_here (store_is_node l (h.each l (inl refl))) (ap (lacks l) e ∙ lacks_first l ls)

-- ---- what is kept by each move of a run

module _ (S : Setting) (given : IsSetting S) (law : IsEvaluation S) where
  abbrev Me : ℕ → Type 0
  Me n = IsWorker S S.hostile no_classes n

  abbrev Good : World → List Commit → Type 0
  Good w cs = Holds S S.hostile no_classes w cs

  -- the honest workers that prepare wait for stores, and posts are left at hostile nodes alone
  record Lasts (w : World) : Type 0 where
    waits : (n : ℕ) → Me n → Waits S.rights (w.node n).attempt.phase
    posts : (h : ℕ) → S.hostile h ≡ false → w.posts h ≡ []

  nothing_excluded : Excludes S S.hostile no_classes
  nothing_excluded = excludes_none S S.hostile (λ n e. e)

  waits_by : (w v : World) (n : ℕ) (entry : Option Entry) (a : Attempt) → Changes w v n entry a → Lasts w → (Me n → Waits S.rights a.phase)
      → (x : ℕ) → Me x → Waits S.rights (v.node x).attempt.phase
  waits_by w v n entry a c h g x me = elim (cases_eq x n) [
    | inl same ↦ subst (λ z. Waits S.rights (v.node z).attempt.phase) (sym same)
        (subst (λ (b : Attempt). Waits S.rights b.phase) (sym c.attempt) (g (subst Me same me)))
    | inr ne ↦ subst (λ (b : Attempt). Waits S.rights b.phase) (sym (c.other_attempt x ne)) (h.waits x me)
  ]

  waits_does : (w : World) (cs : List Commit) → Good w cs → Lasts w → (e : Inner) → Me (node_of e) → Waits S.rights (act S w e).attempt.phase
  waits_does w cs good h e me =
      waits_act S w e (all_stores S S.hostile no_classes given law w cs good.state (node_of e) me (good.inv.worker (node_of e) me))
      (h.waits (node_of e) me)

  waits_steps : (w : World) (cs : List Commit) → Good w cs → Lasts w → (form : Form) → (n : ℕ) → Me n
      → Waits S.rights ((steps S w form).node n).attempt.phase
  waits_steps w cs good h (Does e) n me =
      waits_by w (steps S w (Does e)) (node_of e) (act S w e).entry (act S w e).attempt (does_changes S w e) h (waits_does w cs good h e) n me
  waits_steps w cs good h (Cuts keep e) n me =
      waits_by w (steps S w (Cuts keep e)) (node_of e) (if_whole S (keep == length (record_at S w e)) (act S w e).entry) workers.fresh
      (cuts_changes S w keep e (keep == length (record_at S w e)) refl) h (λ _. tt) n me
  waits_steps w cs good h (Fails keep e) n me =
      waits_by w (steps S w (Fails keep e)) (node_of e) None workers.fresh (fails_changes S w keep e) h (λ _. tt) n me
  waits_steps w cs good h (Posts x) n me =
      subst (λ (f : ℕ → Node). Waits S.rights (f n).attempt.phase) (sym (posted_node S w x (w.posts x))) (h.waits n me)
  waits_steps w cs good h (Crashes x) n me = waits_by w (steps S w (Crashes x)) x None workers.fresh (down_changes S w x) h (λ _. tt) n me
  waits_steps w cs good h Never n me = h.waits n me

  posted_posts : (w : World) → Lasts w → (x : ℕ) → S.hostile x ≡ true → (ps : List (ℕ × List ℕ)) → (k : ℕ) → S.hostile k ≡ false
      → (posted S w x ps).posts k ≡ []
  posted_posts w h x hostile [] k honest = h.posts k honest
  posted_posts w h x hostile (p ∷ ps) k honest =
      at_other w.posts x ps k (λ e. both_ways (S.hostile x) (subst (λ z. S.hostile z ≡ false) e honest) hostile) ∙ h.posts k honest

  posts_steps : (w : World) → Lasts w → (form : Form) → IsTrue (enabled S w form) → (k : ℕ) → S.hostile k ≡ false → (steps S w form).posts k ≡ []
  posts_steps w h (Does e) can k honest = ap (λ (f : ℕ → List (ℕ × List ℕ)). f k) (ready_posts S w e) ∙ h.posts k honest
  posts_steps w h (Cuts keep e) can k honest = ap (λ (f : ℕ → List (ℕ × List ℕ)). f k) (ready_posts S w e) ∙ h.posts k honest
  posts_steps w h (Fails keep e) can k honest = h.posts k honest
  posts_steps w h (Posts x) can k honest =
      let p = and_parts (is_node S.rights x && S.hostile x) (not (is_empty (w.posts x))) can in
      posted_posts w h x (and_parts (is_node S.rights x) (S.hostile x) p.0).1 (w.posts x) k honest
  posts_steps w h (Crashes x) can k honest = h.posts k honest
  posts_steps w h Never can k honest = h.posts k honest

  -- ---- runs and their fronts

  lasts_step : (xs : List Move) (move : Move) (ys : List Move) → IsRun S (xs ++ move ∷ ys) → Lasts (world_of S xs) → Lasts (world_of S (xs ++ move ∷ []))
  lasts_step xs move ys run h =
      let w : World = world_of S xs in
      let good = holds_run S S.hostile no_classes given law nothing_excluded xs (front_run S xs (move ∷ ys) run) in
      let rest = (enabled_front S (at_start S) xs (move ∷ ys) run.enabled).1 in
      let can = (and_parts (enabled S w (form_of move)) (are_enabled S (step S w move) ys) rest).0 in
      subst Lasts (sym (fold-append (step S) (at_start S) xs (move ∷ []))) (record {
        waits = waits_steps w (commits_in S S.hostile xs) good h (form_of move);
        posts = posts_steps w h (form_of move) can;
      })

  lasts_run : (xs ys : List Move) → IsRun S (xs ++ ys) → Lasts (world_of S xs) → Lasts (world_of S (xs ++ ys))
  lasts_run xs [] run h = subst (λ zs. Lasts (world_of S zs)) (sym (append-nil xs)) h
  lasts_run xs (move ∷ ys) run h =
      let same : (xs ++ move ∷ []) ++ ys ≡ xs ++ move ∷ ys = append_assoc xs (move ∷ []) ys in
      subst (λ zs. Lasts (world_of S zs)) same (lasts_run (xs ++ move ∷ []) ys (subst (IsRun S) (sym same) run) (lasts_step xs move ys run h))

  lasts : ArePosts S → (moves : List Move) → IsRun S moves → Lasts (world_of S moves)
  lasts own moves run = lasts_run [] moves run (record { waits = λ n me. tt; posts = own })

  goes_on : ArePosts S → IsLive S
  goes_on own moves n run wait =
      let w : World = world_of S moves in
      let good = holds_run S S.hostile no_classes given law nothing_excluded moves run in
      let kept_up = lasts own moves run in
      let me : Me n = record { kind = wait.kind; outside = wait.honest } in
      elim (cases_Bool (w.node n).up) [
        | inr down ↦ recovers S w n (ap (λ b. b || is_store S.rights n) wait.kind) wait.honest down wait.sound
        | inl up ↦ in_phase S w kept_up.posts n wait up (w.node n).attempt.phase refl
            (λ o e. named_store S given o ((good.inv.worker n me).awaited o e).fit) (kept_up.waits n me)
      ]

-- each request of an honest worker has an outcome, or its node has failed for good, or some ordinary event may come
pub live : (S : Setting) → IsSetting S → IsEvaluation S → ArePosts S → IsLive S
live S given law own = goes_on S given law own
