-- Each enabled move, and so each run, keeps what holds; and what the law says follows.
use Rattle.std.specs.Prelude.{◌≡◌, ◌⊎◌, ℕ, ◌+◌, ◌≤◌, Bool, true, false, not, ◌==◌, IsTrue, if◌then◌else◌}
use Rattle.std.specs.Prelude.{List, [], ◌∷◌, ◌++◌, length, take, fold}
use Rattle.std.specs.List.{flat_map}
use Rattle.std.proofs.Common.{refl, sym, ap, ◌∙◌, subst, inl, inr, arith}
use Rattle.std.proofs.lemmas.Bool.{cases_eq, and_from, and_parts, both_ways, false_from_ne_true, not-true, true≢false}
use Rattle.std.proofs.lemmas.List.{append-nil, length-append}
use Rattle.std.proofs.lemmas.List.Sums.{fold-append}
use Rattle.fab_base.specs.FlatMap.{FlatMap}
use Rattle.fab_base.proofs.Lists.{few_pass}
use Rattle.fab_net.specs.declared.event.Inner.{Inner}
use Rattle.fab_net.specs.declared.event.Inner.TheVariants as i
use Rattle.fab_net.specs.declared.note.Commit.{Commit}
use Rattle.fab_world.specs.Machine.{Setting, World, Node, Move, Form, Does, Cuts, Fails, Posts, Crashes, Never, form_of, option_list, record_behind}
use Rattle.fab_world.specs.Machine.{act, node_of, ready, lands, cut, at_node, down, step, steps, posted, may, enabled, are_enabled, is_whole}
use Rattle.fab_world.specs.Machine.{notes_at, notes_if, logged, logs, runs, at_start}
use Rattle.fab_world.specs.Serial.{IsSetting, IsEvaluation, AllEnd, Excludes, IsRun, IsSerial, IsEnding, IsLeftOut, replay_one, serial_replay, commit_in, commits_of, within}
use Rattle.fab_world.specs.Serial.{commits_in, world_of, attempts, attempts_at, attempts_in}
use Rattle.fab_integrity.specs.Redone.{AllRedone, IsFaithful}
use Rattle.fab_integrity.proofs.Invariant.{In}
use Rattle.fab_integrity.proofs.Lists.{filter_twice}
use Rattle.fab_integrity.proofs.Worlds.{IsAsBefore, at_same, at_other, as_before}
use Rattle.fab_integrity.proofs.Transport.{mutes, ready_other, ready_entries, record_ready, lands_muted, lands_whole}
use Rattle.fab_integrity.proofs.WorkerSteps.{HasRoom}
use Rattle.fab_integrity.proofs.Steps.{Holds, any_acted, down_like, holds_calm, holds_outsider, holds_down, queues_whole, queues_muted, ready_beside}
use Rattle.fab_integrity.proofs.Counts.{Counted, counted_start, counted_step}
use Rattle.fab_integrity.proofs.Start.{holds_start}
use Rattle.fab_integrity.proofs.Held.{held_is}
use Rattle.fab_integrity.proofs.Costs.{noted_outside}
use Rattle.fab_integrity.proofs.Once.{commits_more}

-- how many attempts are counted behind moves
abbrev pub counting : ℕ → List Move → ℕ
counting count moves = fold (λ n move. n + attempts_at (form_of move)) count moves

pub counts_grow : (count : ℕ) (moves : List Move) → count ≤ counting count moves
counts_grow count [] = omega arith
counts_grow count (move ∷ moves) = let h = counts_grow (count + attempts_at (form_of move)) moves in omega (arith, h)

-- no class is excluded
abbrev pub no_classes : ℕ → Bool
no_classes c = false

module _ (S : Setting) where
  -- then a set excludes none as long as the hostile nodes are in it
  pub excludes_none : (D : ℕ → Bool) → ((n : ℕ) → S.hostile n ≡ true → D n ≡ true) → Excludes S D no_classes
  excludes_none D hostile = record {
    hostile = hostile;
    unwritten = λ n c d e. absurd (true≢false (sym e));
    unheld = λ n c d e. absurd (true≢false (sym e));
  }

  -- moves are enabled as far as each front goes, and on from there
  pub enabled_front : (w : World) (xs ys : List Move) → IsTrue (are_enabled S w (xs ++ ys)) → IsTrue (are_enabled S w xs) × IsTrue (are_enabled S (runs S w xs) ys)
  enabled_front w [] ys h = (refl, h)
  enabled_front w (x ∷ xs) ys h =
      let p = and_parts (enabled S w (form_of x)) (are_enabled S (step S w x) (xs ++ ys)) h in
      let q = enabled_front (step S w x) xs ys p.1 in
      (and_from (enabled S w (form_of x)) (are_enabled S (step S w x) xs) p.0 q.0, q.1)

  -- so a front of a run is a run
  pub front_run : (xs ys : List Move) → IsRun S (xs ++ ys) → IsRun S xs
  front_run xs ys run = record {
    enabled = (enabled_front (at_start S) xs ys run.enabled).0;
    few =
        let all = run.few in
        let split = fold-append (λ n (move : Move). n + attempts_at (form_of move)) 0 xs ys in
        let more = counts_grow (attempts xs) ys in
        omega (arith, all, split, more);
  }

module _ (S : Setting) (D ex : ℕ → Bool) (given : IsSetting S) (law : IsEvaluation S) (hyp : Excludes S D ex) where
  -- there is room for the numbers of one attempt more
  abbrev IsRoomy : World → Form → Type 0
  IsRoomy w (Does e) = HasRoom S w e
  IsRoomy w (Cuts keep e) = HasRoom S w e
  IsRoomy w (Fails keep e) = Unit {0}
  IsRoomy w (Posts h) = Unit {0}
  IsRoomy w (Crashes n) = Unit {0}
  IsRoomy w Never = Unit {0}

  none_new : (w : World) (cs : List Commit) → Holds S D ex w cs → Holds S D ex w (cs ++ [])
  none_new w cs h = subst (Holds S D ex w) (sym (append-nil cs)) h

  cut_holds : (w : World) (cs : List Commit) → Holds S D ex w cs → (keep : ℕ) (e : Inner) → IsTrue (may S w e) → length cs ≤ 4000000000 → IsRoomy w (Cuts keep e)
      → (b : Bool) → is_whole S w (Cuts keep e) ≡ b
      → Holds S D ex (down S (at_node S (ready S w e) (node_of e) (cut S keep (act S w e).entry)) (node_of e)) (cs ++ noted_outside D (notes_if S b (act S w e).notes))
  cut_holds w cs h keep e can few room true whole =
      down_like S D ex given law hyp x (mutes S (ready S w e) n (act S w e)) n (cs ++ noted_outside D (act S w e).notes)
      (λ z ne. as_before ((mutes S (ready S w e) n (act S w e)).node z) (x.node z) (at_other (ready S w e).node n _ z ne ∙ sym (at_other (ready S w e).node n _ z ne)))
      (ap (λ (u : Node). u.entries) (at_same (ready S w e).node n _)
      ∙ ap (λ b. (if b then record ((ready S w e).node n) { entries = ((ready S w e).node n).entries ++ option_list (act S w e).entry }
      else record ((ready S w e).node n) { torn = take keep (record_behind ((ready S w e).node n).first ((ready S w e).node n).entries (act S w e).entry) }).entries)
      (ap (λ bytes. keep == length bytes) (record_ready S w e (act S w e).entry) ∙ whole)
      ∙ sym (ap (λ (u : Node). u.entries) (at_same (ready S w e).node n _)))
      (λ z b ne. refl)
      (holds_down S D ex given (mutes S (ready S w e) n (act S w e)) _
      (any_acted S D ex given law hyp w (mutes S (ready S w e) n (act S w e)) cs h e can few room (lands_muted S w e (act S w e) can)
      (queues_muted S w e (act S w e))) n)
    where
      n : ℕ
      n = node_of e

      x : World
      x = at_node S (ready S w e) (node_of e) (cut S keep (act S w e).entry)
  cut_holds w cs h keep e can few room false whole =
      none_new (down S (at_node S (ready S w e) (node_of e) (cut S keep (act S w e).entry)) (node_of e)) cs
      (down_like S D ex given law hyp (at_node S (ready S w e) (node_of e) (cut S keep (act S w e).entry)) w (node_of e) cs
      (λ z ne. as_before (w.node z) ((at_node S (ready S w e) (node_of e) (cut S keep (act S w e).entry)).node z)
      (at_other (ready S w e).node (node_of e) _ z ne ∙ ready_other S w e z ne))
      (ap (λ (u : Node). u.entries) (at_same (ready S w e).node (node_of e) _)
      ∙ ap (λ b. (if b then record ((ready S w e).node (node_of e)) { entries = ((ready S w e).node (node_of e)).entries ++ option_list (act S w e).entry }
      else record ((ready S w e).node (node_of e)) { torn = take keep (record_behind ((ready S w e).node (node_of e)).first ((ready S w e).node (node_of e)).entries (act S w e).entry) }).entries)
      (ap (λ bytes. keep == length bytes) (record_ready S w e (act S w e).entry) ∙ whole)
      ∙ ready_entries S w e (node_of e))
      (λ z b ne. ready_beside S w e z b ne) (holds_down S D ex given w cs h (node_of e)))

  post_holds : (w : World) (cs : List Commit) → Holds S D ex w cs → (h : ℕ) → S.hostile h ≡ true → (posts : List (ℕ × List ℕ)) → Holds S D ex (posted S w h posts) cs
  post_holds w cs holds h hostile [] = holds
  post_holds w cs holds h hostile (post ∷ more) =
      holds_outsider S D ex given (λ b bytes. Unit {0}) w (posted S w h (post ∷ more)) cs h (hyp.hostile h hostile) holds (record {
        others = λ x ne. as_before (w.node x) (w.node x) refl;
        queues = λ x b bytes i. elim (cases_eq x h) [
          | inl e ↦ inr (e, tt)
          | inr ne ↦ inl (subst (In bytes) (ap (λ (f : ℕ → List (List ℕ)). f b) (at_other w.queue h _ x ne)) i)
        ];
      })
      (λ x s hx hs. ap (λ (f : ℕ → List (List ℕ)). f s) (at_other w.queue h _ x (λ e. both_ways (D h) (subst (λ z. D z ≡ false) e hx.outside) (hyp.hostile h hostile))))

  -- what each move makes of it
  form_holds : (w : World) (cs : List Commit) → Holds S D ex w cs → (form : Form) → IsTrue (enabled S w form) → length cs ≤ 4000000000 → IsRoomy w form
      → Holds S D ex (steps S w form) (cs ++ noted_outside D (notes_at S w form))
  form_holds w cs h (Does e) can few room =
      any_acted S D ex given law hyp w (lands S (ready S w e) (node_of e) (act S w e)) cs h e can few room (lands_whole S w e (act S w e) can)
      (queues_whole S w e (act S w e))
  form_holds w cs h (Cuts keep e) can few room =
      cut_holds w cs h keep e (and_parts _ _ (and_parts _ _ can).0).0 few room (is_whole S w (Cuts keep e)) refl
  form_holds w cs h (Fails keep e) can few room =
      none_new (steps S w (Fails keep e)) cs
      (holds_calm S D ex given (down S w (node_of e)) (steps S w (Fails keep e)) cs (holds_down S D ex given w cs h (node_of e))
      (λ x. failed_same (down S w (node_of e)) (node_of e) x (cases_eq x (node_of e))) (λ x b bytes i. i) (λ x s hx hs. refl))
    where
      failed_same : (u : World) (n x : ℕ) → (x ≡ n) ⊎ (x ≡ n → ⊥) → IsAsBefore (u.node x) ((at_node S u n (λ node. record node { failed = true })).node x)
      failed_same u n x (inr ne) = as_before (u.node x) _ (at_other u.node n _ x ne)
      failed_same u n x (inl e) =
          let here = at_same u.node n (record (u.node n) { failed = true }) in
          subst (λ z. IsAsBefore (u.node z) ((at_node S u n (λ node. record node { failed = true })).node z)) (sym e)
          (record { entries = ap (λ (z : Node). z.entries) here; attempt = ap (λ (z : Node). z.attempt) here; up = ap (λ (z : Node). z.up) here })
  form_holds w cs h (Posts x) can few room = none_new (steps S w (Posts x)) cs (post_holds w cs h x (and_parts _ _ (and_parts _ _ can).0).1 (w.posts x))
  form_holds w cs h (Crashes n) can few room = none_new (steps S w (Crashes n)) cs (holds_down S D ex given w cs h n)
  form_holds w cs h Never can few room = absurd (true≢false (sym can))

  -- ---- runs

  -- so few attempts leave room for the numbers of one more
  room_in : (w : World) (commits count : ℕ) (e : Inner) → Counted S w commits count → count + attempts_in e ≤ 4000000000 → HasRoom S w e
  room_in w commits count (i.Begin n) h few = let low = h.low n in omega (arith, low, few)
  room_in w commits count (i.Recover n) h few = let low = h.low n in omega (arith, low, few)
  room_in w commits count (i.Resume n) h few = tt
  room_in w commits count (i.Deliver a n) h few = tt
  room_in w commits count (i.Idle n s) h few = tt

  room_at : (w : World) (commits count : ℕ) (form : Form) → Counted S w commits count → count + attempts_at form ≤ 4000000000 → IsRoomy w form
  room_at w commits count (Does e) h few = room_in w commits count e h few
  room_at w commits count (Cuts keep e) h few = room_in w commits count e h few
  room_at w commits count (Fails keep e) h few = tt
  room_at w commits count (Posts x) h few = tt
  room_at w commits count (Crashes n) h few = tt
  room_at w commits count Never h few = tt

  run_holds : (moves : List Move) (w : World) (cs : List Commit) (commits count : ℕ) → IsTrue (are_enabled S w moves) → Holds S D ex w cs
      → Counted S w commits count → length cs ≤ commits
      → counting count moves ≤ 4000000000 → Holds S D ex (runs S w moves) (cs ++ commits_of D (logs S w moves))
  run_holds [] w cs commits count can h c few room = none_new w cs h
  run_holds (move ∷ moves) w cs commits count can h c few room =
      let p = and_parts (enabled S w (form_of move)) (are_enabled S (step S w move) moves) can in
      let grown = counts_grow (count + attempts_at (form_of move)) moves in
      let all = c.few in
      let short = few_pass (λ (x : Commit). not (D x.worker)) (flat_map commit_in (logged S w move).notes) in
      let long = length-append cs (noted_outside D (notes_at S w (form_of move))) in
      let next = form_holds w cs h (form_of move) p.0 (omega (arith, few, all, grown, room)) (room_at w commits count (form_of move) c (omega (arith, grown, room))) in
      subst (Holds S D ex (runs S (step S w move) moves))
      (commits_more S D cs (logged S w move) (logs S (step S w move) moves))
      (run_holds moves (step S w move) (cs ++ noted_outside D (notes_at S w (form_of move))) (commits + length (flat_map commit_in (logged S w move).notes))
      (count + attempts_at (form_of move))
      p.1 next (counted_step S w move commits count p.0 c) (omega (arith, few, short, long)) room)

  -- what holds at the start holds behind each run
  pub holds_run : (moves : List Move) → IsRun S moves → Holds S D ex (world_of S moves) (commits_in S D moves)
  holds_run moves run = run_holds moves (at_start S) [] 0 0 run.enabled (holds_start S D ex given) (counted_start S) (omega arith) run.few

-- ---- what the law says

-- what is held is the serial replay
pub serial : (S : Setting) → IsSetting S → IsEvaluation S → IsSerial S
serial S given law D ex moves hyp run =
    let h = holds_run S D ex given law hyp moves run in held_is S D ex given hyp (world_of S moves) (commits_in S D moves) h.state h.inv ∙ h.map

-- each replayed evaluation ends
pub ends : (S : Setting) → IsSetting S → IsEvaluation S → IsEnding S
ends S given law D ex moves hyp run = all_end (within ex S.roots) (commits_in S D moves) (holds_run S D ex given law hyp moves run).redone
  where
    all_end : (N : FlatMap) (cs : List Commit) → AllRedone S ex N cs → AllEnd S ex N cs
    all_end N [] h = tt
    all_end N (c ∷ cs) h = ((h.0.value, h.0.ended), all_end (replay_one S ex N c) cs h.1)

-- and does what its attempt did
pub faithful : (S : Setting) → IsSetting S → IsEvaluation S → IsFaithful S
faithful S given law D ex moves hyp run = (holds_run S D ex given law hyp moves run).redone

-- those that are hostile are distrusted, so what D may not do they may not
pub hostile_excluded : (S : Setting) (D ex : ℕ → Bool) → Excludes S D ex → Excludes S S.hostile ex
hostile_excluded S D ex h = record {
  hostile = λ n e. e;
  unwritten = λ n c e x. h.unwritten n c (h.hostile n e) x;
  unheld = λ n c e x. h.unheld n c (h.hostile n e) x;
}

-- the commits of workers that are distrusted may be left out
pub left_out : (S : Setting) → IsSetting S → IsEvaluation S → IsLeftOut S
left_out S given law D ex moves hyp run =
    let h = holds_run S S.hostile ex given law (hostile_excluded S D ex hyp) moves run in
    sym (h.left D hyp) ∙ ap (serial_replay S ex)
    (filter_twice (λ c. not (D c.worker)) (λ c. not (S.hostile c.worker))
    (λ c e. ap not (false_from_ne_true (S.hostile c.worker) (λ t. both_ways (D c.worker) (not-true (D c.worker) e) (hyp.hostile c.worker t))))
    (flat_map (λ logged. flat_map commit_in logged.notes) (logs S (at_start S) moves)))
