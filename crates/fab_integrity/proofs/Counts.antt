-- The commits and the attempts so far bound the boots of each node and the numbers of its attempts, whoever it is.
use Rattle.std.proofs.Common.{◌≡◌, ◌⊎◌, ℕ, suc, ◌+◌, ◌≤◌, List, [], ◌∷◌, length, Bool, true, false, not, cond, ◌==◌, IsTrue}
use Rattle.std.proofs.Common.{Option, None, refl, sym, ap, ◌∙◌, subst, inl, inr, arith}
use Rattle.std.specs.List.{filter, flat_map}
use Rattle.std.proofs.lemmas.Bool.{cases_eq, and_parts, ne_eqb, eq-eqb}
use Rattle.fab_base.specs.declared.entry.Entry.{Entry}
use Rattle.fab_base.proofs.Lists.{few_pass}
use Rattle.fab_net.specs.declared.note.Note.{Note}
use Rattle.fab_world.specs.Machine.{Setting, World, Node, Move, Form, Does, Cuts, Fails, Posts, Crashes, Never, form_of, at_start, kept, act, node_of, step, steps}
use Rattle.fab_world.specs.Machine.{enabled, record_at, logged, notes_at, notes_if}
use Rattle.fab_world.specs.Serial.{commit_in, attempts_in, attempts_at}
use Rattle.fab_world.specs.Workers as workers
use Rattle.fab_world.specs.Workers.{Attempt, Phase, fresh, kept_of, Kept}
use Rattle.fab_integrity.proofs.Invariant.{In}
use Rattle.fab_integrity.proofs.Lists.{filter_in}
use Rattle.fab_integrity.proofs.Costs.{work_of, boots_in, noted_commits, goes_act}
use Rattle.fab_integrity.proofs.Changes.{Changes, boots_behind, does_changes, down_changes, fails_changes, cuts_changes, posted_node, if_whole}
use Rattle.fab_integrity.proofs.Lasting.{kept_start}

-- ---- the list of those at work, without one

less_step : (n x : ℕ) (xs : List ℕ) (b : Bool) → suc (length (filter (λ k. not (k == n)) xs)) ≤ length xs
    → suc (length (cond (not b) (x ∷ filter (λ k. not (k == n)) xs) (filter (λ k. not (k == n)) xs))) ≤ suc (length xs)
less_step n x xs true h = omega (arith, h)
less_step n x xs false h = omega (arith, h)

-- one that stands there goes
one_less : (n : ℕ) (xs : List ℕ) → In n xs → suc (length (filter (λ k. not (k == n)) xs)) ≤ length xs
one_less n [] h = absurd h
one_less n (x ∷ xs) (inl same) =
    subst (λ b. suc (length (cond (not b) (x ∷ filter (λ k. not (k == n)) xs) (filter (λ k. not (k == n)) xs))) ≤ suc (length xs)) (sym (eq-eqb x n (sym same)))
    (let h = few_pass (λ k. not (k == n)) xs in omega (arith, h))
one_less n (x ∷ xs) (inr there) = less_step n x xs (x == n) (one_less n xs there)

-- those at work, with n as it is now
abbrev with_phase : Phase → ℕ → List ℕ → List ℕ
with_phase workers.Idle n xs = xs
with_phase workers.Evaluating n xs = n ∷ xs
with_phase (workers.Fetching o) n xs = n ∷ xs
with_phase (workers.Preparing ls) n xs = n ∷ xs

phase_length : (phase : Phase) (n : ℕ) (xs : List ℕ) → length (with_phase phase n xs) ≡ length xs + work_of phase
phase_length workers.Idle n xs = omega arith
phase_length workers.Evaluating n xs = omega arith
phase_length (workers.Fetching o) n xs = omega arith
phase_length (workers.Preparing ls) n xs = omega arith

phase_rest : (phase : Phase) (n x : ℕ) (xs : List ℕ) → In x xs → In x (with_phase phase n xs)
phase_rest workers.Idle n x xs h = h
phase_rest workers.Evaluating n x xs h = inr h
phase_rest (workers.Fetching o) n x xs h = inr h
phase_rest (workers.Preparing ls) n x xs h = inr h

phase_in : (phase : Phase) (n : ℕ) (xs : List ℕ) → (phase ≡ workers.Idle → ⊥) → In n (with_phase phase n xs)
phase_in workers.Idle n xs busy = absurd (busy refl)
phase_in workers.Evaluating n xs busy = inl refl
phase_in (workers.Fetching o) n xs busy = inl refl
phase_in (workers.Preparing ls) n xs busy = inl refl

phase_works : (phase : Phase) (n : ℕ) (xs : List ℕ) → ((phase ≡ workers.Idle → ⊥) → In n xs) → length (filter (λ k. not (k == n)) xs) + work_of phase ≤ length xs
phase_works workers.Idle n xs h = let le = few_pass (λ k. not (k == n)) xs in omega (arith, le)
phase_works workers.Evaluating n xs h = let le = one_less n xs (h (λ e. absurd (cc))) in omega (arith, le)
phase_works (workers.Fetching o) n xs h = let le = one_less n xs (h (λ e. absurd (cc))) in omega (arith, le)
phase_works (workers.Preparing ls) n xs h = let le = one_less n xs (h (λ e. absurd (cc))) in omega (arith, le)

module _ (S : Setting) where
  -- the nodes that may be at work, at least; so few commits and attempts so far
  pub record Counted (w : World) (commits count : ℕ) : Type 0 where
    pub busy : List ℕ
    pub at_work : (n : ℕ) → ((w.node n).attempt.phase ≡ workers.Idle → ⊥) → In n busy
    pub few : length busy + commits ≤ count
    pub low : (n : ℕ) → (kept S w n).boot + (w.node n).attempt.number ≤ suc count

  -- nothing is counted at the start
  pub counted_start : Counted (at_start S) 0 0
  counted_start = record {
    busy = [];
    at_work = λ n h. h refl;
    few = omega arith;
    low = λ n. omega (arith, ap (λ (k : Kept). k.boot) kept_start);
  }

  -- a node's change, with so many commits and attempts more
  module _ (w v : World) (n : ℕ) (entry : Option Entry) (a : Attempt) (commits count more_commits more : ℕ) (c : Changes w v n entry a)
      (work : more_commits + work_of a.phase ≤ work_of (w.node n).attempt.phase + more) (number : boots_in entry + a.number ≤ (w.node n).attempt.number + more)
      (h : Counted w commits count) where
    still : (x : ℕ) → ((v.node x).attempt.phase ≡ workers.Idle → ⊥) → (x ≡ n) ⊎ (x ≡ n → ⊥) → In x (with_phase a.phase n (filter (λ k. not (k == n)) h.busy))
    still x busy (inl same) =
        subst (λ z. In z (with_phase a.phase n (filter (λ k. not (k == n)) h.busy))) (sym same)
        (phase_in a.phase n (filter (λ k. not (k == n)) h.busy)
        (λ idle. busy (ap (λ z. (v.node z).attempt.phase) same ∙ ap (λ (b : Attempt). b.phase) c.attempt ∙ idle)))
    still x busy (inr ne) =
        phase_rest a.phase n x (filter (λ k. not (k == n)) h.busy)
        (filter_in (λ k. not (k == n)) x h.busy (h.at_work x (λ idle. busy (ap (λ (b : Attempt). b.phase) (c.other_attempt x ne) ∙ idle)))
        (ap not (ne_eqb x n ne)))

    lower : (x : ℕ) → (x ≡ n) ⊎ (x ≡ n → ⊥) → (kept S v x).boot + (v.node x).attempt.number ≤ suc (count + more)
    lower x (inl same) =
        let old = h.low n in
        let boots : (kept S v n).boot ≡ (kept S w n).boot + boots_in entry = ap (λ es. (kept_of es).boot) c.entries ∙ boots_behind (w.node n).entries entry in
        let is : (v.node n).attempt.number ≡ a.number = ap (λ (b : Attempt). b.number) c.attempt in
        subst (λ z. (kept S v z).boot + (v.node z).attempt.number ≤ suc (count + more)) (sym same) (omega (arith, old, boots, is, number))
    lower x (inr ne) =
        let old = h.low x in
        let boots : (kept S v x).boot ≡ (kept S w x).boot = ap (λ es. (kept_of es).boot) (c.other_entries x ne) in
        let is : (v.node x).attempt.number ≡ (w.node x).attempt.number = ap (λ (b : Attempt). b.number) (c.other_attempt x ne) in
        omega (arith, old, boots, is)

    counted_by : Counted v (commits + more_commits) (count + more)
    counted_by = record {
      busy = with_phase a.phase n (filter (λ k. not (k == n)) h.busy);
      at_work = λ x busy. still x busy (cases_eq x n);
      few =
          let old = h.few in
          let len = phase_length a.phase n (filter (λ k. not (k == n)) h.busy) in
          let less = phase_works (w.node n).attempt.phase n h.busy (h.at_work n) in
          omega (arith, old, len, less, work);
      low = λ x. lower x (cases_eq x n);
    }

  -- nothing is done
  counted_same : (w v : World) (commits count : ℕ) → v.node ≡ w.node → Counted w commits count → Counted v (commits + 0) (count + 0)
  counted_same w v commits count same h = record {
    busy = h.busy;
    at_work = λ n busy. h.at_work n (λ idle. busy (ap (λ (f : ℕ → Node). (f n).attempt.phase) same ∙ idle));
    few = let old = h.few in omega (arith, old);
    low = λ n.
        let old = h.low n in
        let boots = ap (λ (f : ℕ → Node). (kept_of (f n).entries).boot) same in
        let is = ap (λ (f : ℕ → Node). (f n).attempt.number) same in
        omega (arith, old, boots, is);
  }

  cut_boots : (b : Bool) (entry : Option Entry) → boots_in (if_whole S b entry) ≤ boots_in entry
  cut_boots true entry = omega arith
  cut_boots false entry = omega arith

  cut_commits : (b : Bool) (notes : List Note) → length (noted_commits (notes_if S b notes)) ≤ length (noted_commits notes)
  cut_commits true notes = omega arith
  cut_commits false notes = omega arith

  counted_steps : (w : World) (form : Form) (commits count : ℕ) → IsTrue (enabled S w form) → Counted w commits count
      → Counted (steps S w form) (commits + length (noted_commits (notes_at S w form))) (count + attempts_at form)
  counted_steps w (Does e) commits count can h =
      let g = goes_act S w e in
      counted_by w (steps S w (Does e)) (node_of e) (act S w e).entry (act S w e).attempt commits count (length (noted_commits (act S w e).notes)) (attempts_in e)
      (does_changes S w e) (g.work can) g.low h
  counted_steps w (Cuts keep e) commits count can h =
      let g = goes_act S w e in
      let done = g.work (and_parts _ _ (and_parts _ _ can).0).0 in
      let low = g.low in
      let cut = cut_commits (keep == length (record_at S w e)) (act S w e).notes in
      let less = cut_boots (keep == length (record_at S w e)) (act S w e).entry in
      counted_by w (steps S w (Cuts keep e)) (node_of e) (if_whole S (keep == length (record_at S w e)) (act S w e).entry) fresh commits count
      (length (noted_commits (notes_at S w (Cuts keep e)))) (attempts_in e)
      (cuts_changes S w keep e (keep == length (record_at S w e)) refl) (omega (arith, done, cut)) (omega (arith, low, less)) h
  counted_steps w (Fails keep e) commits count can h =
      counted_by w (steps S w (Fails keep e)) (node_of e) None fresh commits count 0 (attempts_in e) (fails_changes S w keep e) (omega arith) (omega arith) h
  counted_steps w (Posts a) commits count can h = counted_same w (steps S w (Posts a)) commits count (posted_node S w a (w.posts a)) h
  counted_steps w (Crashes n) commits count can h =
      counted_by w (steps S w (Crashes n)) n None fresh commits count 0 0 (down_changes S w n) (omega arith) (omega arith) h
  counted_steps w Never commits count can h = counted_same w w commits count refl h

  -- every event that may come keeps the count
  pub counted_step : (w : World) (move : Move) (commits count : ℕ) → IsTrue (enabled S w (form_of move)) → Counted w commits count
      → Counted (step S w move) (commits + length (flat_map commit_in (logged S w move).notes)) (count + attempts_at (form_of move))
  counted_step w move commits count can h = counted_steps w (form_of move) commits count can h
