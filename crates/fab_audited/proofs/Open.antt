-- Which nodes lines say to have a request open, and that outcomes of others don't change where these nodes fail.
use Rattle.std.proofs.Common.{◌≡◌, ◌⊎◌, inl, inr, ℕ, zero, suc, ◌+◌, ◌-◌, ◌<◌, ◌≤◌, ◌==◌, ◌||◌, ◌&&◌, Bool, true, false, List, [], ◌∷◌, ◌++◌, map, length, Option, Some, None, if◌then◌else◌}
use Rattle.std.proofs.Common.{refl, sym, ap, ◌∙◌, arith}
use Rattle.std.specs.Prelude.{slice_get}
use Rattle.std.specs.List.{list_any, range_with_len}
use Rattle.std.proofs.Math.Bool.{or-false}
use Rattle.std.proofs.lemmas.Bool.{and_from, and_parts, both_ways, cases_Bool, eq-eqb, eqb-true, true≢false, false≢true}
use Rattle.std.proofs.lemmas.List.Folds.{list_any-append}
use Rattle.fab_base.proofs.Lists.{any_map}
use Rattle.fab_tree.specs.declared.resolved.Resolved.{Resolved}
use Rattle.fab_tree.specs.declared.start.Start.{Start}
use Rattle.fab_language.specs.Numbers.{resolved}
use Rattle.fab_language.specs.Words.{has_number, node_text}
use Rattle.fab_net.specs.declared.outcome.ReqOutcome.{ReqOutcome}
use Rattle.fab_net.specs.declared.outcome.ReqOutcome.TheVariants as no
use Rattle.fab_rights.specs.declared.rights.Rights.{Rights}
use Rattle.fab_rights.specs.Computed.{is_worker}
use Rattle.fab_attempts.specs.Sessions.{requests_of}
use Rattle.fab_world.specs.Machine.{Move, Setting, World, at_start, kept, outcome, outcome_of}
use Rattle.fab_world.specs.Serial.{IsRun}
use Rattle.fab_world.specs.Workers.{kept_of}
use Rattle.fab_settings.specs.Settings.{IsAcceptedWith, setting_of}
use Rattle.fab_integrity.proofs.Lists.{any_in, in_any, in_range}
use Rattle.fab_outcomes.proofs.Having.{have_causes}
use Rattle.fab_outcomes.proofs.Tries.{failed_runs}
use Rattle.fab_reports.specs.declared.line.Line.{Line}
use Rattle.fab_reports.specs.declared.line.Line.TheVariants.{Outcome, Object, End}
use Rattle.fab_reports.specs.declared.line.ShownEvent.{ShownEvent}
use Rattle.fab_reports.specs.declared.line.ShownCommit.{ShownCommit}
use Rattle.fab_reports.specs.declared.line.ShownOutcome.{ShownOutcome}
use Rattle.fab_reports.specs.declared.line.ShownObject.{ShownObject}
use Rattle.fab_reports.specs.Printed as printed
use Rattle.fab_reports.specs.Printed.{commit_of, ending_of, events_of}
use Rattle.fab_reports.specs.Reports.{listed, numbered_commits, numbered_events}
use Rattle.fab_reports.specs.Showable.{IsNode}
use Rattle.fab_shown.specs.Shown.{all_held, all_outcomes, lines_of, log_of, node_count, outcomes_at, world_behind}
use Rattle.fab_trace.specs.Report.{commits_in}
use Rattle.fab_evidence.specs.Marks.{is_open_of, is_unfinished, is_waiting}
use Rattle.fab_evidence.specs.Named.{node_named}
use Rattle.fab_ended.proofs.Sessions.{sessions_are_honest}
use Rattle.fab_named.proofs.Numbered.{has_node}
use Rattle.fab_audit.proofs.Numbers.{number_told}

-- ---- numbers in a row

-- where none passes, a number below doesn't
passes_not : (p : ℕ → Bool) (count n : ℕ) → n < count → list_any p (range_with_len 0 count) ≡ false → p n ≡ false
passes_not p count n low h = elim (cases_Bool (p n)) [
  | inr none ↦ none
  | inl one ↦ absurd (both_ways (list_any p (range_with_len 0 count)) h (in_any p n (range_with_len 0 count) (in_range 0 count n (omega arith) (omega (arith, low))) one))
]

map_on : {A : Type 0} (f g : ℕ → A) (a count : ℕ) → ((n : ℕ) → a ≤ n → n < a + count → f n ≡ g n) → map f (range_with_len a count) ≡ map g (range_with_len a count)
map_on f g a zero h = refl
map_on f g a (suc count) h =
    let more = map_on f g (a + 1) count (λ n low high. h n (omega (arith, low)) (omega (arith, high))) in
    let one = h a (omega arith) (omega arith) in
    λ j. one j ∷ more j

-- ---- lines that say that a request is open

abbrev pub is_open : Resolved → ReqOutcome → Bool
is_open r o = is_unfinished (ending_of r o)

open_is : (r : Resolved) (o : ReqOutcome) → is_open r o ≡ true → o ≡ no.Unfinished
open_is r no.Unfinished h = refl
open_is r o h = absurd (false≢true h)

module _ (r : Resolved) (n : ℕ) where
  abbrev opens : Line → Bool
  opens line = is_open_of r n line

  opens_event : (k : ℕ) (events : List ShownEvent) (rest : List Line) → list_any opens (numbered_events k events ++ rest) ≡ list_any opens rest
  opens_event k [] rest = refl
  opens_event k (x ∷ xs) rest = opens_event (suc k) xs rest

  opens_commit : (k : ℕ) (commits : List ShownCommit) (rest : List Line) → list_any opens (numbered_commits k commits ++ rest) ≡ list_any opens rest
  opens_commit k [] rest = refl
  opens_commit k (x ∷ xs) rest = opens_commit (suc k) xs rest

  opens_object : (objects : List ShownObject) (rest : List Line) → list_any opens (map Object objects ++ rest) ≡ list_any opens rest
  opens_object [] rest = refl
  opens_object (x ∷ xs) rest = opens_object xs rest

  -- only lines of outcomes do
  opens_listed : (events : List ShownEvent) (commits : List ShownCommit) (outcomes : List ShownOutcome) (objects : List ShownObject)
      → list_any opens (listed events commits outcomes objects) ≡ list_any (λ x. opens (Outcome x)) outcomes
  opens_listed events commits outcomes objects =
      let last : List Line = End (length events) ∷ [] in
      let held = map Object objects ++ last in
      opens_event 0 events (numbered_commits 0 commits ++ (map Outcome outcomes ++ held))
      ∙ opens_commit 0 commits (map Outcome outcomes ++ held)
      ∙ list_any-append opens (map Outcome outcomes) held
      ∙ ap (λ b. list_any opens (map Outcome outcomes) || b) (opens_object objects last)
      ∙ or-false (list_any opens (map Outcome outcomes))
      ∙ any_map opens Outcome outcomes

  -- by an outcome of node m
  abbrev opens_at : ℕ → ReqOutcome → Bool
  opens_at m o = is_open r o && (n == m)

  module _ (tells : (m : ℕ) → IsNode r m → node_named r (node_text r m) ≡ Some m) where
    opens_node : (m k : ℕ) (os : List ReqOutcome) → IsNode r m
        → list_any (λ x. opens (Outcome x)) (printed.outcomes_of r m k os) ≡ list_any (opens_at m) os
    opens_node m k [] node = refl
    opens_node m k (o ∷ os) node = λ j. (is_open r o && has_number n (tells m node j)) || opens_node m (suc k) os node j

    -- by the outcomes of each node
    opens_nodes : (f : ℕ → List ReqOutcome) (a count : ℕ) → ((m : ℕ) → m < a + count → IsNode r m)
        → list_any (λ x. opens (Outcome x)) (printed.all_outcomes r a (map f (range_with_len a count))) ≡ list_any (λ m. list_any (opens_at m) (f m)) (range_with_len a count)
    opens_nodes f a zero nodes = refl
    opens_nodes f a (suc count) nodes =
        let next : a + 1 ≡ suc a = omega arith in
        let more = opens_nodes f (a + 1) count (λ m low. nodes m (omega (arith, low))) in
        list_any-append (λ x. opens (Outcome x)) (printed.outcomes_of r a 0 (f a)) (printed.all_outcomes r (suc a) (map f (range_with_len (a + 1) count)))
        ∙ (λ j. opens_node a 0 (f a) (nodes a (omega arith)) j
        || list_any (λ x. opens (Outcome x)) (printed.all_outcomes r (sym next j) (map f (range_with_len (a + 1) count))))
        ∙ ap (λ b. list_any (opens_at a) (f a) || b) more

-- ---- in a run of a bundle

module _ (s : Start) (rights : Rights) (a : IsAcceptedWith s rights) (moves : List Move) (run : IsRun (setting_of (resolved s) rights) moves) where
  abbrev r : Resolved
  r = resolved s

  abbrev S : Setting
  S = setting_of (resolved s) rights

  abbrev w : World
  w = world_behind r rights moves

  -- the nodes of which a line says so, if they are workers
  abbrev pub waits : ℕ → Bool
  waits n = is_waiting r rights (lines_of r rights moves) n

  abbrev asked : ℕ → List ℕ
  asked m = range_with_len 0 (length (requests_of r m))

  -- an outcome of node m says so of node n
  abbrev opens_of : ℕ → ℕ → Bool
  opens_of n m = list_any (λ k. opens_at r n m (outcome S w m (k + 1))) (asked m)

  open_lines : (n : ℕ) → list_any (is_open_of r n) (lines_of r rights moves) ≡ list_any (opens_of n) (range_with_len 0 (node_count r))
  open_lines n =
      opens_listed r n (events_of r [] (log_of r rights moves)) (map (commit_of r) (commits_in (log_of r rights moves))) (printed.all_outcomes r 0 (all_outcomes r rights w))
      (printed.all_objects r 0 (all_held r rights w))
      ∙ opens_nodes r n (number_told s a.named) (outcomes_at r rights w) 0 (node_count r) (λ m low. has_node s.program.nodes m (omega (arith, low)))
      ∙ (λ j. list_any (λ m. any_map (opens_at r n m) (λ k. outcome S w m (k + 1)) (asked m) j) (range_with_len 0 (node_count r)))

  -- a node that waits hasn't failed
  pub waits_soundly : (n : ℕ) → waits n ≡ true → (w.node n).failed ≡ false
  waits_soundly n h =
      let p = and_parts (is_worker rights n) (list_any (is_open_of r n) (lines_of r rights moves)) h in
      let at = any_in (opens_of n) (range_with_len 0 (node_count r)) (sym (open_lines n) ∙ p.1) in
      let one = any_in (λ k. opens_at r n at.0 (outcome S w at.0 (k + 1))) (asked at.0) at.2 in
      let q = and_parts (is_open r (outcome S w at.0 (one.0 + 1))) (n == at.0) one.2 in
      let is : outcome S w n (one.0 + 1) ≡ no.Unfinished = ap (λ m. outcome S w m (one.0 + 1)) (eqb-true n at.0 q.1) ∙ open_is r (outcome S w at.0 (one.0 + 1)) q.0 in
      failed_runs S n (at_start S) moves ∙ ((have_causes S moves n (one.0 + 1) no.Unfinished run p.0).0 is).0

  -- of a worker that doesn't wait no request is open
  none_open : (n k : ℕ) → waits n ≡ false → is_worker rights n ≡ true → n < node_count r → k < length (requests_of r n)
      → is_open r (outcome S w n (k + 1)) ≡ false
  none_open n k h me low few =
      let none : list_any (is_open_of r n) (lines_of r rights moves) ≡ false = sym (ap (λ b. b && list_any (is_open_of r n) (lines_of r rights moves)) me) ∙ h in
      let here = passes_not (opens_of n) (node_count r) n low (sym (open_lines n) ∙ none) in
      let one = passes_not (λ i. opens_at r n n (outcome S w n (i + 1))) (length (requests_of r n)) k few here in
      elim (cases_Bool (is_open r (outcome S w n (k + 1)))) [
        | inr shut ↦ shut
        | inl opened ↦ absurd (both_ways _ one (and_from _ _ opened (eq-eqb n n refl)))
      ]

  -- ---- in another world

  same_unless_open : (slot : Option ReqOutcome) (f g : Bool) → is_open r (outcome_of S slot f) ≡ false → g ≡ true → outcome_of S slot g ≡ outcome_of S slot f
  same_unless_open (Some o) f g h e = refl
  same_unless_open None true g h e = ap (outcome_of S None) e
  same_unless_open None false g h e = absurd (true≢false h)

  module _ (v : World) (entries : (n : ℕ) → (v.node n).entries ≡ (w.node n).entries)
      (failed : (n : ℕ) → ((v.node n).failed ≡ (w.node n).failed) ⊎ (((v.node n).failed ≡ true) × (waits n ≡ false))) where
    abbrev slot_in : World → ℕ → ℕ → Option ReqOutcome
    slot_in x n k = if (k + 1) == 0 then None else slice_get (kept S x n).outcomes ((k + 1) - 1)

    slot_same : (n k : ℕ) → slot_in v n k ≡ slot_in w n k
    slot_same n k = λ j. if (k + 1) == 0 then None else slice_get (kept_of (entries n j)).outcomes ((k + 1) - 1)

    outcome_same : (n k : ℕ) → n < node_count r → k < length (requests_of r n) → outcome S v n (k + 1) ≡ outcome S w n (k + 1)
    outcome_same n k low few = elim (failed n) [
      | inl same ↦ λ j. outcome_of S (slot_same n k j) (same j)
      | inr p ↦ elim (sessions_are_honest s rights a.rights_are a.named n) [
        | inl none ↦ absurd (omega (arith, none, few))
        | inr me ↦
            ap (λ x. outcome_of S x (v.node n).failed) (slot_same n k)
            ∙ same_unless_open (slot_in w n k) (w.node n).failed (v.node n).failed (none_open n k p.1 me.0 low few) p.0
      ]
    ]

    pub outcomes_same : all_outcomes r rights v ≡ all_outcomes r rights w
    outcomes_same =
        map_on (outcomes_at r rights v) (outcomes_at r rights w) 0 (node_count r) (λ n _ low.
        map_on (λ k. outcome S v n (k + 1)) (λ k. outcome S w n (k + 1)) 0 (length (requests_of r n)) (λ k _ few. outcome_same n k (omega (arith, low)) (omega (arith, few))))

    -- what is held is told by records alone
    pub held_same : all_held r rights v ≡ all_held r rights w
    held_same = λ j. all_held r rights (record w { node = λ n. record (w.node n) { entries = entries n j } })
