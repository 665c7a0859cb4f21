-- What the report of a run of a bundle shows: behind a run that is over no line is open, and in a calm run without hostile nodes none is silent.
use Rattle.std.proofs.Common.{◌≡◌, inl, inr, ℕ, zero, suc, ◌+◌, List, [], ◌∷◌, ◌++◌, map, length, Bool, true, false, ◌==◌, IsTrue}
use Rattle.std.proofs.Common.{refl, sym, ap, subst, arith, append_assoc}
use Rattle.std.specs.List.{AllByRecursion, filter, range_with_len}
use Rattle.std.proofs.lemmas.Bool.{both_ways}
use Rattle.fab_base.proofs.Lists.{all_along, all_always, all_append, all_map}
use Rattle.fab_tree.specs.declared.resolved.Resolved.{Resolved}
use Rattle.fab_tree.specs.declared.resolved.Crash.{Crash}
use Rattle.fab_tree.specs.declared.start.Start.{Start}
use Rattle.fab_language.specs.Numbers.{crash_of, resolved}
use Rattle.fab_language.specs.Words.{node_text}
use Rattle.fab_net.specs.declared.event.Event.{Event as NetEvent}
use Rattle.fab_net.specs.declared.event.Event.TheVariants as ne
use Rattle.fab_net.specs.declared.event.Inner.TheVariants as ni
use Rattle.fab_net.specs.declared.note.Logged.{Logged}
use Rattle.fab_net.specs.declared.outcome.ReqOutcome.{ReqOutcome}
use Rattle.fab_net.specs.declared.outcome.ReqOutcome.TheVariants as no
use Rattle.fab_rights.specs.declared.rights.Rights.{Rights}
use Rattle.fab_rights.specs.Computed.{is_worker}
use Rattle.fab_world.specs.Crashing.{KeepsLines}
use Rattle.fab_world.specs.Machine.{Setting, World, Move, at_start, enabled, form_by, form_of, logs, may, outcome, step}
use Rattle.fab_world.specs.Serial.{IsOrdinary, IsRun, world_of}
use Rattle.fab_integrity.proofs.Runs.{front_run}
use Rattle.fab_outcomes.specs.Causes.{has_failed, is_final}
use Rattle.fab_outcomes.proofs.Outcomes.{move_enabled}
use Rattle.fab_settings.specs.Settings.{IsAcceptedWith, lines_of, setting_of}
use Rattle.fab_settings.proofs.Gives.{gives_setting}
use Rattle.fab_settings.proofs.Meanings.{evaluates}
use Rattle.fab_settings.proofs.Posts.{hostile_post}
use Rattle.fab_trace.specs.Report.{commits_in, target_behind}
use Rattle.fab_reports.specs.declared.line.Line.{Line}
use Rattle.fab_reports.specs.declared.line.Line.TheVariants.{Head, Event, Commit as CommitLine, Outcome, Object as ObjectLine, End}
use Rattle.fab_reports.specs.declared.line.ShownCommit.{ShownCommit}
use Rattle.fab_reports.specs.declared.line.ShownEnding.{ShownEnding}
use Rattle.fab_reports.specs.declared.line.ShownEnding.TheVariants as so
use Rattle.fab_reports.specs.declared.line.ShownEvent.{ShownEvent}
use Rattle.fab_reports.specs.declared.line.ShownObject.{ShownObject}
use Rattle.fab_reports.specs.declared.line.ShownOutcome.{ShownOutcome}
use Rattle.fab_reports.specs.Printed.{all_objects, all_outcomes, commit_of, ending_of, event_of, events_of, outcomes_of as shown_of}
use Rattle.fab_reports.specs.Reports.{listed, numbered_commits, numbered_events}
use Rattle.fab_shown.specs.Shown as shown
use Rattle.fab_ended.specs.Bundles.{HasNoHostile, IsAnswered, IsAnsweredLine, IsEndedLine, IsEnding, IsFinal, IsFinalLine, IsPatient}
use Rattle.fab_ended.specs.Bundles.{ReportsAreAnswered, ReportsAreFinal, ReportsEnd, RequestsAreFinal, RequestsEnd, RunsAreCalm}
use Rattle.fab_ended.specs.Ended.{AreUnmarked, IsEnded, outcomes_of}
use Rattle.fab_ended.specs.Silence.{IsCalm, NoneGivesUp, NoneIsSilent, no_lines}
use Rattle.fab_ended.proofs.Ended.{are_ended, are_final, none_failed}
use Rattle.fab_ended.proofs.Sessions.{none_hostile, sessions_are_honest}
use Rattle.fab_ended.proofs.Silent.{are_calm, none_gives_up, none_silent}

-- ---- lists of lines

module _ (P : Line → Type 0) where
  each_event : (k : ℕ) (events : List ShownEvent) → AllByRecursion (λ e. (n : ℕ) → P (Event n e)) events → AllByRecursion P (numbered_events k events)
  each_event k [] h = tt
  each_event k (e ∷ events) h = (h.0 (suc k), each_event (suc k) events h.1)

  each_commit : ((n : ℕ) (c : ShownCommit) → P (CommitLine n c)) → (k : ℕ) (commits : List ShownCommit) → AllByRecursion P (numbered_commits k commits)
  each_commit h k [] = tt
  each_commit h k (c ∷ commits) = (h (suc k) c, each_commit h (suc k) commits)

  -- what holds of each line that a report lists
  all_listed : (events : List ShownEvent) (commits : List ShownCommit) (outcomes : List ShownOutcome) (objects : List ShownObject) → P Head
      → AllByRecursion (λ e. (n : ℕ) → P (Event n e)) events → ((n : ℕ) (c : ShownCommit) → P (CommitLine n c)) → AllByRecursion (λ o. P (Outcome o)) outcomes
      → ((x : ShownObject) → P (ObjectLine x)) → ((n : ℕ) → P (End n)) → AllByRecursion P (listed events commits outcomes objects)
  all_listed events commits outcomes objects head he hc ho hx end = (
    head,
    all_append P (numbered_events 0 events)
        (numbered_commits 0 commits ++ (map Outcome outcomes ++ (map ObjectLine objects ++ End (length events) ∷ []))) (each_event 0 events he)
        (all_append P (numbered_commits 0 commits) (map Outcome outcomes ++ (map ObjectLine objects ++ End (length events) ∷ [])) (each_commit hc 0 commits)
        (all_append P (map Outcome outcomes) (map ObjectLine objects ++ End (length events) ∷ []) (all_map P Outcome outcomes ho)
        (all_append P (map ObjectLine objects) (End (length events) ∷ []) (all_map P ObjectLine objects (all_always (λ x. P (ObjectLine x)) hx objects))
        (end (length events), tt)))),
  )

-- ---- outcomes, by node

module _ (r : Resolved) (rights : Rights) (w : World) (P : ℕ → ReqOutcome → Type 0) (Q : ShownOutcome → Type 0)
    (good : (n k : ℕ) (o : ReqOutcome) → P n o → Q (record { worker = node_text r n; request = suc k; ending = ending_of r o })) where
  of_node : (n k : ℕ) (os : List ReqOutcome) → AllByRecursion (P n) os → AllByRecursion Q (shown_of r n k os)
  of_node n k [] h = tt
  of_node n k (o ∷ os) h = (good n k o h.0, of_node n (suc k) os h.1)

  of_nodes : ((n : ℕ) → AllByRecursion (P n) (shown.outcomes_at r rights w n)) → (a m : ℕ)
      → AllByRecursion Q (all_outcomes r a (map (shown.outcomes_at r rights w) (range_with_len a m)))
  of_nodes h a zero = tt
  of_nodes h a (suc m) =
      let next : a + 1 ≡ suc a = omega arith in
      all_append Q (shown_of r a 0 (shown.outcomes_at r rights w a)) (all_outcomes r (suc a) (map (shown.outcomes_at r rights w) (range_with_len (a + 1) m)))
      (of_node a 0 (shown.outcomes_at r rights w a) (h a))
      (subst (λ b. AllByRecursion Q (all_outcomes r b (map (shown.outcomes_at r rights w) (range_with_len (a + 1) m)))) next (of_nodes h (a + 1) m))

ending_shown : (r : Resolved) (moves : List Move) (n k : ℕ) (o : ReqOutcome) → IsEnded moves n o → IsEnding r moves (node_text r n) (ending_of r o)
ending_shown r moves n k (no.Committed t value) h = tt
ending_shown r moves n k no.Failed h = tt
ending_shown r moves n k no.Conflict h = tt
ending_shown r moves n k (no.Silent s) h = tt
ending_shown r moves n k (no.Denied s denial) h = tt
ending_shown r moves n k (no.Stopped limit) h = tt
ending_shown r moves n k no.NodeDown h = (n, refl, h)
ending_shown r moves n k no.Unfinished h = h

-- not by silence
abbrev IsHeard : ReqOutcome → Type 0
IsHeard o = (s : ℕ) → o ≡ no.Silent s → ⊥

answer_shown : (r : Resolved) (n k : ℕ) (o : ReqOutcome) → IsHeard o → IsAnswered (ending_of r o)
answer_shown r n k (no.Committed t value) h = tt
answer_shown r n k no.Failed h = tt
answer_shown r n k no.Conflict h = tt
answer_shown r n k (no.Silent s) h = h s refl
answer_shown r n k (no.Denied s denial) h = tt
answer_shown r n k (no.Stopped limit) h = tt
answer_shown r n k no.NodeDown h = tt
answer_shown r n k no.Unfinished h = tt

-- ---- events

-- nobody gives up in it, and it isn't cut
abbrev NotIdle : NetEvent → Type 0
NotIdle (ne.Idle n s) = ⊥
NotIdle (ne.CrashIn keep e) = ⊥
NotIdle _ = Unit {0}

event_shown : (r : Resolved) (e : NetEvent) (target : ℕ) (bytes : List ℕ) → NotIdle e → IsPatient (event_of r e target bytes)
event_shown r (ne.Begin n) target bytes h = tt
event_shown r (ne.Resume n) target bytes h = tt
event_shown r (ne.Deliver a b) target bytes h = tt
event_shown r (ne.Idle n s) target bytes h = h
event_shown r (ne.Recover n) target bytes h = tt
event_shown r (ne.Post n) target bytes h = tt
event_shown r (ne.Crash n) target bytes h = tt
event_shown r (ne.CrashIn keep e) target bytes h = absurd h

events_shown : (r : Resolved) (before log : List Logged) → AllByRecursion (λ x. NotIdle x.event) log
    → AllByRecursion (λ e. (n : ℕ) → IsAnsweredLine (Event n e)) (events_of r before log)
events_shown r before [] h = tt
events_shown r before (x ∷ log) h =
    (λ n. event_shown r x.event (target_behind r before x.event) x.bytes h.0, events_shown r (before ++ x ∷ []) log h.1)

module _ (S : Setting) where
  logs_idle : (w : World) (moves : List Move) → AllByRecursion (λ move. NotIdle move.event) moves → AllByRecursion (λ x. NotIdle x.event) (logs S w moves)
  logs_idle w [] h = tt
  logs_idle w (move ∷ moves) h = (h.0, logs_idle (step S w move) moves h.1)

  not_idle : (w : World) → ((n s : ℕ) → may S w (ni.Idle n s) ≡ false) → (b : Bool) (e : NetEvent) → IsOrdinary (form_by b e)
      → IsTrue (enabled S w (form_by b e)) → NotIdle e
  not_idle w none false (ne.Idle n s) calm can = both_ways (may S w (ni.Idle n s)) (none n s) can
  not_idle w none true (ne.Idle n s) calm can = absurd calm
  not_idle w none false (ne.CrashIn keep e) calm can = absurd calm
  not_idle w none true (ne.CrashIn keep e) calm can = absurd calm
  not_idle w none b (ne.Begin n) calm can = tt
  not_idle w none b (ne.Resume n) calm can = tt
  not_idle w none b (ne.Deliver a c) calm can = tt
  not_idle w none b (ne.Post h) calm can = tt
  not_idle w none b (ne.Crash n) calm can = tt
  not_idle w none b (ne.Recover n) calm can = tt

  moves_idle : NoneGivesUp S → (xs ys : List Move) → IsRun S (xs ++ ys) → IsCalm xs → IsCalm ys → AllByRecursion (λ move. NotIdle move.event) ys
  moves_idle none xs [] run before calm = tt
  moves_idle none xs (move ∷ ys) run before calm =
      let same : (xs ++ move ∷ []) ++ ys ≡ xs ++ move ∷ ys = append_assoc xs (move ∷ []) ys in
      let can = move_enabled S (at_start S) xs move ys run.enabled in (
        not_idle (world_of S xs) (λ n s. none xs n s (front_run S xs (move ∷ ys) run) before) move.marked move.event calm.0 can.1,
        moves_idle none (xs ++ move ∷ []) ys (subst (IsRun S) (sym same) run) (all_append (λ (x : Move). IsOrdinary (form_of x)) xs (move ∷ []) before (calm.0, tt)) calm.1,
      )

-- a bundle without crash lines has none at each node
no_crashes : (cs : List Crash) → cs ≡ []
    → (λ (n : ℕ). map (λ (c : Crash). record { after = c.after; keep = c.keep }) (filter (λ (c : Crash). c.node == n) cs)) ≡ no_lines
no_crashes cs none = ap (λ (xs : List Crash). λ (n : ℕ). map (λ (c : Crash). record { after = c.after; keep = c.keep }) (filter (λ (c : Crash). c.node == n) xs)) none

-- without marks no line is down
final_line : (r : Resolved) (moves : List Move) → AreUnmarked moves → (x : Line) → IsEndedLine r moves x → IsFinalLine x
final_line r moves unmarked (Outcome x) h = by x.ending h
  where
    by : (o : ShownEnding) → IsEnding r moves x.worker o → IsFinal o
    by (so.Committed t value) h = tt
    by so.Failed h = tt
    by so.Conflict h = tt
    by (so.Silent node) h = tt
    by (so.Denied node denial) h = tt
    by (so.Stopped limit) h = tt
    by so.NodeDown h = both_ways (has_failed h.0 moves) (none_failed h.0 moves unmarked) h.2
    by so.Unfinished h = h
final_line r moves unmarked Head h = tt
final_line r moves unmarked (Event n e) h = tt
final_line r moves unmarked (CommitLine n c) h = tt
final_line r moves unmarked (ObjectLine x) h = tt
final_line r moves unmarked (End n) h = tt

-- ---- accepted bundles

module _ (s : Start) (rights : Rights) (a : IsAcceptedWith s rights) where
  abbrev r : Resolved
  r = resolved s

  abbrev S : Setting
  S = setting_of (resolved s) rights

  -- what holds of the outcomes of each honest worker holds of those of each node, since no other has a session
  of_sessions : (P : ReqOutcome → Type 0) (w : World) (n : ℕ)
      → (IsTrue (is_worker rights n) → S.hostile n ≡ false → AllByRecursion P (outcomes_of S w n)) → AllByRecursion P (outcomes_of S w n)
  of_sessions P w n h = elim (sessions_are_honest s rights a.rights_are a.named n) [
    | inr worker ↦ h worker.0 worker.1
    | inl none ↦ subst (λ m. AllByRecursion P (map (λ k. outcome S w n (k + 1)) (range_with_len 0 m))) (sym none) tt
  ]

  -- what holds of each line of the report of a run: of its events and of its outcomes
  of_report : (P : Line → Type 0) (moves : List Move) → P Head → AllByRecursion (λ e. (n : ℕ) → P (Event n e)) (events_of r [] (shown.log_of r rights moves))
      → ((n : ℕ) (c : ShownCommit) → P (CommitLine n c)) → AllByRecursion (λ o. P (Outcome o)) (all_outcomes r 0 (shown.all_outcomes r rights (world_of S moves)))
      → ((x : ShownObject) → P (ObjectLine x)) → ((n : ℕ) → P (End n)) → AllByRecursion P (shown.lines_of r rights moves)
  of_report P moves head events commits outcomes objects end =
      all_listed P (events_of r [] (shown.log_of r rights moves)) (map (commit_of r) (commits_in (shown.log_of r rights moves)))
      (all_outcomes r 0 (shown.all_outcomes r rights (world_of S moves))) (all_objects r 0 (shown.all_held r rights (world_of S moves))) head events commits outcomes
      objects end

  -- ---- behind a run that is over

  pub requests_end : RequestsEnd s rights
  requests_end moves n over =
      of_sessions (IsEnded moves n) (world_of S moves) n (are_ended S (gives_setting s rights a) (evaluates s rights a) (hostile_post s rights a)
      (lines_of (resolved s)) moves n over.0 over.1)

  pub requests_are_final : RequestsAreFinal s rights
  requests_are_final moves n over unmarked =
      of_sessions (λ o. IsTrue (is_final o)) (world_of S moves) n (are_final S (gives_setting s rights a) (evaluates s rights a) (hostile_post s rights a)
      (lines_of (resolved s)) moves n over.0 over.1 unmarked)

  pub reports_end : ReportsEnd s rights
  reports_end moves over =
      of_report (IsEndedLine r moves) moves tt
      (all_always (λ e. (n : ℕ) → IsEndedLine r moves (Event n e)) (λ e n. tt) (events_of r [] (shown.log_of r rights moves))) (λ n c. tt)
      (of_nodes r rights (world_of S moves) (IsEnded moves) (λ x. IsEndedLine r moves (Outcome x)) (ending_shown r moves) (λ n. requests_end moves n over) 0
      (shown.node_count r))
      (λ x. tt) (λ n. tt)

  pub reports_are_final : ReportsAreFinal s rights
  reports_are_final moves over unmarked =
      all_along (IsEndedLine r moves) IsFinalLine (final_line r moves unmarked) (shown.lines_of r rights moves) (reports_end moves over)

  -- ---- in calm runs

  pub runs_are_calm : RunsAreCalm s rights
  runs_are_calm moves none kept unmarked =
      are_calm S moves (subst (λ lines. KeepsLines S lines moves) (no_crashes (map (crash_of s) s.crashes) (ap (map (crash_of s)) none)) kept) unmarked

  -- without hostile nodes
  module _ (honest : HasNoHostile s) where
    pub bundle_patient : NoneGivesUp S
    bundle_patient = none_gives_up S (gives_setting s rights a) (evaluates s rights a) (none_hostile s honest)

    pub bundle_answered : NoneIsSilent S
    bundle_answered = none_silent S (gives_setting s rights a) (evaluates s rights a) (none_hostile s honest)

    all_heard : (moves : List Move) → IsRun S moves → IsCalm moves → (n : ℕ) → AllByRecursion IsHeard (outcomes_of S (world_of S moves) n)
    all_heard moves run calm n =
        of_sessions IsHeard (world_of S moves) n (λ me not_hostile.
        all_map IsHeard (λ k. outcome S (world_of S moves) n (k + 1)) (range_with_len 0 (S.requests n))
        (all_always (λ k. IsHeard (outcome S (world_of S moves) n (k + 1))) (λ k x. bundle_answered moves n (k + 1) x run calm me) (range_with_len 0 (S.requests n))))

    pub reports_are_answered : ReportsAreAnswered s rights
    reports_are_answered moves run calm =
        of_report IsAnsweredLine moves tt
        (events_shown r [] (shown.log_of r rights moves) (logs_idle S (at_start S) moves (moves_idle S bundle_patient [] moves run tt calm)))
        (λ n c. tt)
        (of_nodes r rights (world_of S moves) (λ n. IsHeard) (λ x. IsAnsweredLine (Outcome x)) (answer_shown r) (all_heard moves run calm) 0 (shown.node_count r))
        (λ x. tt) (λ n. tt)
