-- The report of a run is right.
use Rattle.std.proofs.Common.{◌≡◌, ℕ, ◌≤◌, List, [], ◌++◌, map, Some, refl, subst, sym, ap, ◌∙◌}
use Rattle.std.specs.List.{AllByRecursion}
use Rattle.std.proofs.lemmas.List.{append-nil}
use Rattle.fab_base.specs.declared.token.Token.{Token}
use Rattle.fab_base.specs.Tokens.{Lexes}
use Rattle.fab_base.proofs.Lists.{all_along}
use Rattle.fab_tree.specs.declared.resolved.Resolved.{Resolved}
use Rattle.fab_tree.specs.declared.start.Start.{Start}
use Rattle.fab_tree.specs.Syntax.{IsText}
use Rattle.fab_language.specs.Numbers.{resolved}
use Rattle.fab_rights.specs.declared.rights.Rights.{Rights}
use Rattle.fab_world.specs.Machine.{Move, Setting, at_start, content}
use Rattle.fab_world.specs.Serial.{IsRun}
use Rattle.fab_settings.specs.Settings.{IsAcceptedWith, setting_of}
use Rattle.fab_trace.specs.Report.{commits_in, report}
use Rattle.fab_reports.specs.Printed as printed
use Rattle.fab_reports.specs.Printed.{commit_of, events_of}
use Rattle.fab_shown.specs.Shown.{all_held, all_outcomes, lines_of, log_of, report_of, world_behind}
use Rattle.fab_shown.proofs.Shown.{read_back, showable}
use Rattle.fab_evidence.specs.declared.shown.ShownJournal.{ShownJournal}
use Rattle.fab_evidence.specs.Marks.{told_from}
use Rattle.fab_evidence.specs.Texts.{AreOf, journals_text}
use Rattle.fab_audit.proofs.Lines.{events_listed}
use Rattle.fab_audit.proofs.Numbers.{number_told}
use Rattle.fab_audit.specs.Right.{IsKept, IsRight}
use Rattle.fab_audit.specs.Runs.{all_moves, honest_nodes, moves_of}
use Rattle.fab_audited.proofs.Open.{held_same, outcomes_same, waits, waits_soundly}
use Rattle.fab_audited.proofs.Ruled.{IsAlike, ruled, ruled_alike}
use Rattle.fab_audited.proofs.Told.{moves_told}
use Rattle.fab_audited.proofs.Unmarked.{report_same}

module _ (text : List ℕ) (ts : List Token) (s : Start) (rights : Rights) (moves : List Move) (cut : Lexes 0 text ts) (is : IsText ts s) (a : IsAcceptedWith s rights)
    (run : IsRun (setting_of (resolved s) rights) moves) where
  abbrev r : Resolved
  r = resolved s

  abbrev S : Setting
  S = setting_of (resolved s) rights

  -- the run that the lines tell
  abbrev told : List Move
  told = ruled (waits s rights a moves run) moves

  alike : IsAlike S (waits s rights a moves run) (at_start S) moves told
  alike = ruled_alike S (waits s rights a moves run) (at_start S) moves run.enabled (waits_soundly s rights a moves run)

  is_told : moves_of r rights (lines_of r rights moves) ≡ Some told
  is_told =
      let log = log_of r rights moves in
      let w = world_behind r rights moves in
      let shown = events_listed (events_of r [] log) (map (commit_of r) (commits_in log)) (printed.all_outcomes r 0 (all_outcomes r rights w)) (printed.all_objects r 0 (all_held r rights w)) in
      ap (λ events. all_moves (told_from r rights (lines_of r rights moves) events)) shown
      ∙ moves_told r (number_told s a.named) S rights (lines_of r rights moves) (at_start S) [] moves (showable text ts s rights moves cut is a run).events_are_in

  is_run : IsRun S told
  is_run = record { enabled = alike.may_come; few = subst (λ n. n ≤ 4000000000) (sym (alike.begun 0)) run.few }

  same_report : report_of r rights moves ≡ report_of r rights told
  same_report =
      let v = world_behind r rights told in
      let w = world_behind r rights moves in
      let held = held_same s rights a moves run v alike.entries alike.failed in
      let outcomes = outcomes_same s rights a moves run v alike.entries alike.failed in
      sym (report_same r (log_of r rights moves) (all_held r rights w) (all_outcomes r rights w))
      ∙ (λ j. report r (sym alike.logged_same j) (sym held j) (sym outcomes j))
      ∙ report_same r (log_of r rights told) (all_held r rights v) (all_outcomes r rights v)

  same_journal : (journal : ShownJournal) → IsKept r rights moves journal → IsKept r rights told journal
  same_journal journal kept unmarked =
      kept (alike.marks journal.node unmarked)
      ∙ sym (λ j. content S (record (world_behind r rights moves) { node = λ n. alike.node journal.node unmarked j }) journal.node)

  pub with_journals : (journals : List ShownJournal) → AreOf (honest_nodes r rights) journals → AllByRecursion (IsKept r rights moves) journals
      → IsRight r rights (report_of r rights moves ++ journals_text r journals)
  with_journals journals order kept = record {
    lines = lines_of r rights moves;
    journals = journals;
    moves = told;
    form = record { report = report_of r rights moves; is = read_back text ts s rights moves cut is a run; order = order; spelled = refl };
    told = is_told;
    run = is_run;
    reported = same_report;
    kept = all_along (IsKept r rights moves) (IsKept r rights told) same_journal journals kept;
  }

  pub alone : IsRight r rights (report_of r rights moves)
  alone = subst (IsRight r rights) (append-nil (report_of r rights moves)) (with_journals [] tt tt)
