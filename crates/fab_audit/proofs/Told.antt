-- A report tells the events of its run, so two runs with one report have the same events.
use Rattle.std.specs.Prelude.{◌≡◌, ℕ, List, [], ◌∷◌, map}
use Rattle.std.proofs.Common.{Option, Some, length, refl, sym, ap, ◌∙◌, subst, arith}
use Rattle.fab_base.specs.declared.token.Token.{Token}
use Rattle.fab_base.specs.Tokens.{Lexes}
use Rattle.fab_tree.specs.declared.resolved.Resolved.{Resolved}
use Rattle.fab_tree.specs.declared.start.Start.{Start}
use Rattle.fab_tree.specs.Syntax.{IsText}
use Rattle.fab_language.specs.Numbers.{resolved}
use Rattle.fab_net.specs.declared.event.Event.{Event}
use Rattle.fab_rights.specs.declared.rights.Rights.{Rights}
use Rattle.fab_world.specs.Machine.{Move, Setting, World, at_start, logs, step}
use Rattle.fab_world.specs.Serial.{IsRun}
use Rattle.fab_settings.specs.Settings.{IsAcceptedWith, setting_of}
use Rattle.fab_reports.specs.declared.line.Line.{Line}
use Rattle.fab_reports.specs.Printed as printed
use Rattle.fab_reports.specs.Printed.{commit_of, events_of}
use Rattle.fab_reports.specs.Reports.{IsReport}
use Rattle.fab_reports.proofs.Wholes.{one_report}
use Rattle.fab_trace.specs.Report.{commits_in}
use Rattle.fab_shown.specs.Shown.{all_held, all_outcomes, lines_of, log_of, report_of, world_behind}
use Rattle.fab_shown.proofs.Shown.{read_back, showable}
use Rattle.fab_evidence.specs.Marks.{events_in}
use Rattle.fab_evidence.specs.Named.{named_event}
use Rattle.fab_audit.proofs.Events.{log_told}
use Rattle.fab_audit.proofs.Lines.{events_listed}
use Rattle.fab_audit.proofs.Numbers.{number_told}

-- a log has the events of its moves
pub events_logged : {A : Type 0} (f : Event → A) (S : Setting) (w : World) (moves : List Move) → map (λ x. f x.event) (logs S w moves) ≡ map (λ m. f m.event) moves
events_logged f S w [] = refl
events_logged f S w (move ∷ moves) = ap (λ events. f move.event ∷ events) (events_logged f S (step S w move) moves)

-- moves have the same events where these are told alike
alike : (xs ys : List Move) → map (λ m. Some m.event) xs ≡ map (λ m. Some m.event) ys → map (λ m. m.event) xs ≡ map (λ m. m.event) ys
alike [] [] e = refl
alike [] (y ∷ ys) e = absurd (omega (arith, ap length e))
alike (x ∷ xs) [] e = absurd (omega (arith, ap length e))
alike (x ∷ xs) (y ∷ ys) e =
    let one : x.event ≡ y.event = cc in
    let more : map (λ m. Some m.event) xs ≡ map (λ m. Some m.event) ys = cc in
    λ j. one j ∷ alike xs ys more j

module _ (text : List ℕ) (ts : List Token) (s : Start) (rights : Rights) (cut : Lexes 0 text ts) (is : IsText ts s) (a : IsAcceptedWith s rights) where
  abbrev r : Resolved
  r = resolved s

  -- the events that lines tell
  abbrev told_by : List Line → List (Option Event)
  told_by lines = map (named_event r) (events_in lines)

  -- the lines of a run tell its events
  told : (moves : List Move) → IsRun (setting_of r rights) moves → told_by (lines_of r rights moves) ≡ map (λ m. Some m.event) moves
  told moves run =
      let log = log_of r rights moves in
      let w = world_behind r rights moves in
      let shown = events_listed (events_of r [] log) (map (commit_of r) (commits_in log)) (printed.all_outcomes r 0 (all_outcomes r rights w)) (printed.all_objects r 0 (all_held r rights w)) in
      ap (map (named_event r)) shown
      ∙ (log_told r (number_told s a.named) [] log (showable text ts s rights moves cut is a run).events_are_in
      ∙ events_logged Some (setting_of r rights) (at_start (setting_of r rights)) moves)

  -- one report has one list of lines
  same_lines : (first second : List Move) → IsRun (setting_of r rights) first → IsRun (setting_of r rights) second
      → report_of r rights first ≡ report_of r rights second → lines_of r rights first ≡ lines_of r rights second
  same_lines first second one other same =
      let back = read_back text ts s rights second cut is a other in
      one_report (report_of r rights first) (lines_of r rights first) (lines_of r rights second) (read_back text ts s rights first cut is a one)
      (subst (λ bytes. IsReport bytes (lines_of r rights second)) (sym same) back)

  pub same_events : (first second : List Move) → IsRun (setting_of r rights) first → IsRun (setting_of r rights) second
      → report_of r rights first ≡ report_of r rights second → map (λ m. m.event) first ≡ map (λ m. m.event) second
  same_events first second one other same =
      alike first second (sym (told first one) ∙ (ap told_by (same_lines first second one other same) ∙ told second other))
