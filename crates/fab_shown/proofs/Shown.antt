-- All of a run can be shown, so what is printed of it is read back.
use Rattle.std.specs.Prelude.{◌≡◌, ℕ, List, [], ◌∷◌}
use Rattle.std.specs.List.{AllByRecursion}
use Rattle.fab_base.specs.declared.token.Token.{Token}
use Rattle.fab_base.specs.Tokens.{Lexes}
use Rattle.fab_tree.specs.declared.start.Start.{Start}
use Rattle.fab_tree.specs.Syntax.{IsText}
use Rattle.fab_language.specs.Faults.{faults}
use Rattle.fab_language.specs.Numbers.{resolved}
use Rattle.fab_rights.specs.declared.rights.Rights.{Rights}
use Rattle.fab_world.specs.Machine.{Move}
use Rattle.fab_world.specs.Serial.{IsRun}
use Rattle.fab_settings.specs.Settings.{IsAcceptedWith, setting_of}
use Rattle.fab_reports.specs.Reports.{IsReport}
use Rattle.fab_reports.specs.Showable.{IsNode, IsShowable}
use Rattle.fab_reports.proofs.Printing.{is_its_report}
use Rattle.fab_reports.proofs.Showing.{each_fits}
use Rattle.fab_named.proofs.Named.{have_bytes, have_words}
use Rattle.fab_named.proofs.Posts.{posts_have_numbers}
use Rattle.fab_shown.specs.Shown.{all_held, all_outcomes, lines_of, log_of, report_of, world_behind}
use Rattle.fab_shown.proofs.Commits.{commits_are_in}
use Rattle.fab_shown.proofs.Events.{events_are_in}
use Rattle.fab_shown.proofs.Held.{held_in}
use Rattle.fab_shown.proofs.Outcomes.{outcomes_are_in}

firsts : {A : Type 0} (P Q : A → Type 0) (xs : List A) → AllByRecursion (λ x. P x × Q x) xs → AllByRecursion P xs
firsts P Q [] h = tt
firsts P Q (x ∷ xs) h = (h.0.0, firsts P Q xs h.1)

-- the receiver of each post is a node
pub receivers : (s : Start) → faults s ≡ [] → AllByRecursion (λ p. IsNode (resolved s) p.receiver) (resolved s).posts
receivers s e = firsts (λ p. IsNode (resolved s) p.receiver) (λ p. IsNode (resolved s) p.sender) (resolved s).posts (posts_have_numbers s e)

module _ (text : List ℕ) (ts : List Token) (s : Start) (rights : Rights) (moves : List Move) (cut : Lexes 0 text ts) (is : IsText ts s)
    (a : IsAcceptedWith s rights) (run : IsRun (setting_of (resolved s) rights) moves) where
  pub showable : IsShowable (resolved s) (log_of (resolved s) rights moves) (all_held (resolved s) rights (world_behind (resolved s) rights moves))
      (all_outcomes (resolved s) rights (world_behind (resolved s) rights moves))
  showable = record {
    words = have_words cut is;
    events_are_in = events_are_in s rights a (have_bytes cut is) (receivers s a.named) moves run;
    commits_are_in = commits_are_in s rights a moves run;
    outcomes_are_in = outcomes_are_in s rights a moves run;
    held_are_in = held_in s rights a moves run;
  }

  pub read_back : IsReport (report_of (resolved s) rights moves) (lines_of (resolved s) rights moves)
  read_back =
      let r = resolved s in
      let w = world_behind r rights moves in
      is_its_report r (log_of r rights moves) (all_held r rights w) (all_outcomes r rights w)
      (each_fits r (log_of r rights moves) (all_held r rights w) (all_outcomes r rights w) showable)
