-- The lines of a report tell its events: they are those of its lines of events.
use Rattle.std.proofs.Common.{◌≡◌, ℕ, suc, List, [], ◌∷◌, ◌++◌, map, length, refl, ap, ◌∙◌}
use Rattle.std.proofs.lemmas.List.{append-nil}
use Rattle.fab_reports.specs.declared.line.ShownEvent.{ShownEvent}
use Rattle.fab_reports.specs.declared.line.ShownCommit.{ShownCommit}
use Rattle.fab_reports.specs.declared.line.ShownOutcome.{ShownOutcome}
use Rattle.fab_reports.specs.declared.line.ShownObject.{ShownObject}
use Rattle.fab_reports.specs.declared.line.Line.{Line}
use Rattle.fab_reports.specs.declared.line.Line.TheVariants.{Outcome, Object, End}
use Rattle.fab_evidence.specs.Marks.{events_in}
use Rattle.fab_reports.specs.Reports.{listed, numbered_commits, numbered_events}

behind_events : (n : ℕ) (events : List ShownEvent) (rest : List Line) → events_in (numbered_events n events ++ rest) ≡ events ++ events_in rest
behind_events n [] rest = refl
behind_events n (x ∷ xs) rest = ap (λ more. x ∷ more) (behind_events (suc n) xs rest)

behind_commits : (n : ℕ) (commits : List ShownCommit) (rest : List Line) → events_in (numbered_commits n commits ++ rest) ≡ events_in rest
behind_commits n [] rest = refl
behind_commits n (x ∷ xs) rest = behind_commits (suc n) xs rest

behind_outcomes : (outcomes : List ShownOutcome) (rest : List Line) → events_in (map Outcome outcomes ++ rest) ≡ events_in rest
behind_outcomes [] rest = refl
behind_outcomes (x ∷ xs) rest = behind_outcomes xs rest

behind_objects : (objects : List ShownObject) (rest : List Line) → events_in (map Object objects ++ rest) ≡ events_in rest
behind_objects [] rest = refl
behind_objects (x ∷ xs) rest = behind_objects xs rest

pub events_listed : (events : List ShownEvent) (commits : List ShownCommit) (outcomes : List ShownOutcome) (objects : List ShownObject)
    → events_in (listed events commits outcomes objects) ≡ events
events_listed events commits outcomes objects =
    let last : List Line = End (length events) ∷ [] in
    let held = map Object objects ++ last in
    let ended = map Outcome outcomes ++ held in
    let none : events_in (numbered_commits 0 commits ++ ended) ≡ [] =
    behind_commits 0 commits ended ∙ (behind_outcomes outcomes held ∙ behind_objects objects last) in
    behind_events 0 events (numbered_commits 0 commits ++ ended) ∙ (ap (λ more. events ++ more) none ∙ append-nil events)
