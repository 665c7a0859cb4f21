-- Which bytes are a report, of which lines, and where bytes stop being one.
use Rattle.std.specs.Prelude.{◌≡◌, ℕ, suc, ◌≤◌, List, [], ◌∷◌, ◌++◌, map, length, take, flat_map}
use Rattle.std.specs.List.{AllByRecursion}
use Rattle.fab_reports.specs.declared.line.ShownEvent.{ShownEvent}
use Rattle.fab_reports.specs.declared.line.ShownCommit.{ShownCommit}
use Rattle.fab_reports.specs.declared.line.ShownOutcome.{ShownOutcome}
use Rattle.fab_reports.specs.declared.line.ShownObject.{ShownObject}
use Rattle.fab_reports.specs.declared.line.Line.{Line}
use Rattle.fab_reports.specs.declared.line.Line.TheVariants.{Head, Event, Commit, Outcome, Object, End}
use Rattle.fab_reports.specs.Lines.{spelled_line, IsLine}

-- lines of events, behind so many others
abbrev pub numbered_events : ℕ → List ShownEvent → List Line
numbered_events n [] = []
numbered_events n (x ∷ xs) = Event (suc n) x ∷ numbered_events (suc n) xs

abbrev pub numbered_commits : ℕ → List ShownCommit → List Line
numbered_commits n [] = []
numbered_commits n (x ∷ xs) = Commit (suc n) x ∷ numbered_commits (suc n) xs

-- What stands in a report, in this order: its head, the events and the commits, each counted from 1, the
-- outcomes, the objects, and the number of events.
abbrev pub listed : List ShownEvent → List ShownCommit → List ShownOutcome → List ShownObject → List Line
listed events commits outcomes objects =
    Head ∷ (numbered_events 0 events ++ (numbered_commits 0 commits
    ++ (map Outcome outcomes ++ (map Object objects ++ End (length events) ∷ []))))

-- The bytes are the report of these lines, one behind the other.
pub record IsReport (bytes : List ℕ) (lines : List Line) : Type 0 where
  pub events : List ShownEvent
  pub commits : List ShownCommit
  pub outcomes : List ShownOutcome
  pub objects : List ShownObject
  pub order : lines ≡ listed events commits outcomes objects
  pub fits : AllByRecursion IsLine lines
  pub spelled : bytes ≡ flat_map spelled_line lines

-- bytes with which some report begins
abbrev pub BeginsReport : List ℕ → Type 0
BeginsReport front = (more : List ℕ) × (lines : List Line) × IsReport (front ++ more) lines

-- The place at which bytes that are no report go wrong: the length of their longest front with which one begins.
pub record IsBadPlace (bytes : List ℕ) (at : ℕ) : Type 0 where
  pub unread : (lines : List Line) → IsReport bytes lines → ⊥
  pub within : at ≤ length bytes
  pub begins : BeginsReport (take at bytes)
  pub longest : (n : ℕ) → n ≤ length bytes → BeginsReport (take n bytes) → n ≤ at
