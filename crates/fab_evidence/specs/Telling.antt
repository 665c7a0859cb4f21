-- What lines tell, line by line from the last one.
use Rattle.std.specs.Prelude.{◌≡◌, ℕ, ◌==◌, List, ◌++◌, Option, reverse}
use Rattle.std.specs.List.{list_any}
use Rattle.fab_tree.specs.declared.resolved.Resolved.{Resolved}
use Rattle.fab_rights.specs.declared.rights.Rights.{Rights}
use Rattle.fab_reports.specs.declared.line.Line.{Line}
use Rattle.fab_reports.specs.declared.line.ShownEvent.{ShownEvent}
use Rattle.fab_evidence.specs.declared.shown.Told.{Told}
use Rattle.fab_evidence.specs.Marks.{events_in, is_of, told_from}

-- these are the nodes that the events are of
pub record AreNodesOf (r : Resolved) (nodes : List ℕ) (events : List ShownEvent) : Type 0 where
  pub exact : (n : ℕ) → list_any (λ m. m == n) nodes ≡ list_any (is_of r n) events

-- of the lines behind, these are the nodes of their events, and, the last one first, what they tell
pub record IsTold (r : Resolved) (rights : Rights) (lines : List Line) (behind : List Line) (nodes : List ℕ) (told : List (Option Told)) : Type 0 where
  pub nodes_are : AreNodesOf r nodes (events_in behind)
  pub told_is : reverse told ≡ told_from r rights lines (events_in behind)

-- and the lines are those left, and these behind them
pub record IsToldBehind (r : Resolved) (rights : Rights) (lines : List Line) (left : List Line) (nodes : List ℕ) (told : List (Option Told)) : Type 0 where
  pub behind : List Line
  pub all : lines ≡ left ++ behind
  pub is : IsTold r rights lines behind nodes told
