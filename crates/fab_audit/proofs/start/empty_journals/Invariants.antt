use Rattle.std.specs.Prelude.{◌≡◌, ◌+◌, [], length}
use Rattle.std.specs.List.{AllByRecursion}
use Rattle.fab_audit.proofs.start.empty_journals.Given as goal

abbrev pub invariant-nodes : goal.invariant-nodes
invariant-nodes l = (length l.journals + length l.rest ≡ length l.nodes) × AllByRecursion (λ j. j.content ≡ []) l.journals

abbrev pub decreases-nodes : goal.decreases-nodes
decreases-nodes l = length l.rest
