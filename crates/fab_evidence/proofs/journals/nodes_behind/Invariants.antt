use Rattle.std.proofs.Common.{◌≡◌, length}
use Rattle.fab_evidence.specs.Texts.{behind}
use Rattle.fab_evidence.proofs.journals.nodes_behind.Given as goal

abbrev pub invariant-nodes : goal.invariant-nodes
invariant-nodes l = behind l.node l.rest ≡ behind l.node l.nodes

abbrev pub decreases-nodes : goal.decreases-nodes
decreases-nodes l = length l.rest
