use Rattle.std.proofs.Common.{length}
use Rattle.fab_evidence.proofs.Steps.{Goes}
use Rattle.fab_evidence.proofs.journals.journals_of.Given as goal

abbrev pub invariant-journals : goal.invariant-journals
invariant-journals l = Goes l.program l.nodes l.bytes l.left l.rest l.journals

abbrev pub decreases-journals : goal.decreases-journals
decreases-journals l = length l.rest
