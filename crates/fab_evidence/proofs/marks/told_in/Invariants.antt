use Rattle.std.proofs.Common.{length}
use Rattle.fab_evidence.specs.Telling.{IsToldBehind}
use Rattle.fab_evidence.proofs.marks.told_in.Given as goal

abbrev pub invariant-lines : goal.invariant-lines
invariant-lines l = IsToldBehind l.program l.rights l.lines l.rest l.nodes.items l.told.items

abbrev pub decreases-lines : goal.decreases-lines
decreases-lines l = length l.rest
