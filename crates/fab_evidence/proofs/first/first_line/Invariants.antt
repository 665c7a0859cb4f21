use Rattle.std.proofs.Common.{length}
use Rattle.fab_evidence.proofs.Lines.{IsGoing}
use Rattle.fab_evidence.proofs.first.first_line.Given as goal

abbrev pub invariant-letters : goal.invariant-letters
invariant-letters l = IsGoing l.bytes l.rest l.count

abbrev pub decreases-letters : goal.decreases-letters
decreases-letters l = length l.rest
