use Rattle.std.proofs.Common.{length}
use Rattle.fab_evidence.proofs.Parts.{IsSought}
use Rattle.fab_evidence.proofs.place.report_place.Given as goal

abbrev pub invariant-lines : goal.invariant-lines
invariant-lines l = IsSought l.text l.rest

abbrev pub decreases-lines : goal.decreases-lines
decreases-lines l = length l.rest
