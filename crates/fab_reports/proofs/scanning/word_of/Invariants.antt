use Rattle.std.proofs.Common.{length}
use Rattle.fab_reports.proofs.Letters.{IsSpelling}
use Rattle.fab_reports.proofs.scanning.word_of.Given as goal

abbrev pub invariant-letters : goal.invariant-letters
invariant-letters l = IsSpelling l.ends l.bytes l.rest l.so_far

abbrev pub decreases-letters : goal.decreases-letters
decreases-letters l = length l.rest
