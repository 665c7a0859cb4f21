use Rattle.std.proofs.Common.{◌≡◌, length}
use Rattle.fab_evidence.specs.Texts.{behind}
use Rattle.fab_evidence.proofs.place.behind_line.Given as goal

abbrev pub invariant-bytes : goal.invariant-bytes
invariant-bytes l = behind 10 l.rest ≡ behind 10 l.bytes

abbrev pub decreases-bytes : goal.decreases-bytes
decreases-bytes l = length l.rest
