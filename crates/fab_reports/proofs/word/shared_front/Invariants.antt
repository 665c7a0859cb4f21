use Rattle.std.proofs.Common.{◌≡◌, ◌+◌, length}
use Rattle.fab_reports.specs.Reading.{shared}
use Rattle.fab_reports.proofs.word.shared_front.Given as goal

abbrev pub invariant-letters : goal.invariant-letters
invariant-letters l = record {
  count : l.count + shared l.left l.right ≡ shared l.text l.bytes;
  within : l.count + length l.right ≡ length l.bytes;
}

abbrev pub decreases-letters : goal.decreases-letters
decreases-letters l = length l.left
