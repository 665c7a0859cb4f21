use Rattle.std.proofs.Common.{◌≡◌, take}
use Rattle.fab_journal.proofs.records.first_wrong.Given as goal

abbrev pub invariant-loop-at : goal.invariant-loop-at
invariant-loop-at l = take l.at l.bytes ≡ take l.at l.right
