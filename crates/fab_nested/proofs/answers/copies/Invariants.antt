use Rattle.std.proofs.Common.{◌≡◌, take}
use Rattle.fab_nested.specs.Nested.{objects_of}
use Rattle.fab_nested.proofs.answers.copies.Given as goal

abbrev pub invariant-loop-answer : goal.invariant-loop-answer
invariant-loop-answer l = l.rows.items ≡ objects_of (take l.answer-index l.answers)
