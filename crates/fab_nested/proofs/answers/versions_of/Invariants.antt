use Rattle.std.proofs.Common.{◌≡◌, take}
use Rattle.fab_nested.specs.Nested.{versions_of}
use Rattle.fab_nested.proofs.answers.versions_of.Given as goal

abbrev pub invariant-loop-answer : goal.invariant-loop-answer
invariant-loop-answer l = l.versions.entries ≡ versions_of (take l.answer-index l.answers)
