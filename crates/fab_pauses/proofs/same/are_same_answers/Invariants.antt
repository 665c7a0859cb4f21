use Rattle.std.proofs.Common.{◌≡◌, length}
use Rattle.fab_pauses.proofs.same.are_same_answers.Given as goal

abbrev pub invariant-answers : goal.invariant-answers
invariant-answers l = record { there : l.left ≡ l.right → l.a ≡ l.b; back : l.a ≡ l.b → l.left ≡ l.right }

abbrev pub decreases-answers : goal.decreases-answers
decreases-answers l = length l.left
