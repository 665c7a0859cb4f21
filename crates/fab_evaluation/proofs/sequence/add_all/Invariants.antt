use Rattle.std.proofs.Common.{◌≡◌, ◌++◌, length, map}
use Rattle.fab_evaluation.specs.Asking.{asked}
use Rattle.fab_evaluation.proofs.sequence.add_all.Given as goal

abbrev pub invariant-more : goal.invariant-more
invariant-more l = asked l.requests ++ map (λ a. a.request) l.rest ≡ asked l.fn.requests ++ map (λ a. a.request) l.more

abbrev pub decreases-more : goal.decreases-more
decreases-more l = length l.rest
