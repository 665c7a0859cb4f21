use Rattle.std.proofs.Common.{◌≡◌, ◌++◌, length, map}
use Rattle.fab_inferred.proofs.reply.firsts.Given as goal

abbrev pub invariant-places : goal.invariant-places
invariant-places l = l.labels ++ map (λ at. 0) l.rest ≡ map (λ at. 0) l.initial.rest

abbrev pub decreases-places : goal.decreases-places
decreases-places l = length l.rest
