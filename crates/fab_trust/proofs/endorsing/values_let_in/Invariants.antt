use Rattle.std.proofs.Common.{◌≡◌, ◌++◌, drop}
use Rattle.fab_trust.specs.Endorsing.{values_let_in}
use Rattle.fab_trust.proofs.endorsing.values_let_in.Given as goal

abbrev pub invariant-loop-down : goal.invariant-loop-down
invariant-loop-down l = l.values ++ values_let_in l.doors (drop l.down-index l.downs) ≡ values_let_in l.doors l.downs
