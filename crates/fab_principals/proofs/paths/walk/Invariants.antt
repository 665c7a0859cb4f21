use Rattle.std.proofs.Common.{◌≡◌, ◌∷◌, ◌++◌, ◌≤◌, length}
use Rattle.fab_principals.specs.Tables.{AreRings, inward}
use Rattle.fab_principals.proofs.paths.walk.Given as goal

abbrev pub invariant-loop-at : goal.invariant-loop-at
invariant-loop-at l = record {
  within : l.left ≤ length l.rings;
  rings : AreRings l.rows l.q l.rings l.left l.at;
  walked : l.chain.items ++ inward l.rows l.rings l.left l.at ≡ l.p ∷ inward l.rows l.rings (length l.rings) l.p;
}

abbrev pub decreases-loop-at : goal.decreases-loop-at
decreases-loop-at l = l.left
