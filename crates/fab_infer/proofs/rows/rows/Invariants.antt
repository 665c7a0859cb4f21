use Rattle.std.proofs.Common.{◌≡◌, length}
use Rattle.fab_infer.specs.Masks.{AreRows}
use Rattle.fab_infer.proofs.rows.rows.Given as goal

abbrev pub invariant-loop-k : goal.invariant-loop-k
invariant-loop-k l = record { many : length l.rows.items ≡ l.k; rows : AreRows l.start 0 l.rows.items }
