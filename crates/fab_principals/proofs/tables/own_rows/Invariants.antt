use Rattle.std.proofs.Common.{◌≡◌}
use Rattle.fab_principals.specs.Tables.{IsTable}
use Rattle.fab_principals.proofs.tables.own_rows.Given as goal

abbrev pub invariant-loop-p : goal.invariant-loop-p
invariant-loop-p l = IsTable l.rows.items l.p (λ p q. p ≡ q)
