use Rattle.std.proofs.Common.{take}
use Rattle.fab_principals.specs.Tables.{IsTable, Reaches}
use Rattle.fab_principals.proofs.tables.closed_rows.Given as goal

abbrev pub invariant-loop-pair : goal.invariant-loop-pair
invariant-loop-pair l = IsTable l.rows.items l.count (λ p q. Reaches (take l.pair-index l.pairs) p q)
