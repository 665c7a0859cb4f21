use Rattle.std.proofs.Common.{◌<◌, ◌^◌, take, Contains, All}
use Rattle.fab_principals.specs.Tables.{IsTable}
use Rattle.fab_principals.proofs.tables.direct_rows.Given as goal

abbrev pub invariant-loop-pair : goal.invariant-loop-pair
invariant-loop-pair l = record {
  table : IsTable l.rows.items l.count (λ p q. Contains (take l.pair-index l.pairs) (p, q));
  fits : All (λ row. row < 2 ^ 64) l.rows.items;
}
