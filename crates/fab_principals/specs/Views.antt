-- What contracts see of an `Acts`, and what its tables hold.
use Rattle.std.specs.Prelude.{◌<◌, ◌≤◌, ◌^◌, All, Contains}
use Rattle.fab_base.specs.Principals.{Delegations}
use Rattle.fab_principals.specs.declared.acts.Acts.TheInside.{Inside}
use Rattle.fab_principals.specs.Tables.{IsTable, Reaches}

abbrev pub delegations : Inside → Delegations
delegations a = record { count = a.count; pairs = a.pairs }

-- the declared pairs are of at most 64 principals, and the tables say who was declared for whom, and who acts for whom
pub record HasTables (a : Inside) : Type 0 where
  pub few : a.count ≤ 64
  pub declared : All (λ d. (d.0 < a.count) × (d.1 < a.count)) a.pairs
  pub direct : IsTable a.direct.items a.count (λ p q. Contains a.pairs (p, q))
  pub fits : All (λ row. row < 2 ^ 64) a.direct.items
  pub closed : IsTable a.closed.items a.count (λ p q. Reaches a.pairs p q)
