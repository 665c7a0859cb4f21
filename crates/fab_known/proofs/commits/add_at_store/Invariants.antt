use Rattle.std.proofs.Common.{◌≡◌, ◌==◌, ◌++◌, take}
use Rattle.std.specs.List.{filter}
use Rattle.fab_known.proofs.commits.add_at_store.Given as goal

abbrev pub invariant-loop-row : goal.invariant-loop-row
invariant-loop-row l = l.all ≡ l.initial.all ++ filter (λ row. row.0.store == l.store) (take l.row-index l.rows)
