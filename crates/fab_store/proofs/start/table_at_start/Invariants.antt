use Rattle.std.proofs.Common.{◌≡◌, ◌==◌, map, take}
use Rattle.std.specs.List.{filter}
use Rattle.fab_protocol.specs.Versions.{begun}
use Rattle.fab_store.proofs.start.table_at_start.Given as goal

-- the roots so far that are here
abbrev pub invariant-loop-root : goal.invariant-loop-root
invariant-loop-root l = l.table.rows ≡ map begun (filter (λ root. root.0.store == l.store) (take l.root-index l.roots))
