use Rattle.std.proofs.Common.{◌≡◌, ◌≤◌, length}
use Rattle.std.specs.Vec.Iter.{into_iter_items}
use Rattle.fab_protocol.specs.Tables.{placed_all}
use Rattle.fab_protocol.specs.Versions.{name_of}
use Rattle.fab_snap.proofs.state.put_all.Given as goal

-- what is left is put behind what was put, and there is room for it
abbrev pub invariant-loop-leaf : goal.invariant-loop-leaf
invariant-loop-leaf l =
    (length (into_iter_items l.leaf-iterator) ≤ l.rows.spare)
    × (placed_all name_of (into_iter_items l.leaf-iterator) l.rows.rows ≡ placed_all name_of l.fn.leaves l.fn.rows.rows)
