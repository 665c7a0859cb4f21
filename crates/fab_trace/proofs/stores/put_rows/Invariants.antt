use Rattle.std.proofs.Common.{◌≡◌, ◌++◌, length, flat_map}
use Rattle.fab_trace.specs.Report.{held_line}
use Rattle.fab_trace.proofs.stores.put_rows.Given as goal

abbrev pub invariant-rows : goal.invariant-rows
invariant-rows l = l.out ++ flat_map (held_line l.start l.store) l.rest ≡ l.fn.out ++ flat_map (held_line l.start l.store) l.rows

abbrev pub decreases-rows : goal.decreases-rows
decreases-rows l = length l.rest
