use Rattle.std.proofs.Common.{◌≡◌, map}
use Rattle.std.specs.List.{range_with_len}
use Rattle.fab_nodes.specs.Seen.{held_in}
use Rattle.fab_core.proofs.gathering.all_rows.Given as goal

abbrev pub invariant-loop-number : goal.invariant-loop-number
invariant-loop-number g l = l.all ≡ map (held_in l.nodes) (range_with_len 0 l.number)
