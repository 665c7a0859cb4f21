use Rattle.std.proofs.Common.{◌≡◌, take}
use Rattle.std.specs.List.{filter}
use Rattle.fab_base.specs.FlatMap.{is_among}
use Rattle.fab_parts.proofs.parts.named.Given as goal

abbrev pub invariant-loop-row : goal.invariant-loop-row
invariant-loop-row l = l.found ≡ filter (λ c. is_among c.0 l.names) (take l.row-index l.rows)
