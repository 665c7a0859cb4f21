use Rattle.std.proofs.Common.{ap, ◌∙◌}
use Rattle.fab_base.specs.FlatMap.{map_of}
use Rattle.fab_map.proofs.Made.{distinct_from_ascends, map_of_own}
use Rattle.fab_nested.proofs.copies.map_copy.Goals as goal

pub from_rows-requires : goal.from_rows-requires
from_rows-requires c = rw (c.in_ok-rows.ensures, c.rows.ensures.all) (distinct_from_ascends c.args.map.now c.rows.ensures.ascending)

pub returns : goal.returns
returns c = c.from_rows.ensures ∙ ap map_of (c.in_ok-rows.ensures ∙ c.rows.ensures.all) ∙ map_of_own c.args.map.now c.rows.ensures.ascending
