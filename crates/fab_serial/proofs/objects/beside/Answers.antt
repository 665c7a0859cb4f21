use Rattle.std.proofs.Common.{ap, ◌∙◌}
use Rattle.fab_base.specs.FlatMap.{map_of, put_all}
use Rattle.fab_map.proofs.Made.{distinct_from_ascends, map_of_own}
use Rattle.fab_protocol.specs.Versions.{objects_of}
use Rattle.fab_rights.specs.Computed.{has_bit}
use Rattle.fab_world.specs.Serial.{outside}
use Rattle.fab_serial.proofs.objects.beside.Goals as goal

pub from_rows-copy-requires : goal.from_rows-copy-requires
from_rows-copy-requires c = rw (c.in_ok-copies.ensures, c.rows.ensures.all) (distinct_from_ascends c.args.map.now c.rows.ensures.ascending)

pub loop-row-init : goal.loop-row-init
loop-row-init c =
    ap (λ m. put_all (outside (has_bit c.args.classes) (objects_of c.args.answers.now)) m)
    (c.from_rows-copy.ensures ∙ ap map_of (c.in_ok-copies.ensures ∙ c.rows.ensures.all) ∙ map_of_own c.args.map.now c.rows.ensures.ascending)
