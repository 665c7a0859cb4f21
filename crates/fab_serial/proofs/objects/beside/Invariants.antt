use Rattle.std.proofs.Common.{◌≡◌, length}
use Rattle.fab_base.specs.FlatMap.{put_all}
use Rattle.fab_protocol.specs.Versions.{objects_of}
use Rattle.fab_rights.specs.Computed.{has_bit}
use Rattle.fab_world.specs.Serial.{outside}
use Rattle.fab_serial.proofs.objects.beside.Given as goal

abbrev pub invariant-loop-row : goal.invariant-loop-row
invariant-loop-row l = put_all (outside (has_bit l.classes) (objects_of l.rest)) l.copy ≡ put_all (outside (has_bit l.classes) (objects_of l.answers)) l.map

abbrev pub decreases-loop-row : goal.decreases-loop-row
decreases-loop-row l = length l.rest
