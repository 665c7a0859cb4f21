use Rattle.std.proofs.Common.{◌≡◌, map, take}
use Rattle.fab_places.specs.Places.{shape_of}
use Rattle.fab_places.proofs.classes.shapes_of.Given as goal

abbrev pub invariant-loop-field : goal.invariant-loop-field
invariant-loop-field l = l.shapes ≡ map shape_of (take l.field-index l.fields)
