use Rattle.std.proofs.Common.{◌≡◌, ◌+◌, length}
use Rattle.fab_picture.specs.Fitting.{place_behind}
use Rattle.fab_drawing.proofs.parts.place_behind.Given as goal

abbrev pub invariant-bytes : goal.invariant-bytes
invariant-bytes l = record {
  place : l.place + place_behind l.left l.rest ≡ place_behind l.lines l.bytes;
  within : l.place + length l.rest ≡ length l.bytes;
}

abbrev pub decreases-bytes : goal.decreases-bytes
decreases-bytes l = length l.rest
