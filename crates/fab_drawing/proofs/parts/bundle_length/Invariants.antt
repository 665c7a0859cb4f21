use Rattle.std.proofs.Common.{◌≡◌, ◌+◌, true, length}
use Rattle.fab_drawing.specs.Parts.{bundle_length}
use Rattle.fab_drawing.proofs.parts.bundle_length.Given as goal

abbrev pub invariant-bytes : goal.invariant-bytes
invariant-bytes l = record {
  place : l.len + bundle_length l.fresh l.rest ≡ bundle_length true l.text;
  within : l.len + length l.rest ≡ length l.text;
}

abbrev pub decreases-bytes : goal.decreases-bytes
decreases-bytes l = length l.rest
