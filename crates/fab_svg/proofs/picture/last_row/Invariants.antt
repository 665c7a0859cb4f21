use Rattle.std.proofs.Common.{◌≡◌, length}
use Rattle.fab_svg.specs.Svg.{last_row}
use Rattle.fab_svg.proofs.picture.last_row.Given as goal

abbrev pub invariant-shapes : goal.invariant-shapes
invariant-shapes l = last_row l.most l.rest ≡ last_row 0 l.shapes

abbrev pub decreases-shapes : goal.decreases-shapes
decreases-shapes l = length l.rest
