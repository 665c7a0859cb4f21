use Rattle.std.proofs.Common.{◌≡◌, length}
use Rattle.fab_svg.specs.Svg.{last_column}
use Rattle.fab_svg.proofs.picture.last_column.Given as goal

abbrev pub invariant-shapes : goal.invariant-shapes
invariant-shapes l = last_column l.most l.rest ≡ last_column 0 l.shapes

abbrev pub decreases-shapes : goal.decreases-shapes
decreases-shapes l = length l.rest
