use Rattle.std.proofs.Common.{◌≡◌, ◌++◌, flat_map, length}
use Rattle.fab_svg.specs.Svg.{ground_text}
use Rattle.fab_svg.proofs.picture.put_grounds.Given as goal

abbrev pub invariant-shapes : goal.invariant-shapes
invariant-shapes l = l.out ++ flat_map ground_text l.rest ≡ l.fn.out ++ flat_map ground_text l.shapes

abbrev pub decreases-shapes : goal.decreases-shapes
decreases-shapes l = length l.rest
