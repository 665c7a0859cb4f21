use Rattle.std.proofs.Common.{◌≡◌, ◌++◌, length}
use Rattle.fab_svg.specs.Svg.{events_text}
use Rattle.fab_svg.proofs.picture.put_events.Given as goal

abbrev pub invariant-shapes : goal.invariant-shapes
invariant-shapes l = l.out ++ events_text l.rest ≡ l.fn.out ++ events_text l.shapes

abbrev pub decreases-shapes : goal.decreases-shapes
decreases-shapes l = length l.rest
