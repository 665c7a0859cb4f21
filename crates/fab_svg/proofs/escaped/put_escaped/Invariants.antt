use Rattle.std.proofs.Common.{◌≡◌, ◌++◌, length}
use Rattle.fab_svg.specs.Escaped.{escaped}
use Rattle.fab_svg.proofs.escaped.put_escaped.Given as goal

abbrev pub invariant-bytes : goal.invariant-bytes
invariant-bytes l = l.out ++ escaped l.rest ≡ l.fn.out ++ escaped l.text

abbrev pub decreases-bytes : goal.decreases-bytes
decreases-bytes l = length l.rest
