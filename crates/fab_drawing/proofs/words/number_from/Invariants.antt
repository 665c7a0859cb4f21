use Rattle.std.proofs.Common.{◌≡◌, ◌≤◌, length}
use Rattle.fab_drawing.specs.Asked.{number_from}
use Rattle.fab_drawing.proofs.words.number_from.Given as goal

abbrev pub invariant-digits : goal.invariant-digits
invariant-digits l = record {
  small : l.number ≤ 1000000000;
  same : number_from l.number l.rest ≡ number_from 0 l.digits;
}

abbrev pub decreases-digits : goal.decreases-digits
decreases-digits l = length l.rest
