use Rattle.std.proofs.Common.{◌≡◌, length}
use Rattle.fab_holes.proofs.Fixed.{IsSound}
use Rattle.fab_infer.proofs.Settling.{IsSettled}
use Rattle.fab_infer.proofs.Totals.{left}
use Rattle.fab_infer.proofs.closing.closed.Given as goal

abbrev pub invariant-waiting : goal.invariant-waiting
invariant-waiting l = record {
  many : length l.masks.items ≡ l.holes;
  settled : IsSettled l.count l.flows l.masks.items l.waiting.items;
  sound : IsSound l.count l.flows l.masks.items;
}

abbrev pub decreases-waiting : goal.decreases-waiting
decreases-waiting l = left l.masks.items (length l.waiting.items)
