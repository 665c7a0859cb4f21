use Rattle.std.proofs.Common.{◌≡◌, ◌+◌, ◌++◌, length}
use Rattle.fab_marks.specs.Lives.{lives}
use Rattle.fab_marks.proofs.lives.put_lives.Given as goal

abbrev pub invariant-events : goal.invariant-events
invariant-events l = record {
  drawn : l.out ++ lives l.node l.now l.from l.row l.rest ≡ l.fn.out ++ lives l.node l.up 0 1 l.events;
  count : l.row + length l.rest ≡ 1 + length l.events;
}

abbrev pub decreases-events : goal.decreases-events
decreases-events l = length l.rest
