use Rattle.std.proofs.Common.{◌≡◌, drop}
use Rattle.fab_release.specs.Record.{downs_to}
use Rattle.fab_record.specs.Places.{sight_at, told}
use Rattle.fab_record.proofs.entries.put_downs.Given as goal

abbrev pub invariant-loop-down : goal.invariant-loop-down
invariant-loop-down l =
    told l.place.quiet l.out (downs_to (sight_at l.place) l.place.node (drop l.down-index l.downs)) ≡ told l.place.quiet l.initial.out (downs_to (sight_at l.place) l.place.node l.downs)
