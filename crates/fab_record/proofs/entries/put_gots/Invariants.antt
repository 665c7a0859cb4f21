use Rattle.std.proofs.Common.{◌≡◌, ◌++◌, drop}
use Rattle.fab_release.specs.Record.{gots_to}
use Rattle.fab_record.specs.Places.{sight_at, told, touched_at}
use Rattle.fab_record.proofs.entries.put_gots.Given as goal

abbrev pub invariant-loop-touch : goal.invariant-loop-touch
invariant-loop-touch l =
    told l.place.quiet l.out (gots_to (sight_at l.place) l.place.node (l.fresh.keys ++ touched_at l.place) (drop l.touch-index l.touches))
    ≡ told l.place.quiet l.initial.out (gots_to (sight_at l.place) l.place.node (touched_at l.place) l.touches)
