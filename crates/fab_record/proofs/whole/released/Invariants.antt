use Rattle.std.proofs.Common.{◌≡◌, ◌++◌, drop, take}
use Rattle.fab_release.specs.Record.{released, released_behind}
use Rattle.fab_record.specs.Kept.{IsPast}
use Rattle.fab_record.specs.Views.{sight_in}
use Rattle.fab_record.proofs.whole.released.Given as goal

abbrev pub invariant-loop-logged : goal.invariant-loop-logged
invariant-loop-logged l =
    IsPast (sight_in l.sights) (take l.logged-index l.log) l.past
    × (l.out ++ released_behind (sight_in l.sights) (take l.logged-index l.log) (drop l.logged-index l.log) ≡ released (sight_in l.sights) l.log)
