use Rattle.std.proofs.Common.{take}
use Rattle.std.specs.List.{AllZip}
use Rattle.fab_places.specs.ClassRights.{IsClassRights}
use Rattle.fab_places.proofs.classes.rights.Given as goal

abbrev pub invariant-loop-class : goal.invariant-loop-class
invariant-loop-class l = AllZip (IsClassRights l.start) (take l.class-index l.start.classes) l.classes
