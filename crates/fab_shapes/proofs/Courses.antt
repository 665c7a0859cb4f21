-- What the requests of a bundle leave, one after the other.
use Rattle.std.proofs.Common.{◌≡◌, []}
use Rattle.std.specs.List.{AllByRecursion}
use Rattle.fab_tree.specs.declared.start.Start.{Start}
use Rattle.fab_language.specs.Evaluation.{map_at_start, requests_of, course_of}
use Rattle.fab_language.specs.Faults.{faults}
use Rattle.fab_language.specs.Numbers.{resolved}
use Rattle.fab_laws.specs.Closed.{IsClosed, IsFound}
use Rattle.fab_laws.specs.Shapes.{AreShaped}
use Rattle.fab_laws.proofs.Closed.{course_closed}
use Rattle.fab_laws.proofs.Shapes.{course_shaped}
use Rattle.fab_shapes.proofs.Objects.{closed, given_there, objects_have_shapes, requests_have_kinds}
use Rattle.fab_shapes.proofs.Programs.{program_fits}

pub at_end : (s : Start) → AllByRecursion IsFound (course_of (resolved s)).endings × IsClosed (course_of (resolved s)).map
at_end s = course_closed (resolved s) (map_at_start (resolved s)) (requests_of (resolved s)) (closed s) (given_there s)

pub shaped_at_end : (s : Start) → faults s ≡ [] → AreShaped (resolved s).classes (course_of (resolved s)).map
shaped_at_end s e = course_shaped (resolved s) (program_fits s e) (map_at_start (resolved s)) (requests_of (resolved s)) (objects_have_shapes s e) (requests_have_kinds s e)
