-- What a worker is known to know in an attempt, by what its request is run, and what comes of it.
use Rattle.std.specs.Prelude.{◌≡◌, ℕ, List, Option, Some, None}
use Rattle.fab_base.specs.declared.object.Oid.{Oid}
use Rattle.fab_base.specs.declared.object.Tid.{Tid}
use Rattle.fab_base.specs.declared.object.Value.{Value}
use Rattle.fab_base.specs.FlatMap.{FlatMap}
use Rattle.fab_language.specs.declared.ending.Ending.{Ending}
use Rattle.fab_language.specs.declared.ending.Ending.TheVariants.{Ended, Missing}
use Rattle.fab_language.specs.Meaning.{Meant}
use Rattle.fab_meaning.specs.Turns.{IsOver}
use Rattle.fab_places.specs.declared.masks.Seen.{Seen}
use Rattle.fab_protocol.specs.declared.parts.Parts.{Parts}
use Rattle.fab_protocol.specs.Versions.{Rows}
use Rattle.fab_release.specs.Bundles.{erased_of}
use Rattle.fab_rights.specs.Computed.{has_bit}
use Rattle.fab_settings.specs.Settings.{request_at}
use Rattle.fab_tree.specs.declared.resolved.Resolved.{Resolved}
use Rattle.fab_world.specs.Attempts.{parts_of}

-- a program, and the labels and classes that are seen
pub record Runner : Type 0 where
  pub program : Resolved
  pub seen : Seen

-- the objects that are known with their versions, the values that were given, and by what a request is run
pub record Knows : Type 0 where
  pub rows : Rows
  pub given : List Value
  pub by : Runner

-- what a worker's request of this number means in an attempt over known objects with given values
abbrev pub ran_by : Runner → ℕ → ℕ → Tid → FlatMap → List Value → Meant
ran_by r n number t known given = erased_of (has_bit r.seen.labels) (has_bit r.seen.classes) r.program (request_at r.program n number) t known given

-- it ended for want of this object, or of none
abbrev pub Lacks : Option Oid → Ending → Type 0
Lacks None e = IsOver e
Lacks (Some o) e = (site : ℕ) × (e ≡ Missing site o)

-- the parts of an attempt over these rows that came to this end; none where it wasn't one with a value
abbrev pub parts_behind : Rows → Meant → Ending → Option Parts
parts_behind rows what (Ended value) = Some (parts_of rows what)
parts_behind rows what _ = None

abbrev pub parts_at_end : Rows → Meant → Option Parts
parts_at_end rows what = parts_behind rows what what.ending
