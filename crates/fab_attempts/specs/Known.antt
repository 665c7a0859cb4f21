-- Objects that an attempt knows, and the parts of one over its answers.
use Rattle.std.specs.Prelude.{not, ◌||◌, ◌==◌, IsTrue}
use Rattle.std.specs.List.{AllByRecursion}
use Rattle.fab_base.specs.declared.object.Tid.{Tid}
use Rattle.fab_base.specs.FlatMap.{is_among}
use Rattle.fab_base.specs.Tids.{is_above}
use Rattle.fab_tree.specs.declared.resolved.Resolved.{Resolved}
use Rattle.fab_laws.specs.Shapes.{IsShaped}
use Rattle.fab_protocol.specs.declared.parts.Parts.{Parts}
use Rattle.fab_protocol.specs.Parts.{KeepsParts}
use Rattle.fab_protocol.specs.Versions.{Row, Rows, names_of, maker_of}

-- An object that is known in an attempt: it has the shape of its class, and was made before the attempt, if this worker made it.
pub record IsKnown (program : Resolved) (t : Tid) (row : Row) : Type 0 where
  pub shaped : IsShaped program.classes row.0 row.2
  pub made : IsTrue (not (row.0.worker == t.worker) || is_above t (maker_of row.0))

abbrev pub AreKnown : Resolved → Tid → Rows → Type 0
AreKnown program t rows = AllByRecursion (IsKnown program t) rows

-- the parts of an attempt over these answers: what was touched is among them, and what was written is known
pub record ArePartsOver (program : Resolved) (t : Tid) (answers : Rows) (parts : Parts) : Type 0 where
  pub counts : KeepsParts parts
  pub touched : AllByRecursion (λ o. IsTrue (is_among o.0 (names_of answers))) parts.touched
  pub writes : AreKnown program t parts.writes
