-- What is read beside a run.
use Rattle.std.specs.Prelude.{◌≡◌, ◌↔◌, ℕ, IsTrue, List}
use Rattle.fab_tree.specs.declared.resolved.Resolved.{Resolved}
use Rattle.fab_front.specs.Readable.{ClassExcludesHostile, IsReadable}
use Rattle.fab_reads.specs.declared.reading.Reading.{Reading}
use Rattle.fab_rights.specs.Computed.{has_bit}

-- The object of a root of this name that may be read is read so many times; the classes of what is seen are those that no hostile node may have influenced.
pub record IsReadingOf (r : Resolved) (root : List ℕ) (times : ℕ) (reading : Reading) : Type 0 where
  pub readable : IsReadable r root reading.oid
  pub times_are : reading.times ≡ times
  pub classes : (c : ℕ) → IsTrue (has_bit reading.classes c) ↔ ClassExcludesHostile r c
