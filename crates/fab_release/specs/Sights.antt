-- What a set of nodes sees, and what it knows of a bundle before any run.
use Rattle.std.specs.Prelude.{ℕ, Bool, List, Option}
use Rattle.fab_base.specs.declared.object.Tid.{Tid}
use Rattle.fab_base.specs.declared.object.Value.{Value}
use Rattle.fab_base.specs.declared.message.Message.{Message}
use Rattle.fab_base.specs.FlatMap.{FlatMap}
use Rattle.fab_language.specs.Meaning.{Meant}
use Rattle.fab_rights.specs.declared.rights.Rights.{Rights}

-- The nodes of the set; the classes of which it sees the objects; the sites that are in its view; and the sites of downgrades there out of
-- what it doesn't see into what it does.
pub record Sight : Type 0 where
  pub has : ℕ → Bool
  pub shows : ℕ → Bool
  pub in_view : ℕ → Bool
  pub into_view : ℕ → Bool

-- What everybody may know: the rights, how many objects a cache keeps, the roots of seen classes, the message that bytes are read as, and
-- what a worker's request of this number, from 1, means as far as the set can compute it, in an attempt over known objects with given values.
pub record Public : Type 0 where
  pub rights : Rights
  pub cache : ℕ
  pub roots : FlatMap
  pub read : List ℕ → Option Message
  pub means : ℕ → ℕ → Tid → FlatMap → List Value → Meant
