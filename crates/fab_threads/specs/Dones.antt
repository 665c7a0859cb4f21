-- What is done where an exchange is over.
use Rattle.std.specs.Prelude.{List}
use Rattle.fab_world.specs.Machine.{Move}
use Rattle.fab_node.specs.Standing.{GivenModel}
use Rattle.fab_exchange.specs.Turns.{AreOver}

-- nothing is due any more. It is a record, so that proofs over anything that takes turns don't look into it
pub record IsDone (g : GivenModel) (moves : List Move) : Type 0 where
  pub over : AreOver g moves
