-- What is promised of a run, whichever nodes are distrusted.
use Rattle.std.specs.Prelude.{ℕ, Bool, List}
use Rattle.fab_rights.specs.Computed.{has_bit}
use Rattle.fab_world.specs.Machine.{Move}
use Rattle.fab_node.specs.Standing.{GivenModel}
use Rattle.fab_replay.specs.Integral.{IsExcluded, IsIntegral}
use Rattle.fab_replay.specs.Isolated.{IsIsolated}
use Rattle.fab_replay.specs.Trusted.{IsTrusted}

-- Integrity, isolation and trusted replay, as the headline has them.
pub record IsSound (g : GivenModel) (moves : List Move) : Type 0 where
  pub integral : (nodes : ℕ) (ex : ℕ → Bool) → IsExcluded g nodes ex → IsIntegral g moves (has_bit nodes) ex
  pub isolated : IsIsolated g moves
  pub trusted : IsTrusted g moves
