-- A log has an entry for each move.
use Rattle.std.specs.Prelude.{◌≡◌, List, [], ◌∷◌, length}
use Rattle.std.proofs.Common.{refl, arith}
use Rattle.fab_world.specs.Machine.{Setting, World, Move, logs, step}

pub length_logs : (S : Setting) (w : World) (moves : List Move) → length (logs S w moves) ≡ length moves
length_logs S w [] = refl
length_logs S w (move ∷ moves) = omega (arith, length_logs S (step S w move) moves)
