-- The numbers of attempts and the boots of a node are no more than the attempts so far.
use Rattle.std.specs.Prelude.{◌≡◌, ℕ, suc, ◌+◌, ◌≤◌, IsTrue, List, [], ◌∷◌, length, fold}
use Rattle.std.specs.List.{flat_map}
use Rattle.std.proofs.Common.{sym, ap, arith}
use Rattle.std.proofs.lemmas.Bool.{and_parts}
use Rattle.fab_world.specs.Machine.{Setting, World, Move, form_of, at_start, step, enabled, are_enabled, runs, kept, logged}
use Rattle.fab_world.specs.Serial.{attempts, attempts_at, commit_in}
use Rattle.fab_worker.specs.Records.{boots_in}
use Rattle.fab_worker.proofs.Keeping.{boot_of}
use Rattle.fab_integrity.proofs.Counts.{Counted, counted_start, counted_step}

module _ (S : Setting) where
  abbrev counting : ℕ → List Move → ℕ
  counting count moves = fold (λ n move. n + attempts_at (form_of move)) count moves

  counted_runs : (moves : List Move) (w : World) (commits count : ℕ) → IsTrue (are_enabled S w moves) → Counted S w commits count
      → (more : ℕ) × Counted S (runs S w moves) more (counting count moves)
  counted_runs [] w commits count can h = (commits, h)
  counted_runs (move ∷ moves) w commits count can h =
      let p = and_parts (enabled S w (form_of move)) (are_enabled S (step S w move) moves) can in
      counted_runs moves (step S w move) (commits + length (flat_map commit_in (logged S w move).notes)) (count + attempts_at (form_of move)) p.1
      (counted_step S w move commits count p.0 h)

  -- behind a run
  pub few_in : (moves : List Move) (n : ℕ) → IsTrue (are_enabled S (at_start S) moves)
      → (kept S (runs S (at_start S) moves) n).boot + ((runs S (at_start S) moves).node n).attempt.number ≤ suc (attempts moves)
  few_in moves n can = (counted_runs moves (at_start S) 0 0 can (counted_start S)).1.low n

  pub number_few : (moves : List Move) (n : ℕ) → IsTrue (are_enabled S (at_start S) moves)
      → ((runs S (at_start S) moves).node n).attempt.number ≤ attempts moves
  number_few moves n can =
      let few = few_in moves n can in
      let boot = boot_of ((runs S (at_start S) moves).node n).entries in
      omega (arith, few, boot)

  pub boots_few : (moves : List Move) (n : ℕ) → IsTrue (are_enabled S (at_start S) moves)
      → boots_in ((runs S (at_start S) moves).node n).entries ≤ attempts moves
  boots_few moves n can =
      let few = few_in moves n can in
      let boot = boot_of ((runs S (at_start S) moves).node n).entries in
      omega (arith, few, boot)
