-- How the requests of a run may have ended once the run is over.
use Rattle.std.specs.Prelude.{◌≡◌, ℕ, ◌+◌, false, IsTrue, List, map}
use Rattle.std.specs.List.{AllByRecursion, range_with_len}
use Rattle.fab_net.specs.declared.outcome.ReqOutcome.{ReqOutcome}
use Rattle.fab_net.specs.declared.outcome.ReqOutcome.TheVariants.{NodeDown, Unfinished}
use Rattle.fab_rights.specs.Computed.{is_worker}
use Rattle.fab_world.specs.Crashing.{CrashLine, IsOver}
use Rattle.fab_world.specs.Machine.{Setting, World, Move, outcome}
use Rattle.fab_world.specs.Serial.{IsRun, world_of}
use Rattle.fab_outcomes.specs.Causes.{has_failed, is_final}

-- an outcome of worker n behind a run that is over: the request isn't open, and down only where a journal call of the worker failed
abbrev pub IsEnded : List Move → ℕ → ReqOutcome → Type 0
IsEnded moves n NodeDown = IsTrue (has_failed n moves)
IsEnded moves n Unfinished = ⊥
IsEnded moves n _ = Unit {0}

-- no journal call failed
abbrev pub AreUnmarked : List Move → Type 0
AreUnmarked moves = AllByRecursion (λ move. move.marked ≡ false) moves

module _ (S : Setting) where
  -- what a report shows of a worker: the outcome of each request of its session, in order
  abbrev pub outcomes_of : World → ℕ → List ReqOutcome
  outcomes_of w n = map (λ k. outcome S w n (k + 1)) (range_with_len 0 (S.requests n))

  -- behind a run that is over by whichever crash lines, those of each worker that isn't hostile
  abbrev pub AreEnded : Type 0
  AreEnded = (lines : ℕ → List CrashLine) (moves : List Move) (n : ℕ) → IsRun S moves → IsOver S lines moves → IsTrue (is_worker S.rights n)
      → S.hostile n ≡ false → AllByRecursion (IsEnded moves n) (outcomes_of (world_of S moves) n)

  -- and where no journal call failed, none is open or down
  abbrev pub AreFinal : Type 0
  AreFinal = (lines : ℕ → List CrashLine) (moves : List Move) (n : ℕ) → IsRun S moves → IsOver S lines moves → AreUnmarked moves
      → IsTrue (is_worker S.rights n) → S.hostile n ≡ false → AllByRecursion (λ o. IsTrue (is_final o)) (outcomes_of (world_of S moves) n)
