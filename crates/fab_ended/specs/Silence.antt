-- Runs in which no node goes down and none is hostile: nobody waits in vain.
use Rattle.std.specs.Prelude.{◌≡◌, ℕ, false, IsFalse, IsTrue, List, []}
use Rattle.std.specs.List.{AllByRecursion}
use Rattle.fab_net.specs.declared.event.Inner.TheVariants as i
use Rattle.fab_net.specs.declared.outcome.ReqOutcome.TheVariants.{Silent}
use Rattle.fab_rights.specs.Computed.{is_worker}
use Rattle.fab_world.specs.Crashing.{CrashLine, KeepsLines}
use Rattle.fab_world.specs.Machine.{Setting, Move, form_of, may, outcome}
use Rattle.fab_world.specs.Serial.{IsOrdinary, IsRun, world_of}
use Rattle.fab_ended.specs.Ended.{AreUnmarked}

-- each move is an event that is done whole, or a post: no node crashes, no record is cut, and no journal call fails
abbrev pub IsCalm : List Move → Type 0
IsCalm moves = AllByRecursion (λ move. IsOrdinary (form_of move)) moves

-- no node has a crash line
abbrev pub no_lines : ℕ → List CrashLine
no_lines n = []

module _ (S : Setting) where
  abbrev pub NoneIsHostile : Type 0
  NoneIsHostile = (n : ℕ) → S.hostile n ≡ false

  -- where there are no crash lines, a run that keeps them is calm, unless a journal call failed
  abbrev pub AreCalm : Type 0
  AreCalm = (moves : List Move) → KeepsLines S no_lines moves → AreUnmarked moves → IsCalm moves

  -- behind a calm run no worker may give up waiting for a node
  abbrev pub NoneGivesUp : Type 0
  NoneGivesUp = (moves : List Move) (n s : ℕ) → IsRun S moves → IsCalm moves → IsFalse (may S (world_of S moves) (i.Idle n s))

  -- so no request of a worker ends by a node's silence
  abbrev pub NoneIsSilent : Type 0
  NoneIsSilent = (moves : List Move) (n r s : ℕ) → IsRun S moves → IsCalm moves → IsTrue (is_worker S.rights n)
      → outcome S (world_of S moves) n r ≡ Silent s → ⊥
