-- Runs that are over: a transfer, and one across a crash that a line makes.
use Rattle.std.proofs.Common.{◌≡◌, ℕ, ◌==◌, if◌then◌else◌, List, [], ◌∷◌, ◌++◌, map, None, Some, refl, false, lit<}
use Rattle.fab_base.specs.declared.object.Tid.{Tid}
use Rattle.fab_base.specs.declared.message.Message.TheVariants.{Boot}
use Rattle.fab_net.specs.declared.event.Event.TheVariants.{Deliver, CrashIn, Recover}
use Rattle.fab_net.specs.declared.event.Inner.TheVariants as i
use Rattle.fab_net.specs.declared.outcome.ReqOutcome.TheVariants.{Committed}
use Rattle.fab_protocol.specs.Stores.{shelf_of}
use Rattle.fab_protocol.proofs.Toy.{attempt}
use Rattle.fab_world.specs.Machine.{Setting, Move, outcome}
use Rattle.fab_world.specs.Serial.{world_of}
use Rattle.fab_world.specs.Workers.{kept_of}
use Rattle.fab_world.specs.Crashing.{CrashLine, IsOver, KeepsLines}
use Rattle.fab_world.proofs.Toy.{setting, no_posts, plain, transfers, until_prepare, until_applied}
use Rattle.fab_integrity.proofs.Over.{none_due, none_is_due}

abbrev first : Tid
first = attempt 0 1 1

-- worker 0 has one request, a transfer, and no other node has one
abbrev S : Setting
S = record (setting 0 1 0 no_posts (Boot 2 ∷ transfers first)) { requests = λ n. if n == 0 then 1 else 0 }

abbrev none : ℕ → List CrashLine
none n = []

abbrev transferring : List Move
transferring = map plain (until_applied 0)

transfer_is_kept : KeepsLines S none transferring
unfolding kept_of shelf_of
transfer_is_kept = refl

transfer_is_over : IsOver S none transferring
unfolding kept_of shelf_of
transfer_is_over = none_is_due S none (world_of S transferring) transferring (lit< tt) (lit< tt) refl

-- the worker's decision is cut with its record whole: its first event behind six others that writes one
abbrev at_the_decision : ℕ → List CrashLine
at_the_decision n = if n == 0 then record { after = 6; keep = Some 99 } ∷ [] else []

abbrev across : List Move
across = map plain (until_prepare 0 ++ Deliver 0 1 ∷ CrashIn 24 (i.Deliver 1 0) ∷ Recover 0 ∷ Deliver 0 1 ∷ Deliver 0 1 ∷ [])

across_is_kept : KeepsLines S at_the_decision across
unfolding kept_of shelf_of
across_is_kept = refl

across_commits : outcome S (world_of S across) 0 1 ≡ Committed first None
unfolding kept_of shelf_of
across_commits = refl

-- behind the recovery, before the store has heard, something is due
not_over_yet : none_due S at_the_decision (world_of S (map plain (until_prepare 0 ++ Deliver 0 1 ∷ CrashIn 24 (i.Deliver 1 0) ∷ Recover 0 ∷ [])))
    (map plain (until_prepare 0 ++ Deliver 0 1 ∷ CrashIn 24 (i.Deliver 1 0) ∷ Recover 0 ∷ [])) ≡ false
unfolding kept_of shelf_of
not_over_yet = refl

across_is_over : IsOver S at_the_decision across
unfolding kept_of shelf_of
across_is_over = none_is_due S at_the_decision (world_of S across) across (lit< tt) (lit< tt) refl
