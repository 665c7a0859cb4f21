-- How requests ended behind small runs: one that is over, one that isn't, and one in which a worker's journal failed.
use Rattle.std.proofs.Common.{◌≡◌, ◌==◌, if◌then◌else◌, List, [], ◌∷◌, ◌++◌, map, None, refl, true, false, lit<, true≢false, sym}
use Rattle.std.specs.List.{AllByRecursion}
use Rattle.fab_base.specs.declared.object.Tid.{Tid}
use Rattle.fab_base.specs.declared.message.Message.TheVariants.{Boot}
use Rattle.fab_net.specs.declared.event.Event.{Event}
use Rattle.fab_net.specs.declared.event.Event.TheVariants.{Deliver}
use Rattle.fab_net.specs.declared.event.Inner.TheVariants as i
use Rattle.fab_net.specs.declared.outcome.ReqOutcome.TheVariants.{Committed, NodeDown, Unfinished}
use Rattle.fab_protocol.specs.Stores.{shelf_of}
use Rattle.fab_protocol.proofs.Toy.{attempt}
use Rattle.fab_world.specs.Crashing.{IsOver}
use Rattle.fab_world.specs.Machine.{Setting, Move}
use Rattle.fab_world.specs.Serial.{world_of}
use Rattle.fab_world.specs.Workers.{kept_of}
use Rattle.fab_world.proofs.Toy.{setting, no_posts, plain, failing, is_run, transfers, until_prepare, until_applied}
use Rattle.fab_integrity.proofs.Over.{none_due, none_is_due}
use Rattle.fab_ended.specs.Ended.{AreUnmarked, IsEnded, outcomes_of}
use Rattle.fab_ended.specs.Silence.{no_lines}

abbrev first : Tid
first = attempt 0 1 1

-- worker 0 has one request, a transfer, and no other node has one
abbrev S : Setting
S = record (setting 0 1 0 no_posts (Boot 2 ∷ transfers first)) { requests = λ n. if n == 0 then 1 else 0 }

-- ---- the transfer is through

abbrev transferring : List Move
transferring = map plain (until_applied 0)

is_over : IsOver S no_lines transferring
unfolding kept_of shelf_of
is_over = none_is_due S no_lines (world_of S transferring) transferring (lit< tt) (lit< tt) refl

it_commits : outcomes_of S (world_of S transferring) 0 ≡ Committed first None ∷ []
unfolding kept_of shelf_of
it_commits = refl

it_has_ended : AllByRecursion (IsEnded transferring 0) (outcomes_of S (world_of S transferring) 0)
unfolding kept_of shelf_of
it_has_ended = (tt, tt)

all_plain : (events : List Event) → AreUnmarked (map plain events)
all_plain [] = tt
all_plain (e ∷ events) = (refl, all_plain events)

are_unmarked : AreUnmarked transferring
are_unmarked = all_plain (until_applied 0)

is_marked : AreUnmarked (failing (i.Deliver 1 0) ∷ []) → ⊥
is_marked h = true≢false h.0

-- the other worker was asked for nothing
none_of_another : outcomes_of S (world_of S transferring) 3 ≡ []
unfolding kept_of shelf_of
none_of_another = refl

-- ---- the store hasn't heard of the Prepare yet: something is due, and the request is open

abbrev preparing : List Move
preparing = map plain (until_prepare 0)

not_over : none_due S no_lines (world_of S preparing) preparing ≡ false
unfolding kept_of shelf_of
not_over = refl

it_is_open : outcomes_of S (world_of S preparing) 0 ≡ Unfinished ∷ []
unfolding kept_of shelf_of
it_is_open = refl

open_has_not_ended : AllByRecursion (IsEnded preparing 0) (outcomes_of S (world_of S preparing) 0) → ⊥
unfolding kept_of shelf_of
open_has_not_ended h = h.0

-- ---- the worker's journal fails where it decides: the run is over, and the request is down

abbrev failed : List Move
failed = map plain (until_prepare 0 ++ Deliver 0 1 ∷ []) ++ failing (i.Deliver 1 0) ∷ []

failed_is_run : is_run S failed ≡ true
unfolding kept_of shelf_of
failed_is_run = refl

failed_is_over : IsOver S no_lines failed
unfolding kept_of shelf_of
failed_is_over = none_is_due S no_lines (world_of S failed) failed (lit< tt) (lit< tt) refl

it_is_down : outcomes_of S (world_of S failed) 0 ≡ NodeDown ∷ []
unfolding kept_of shelf_of
it_is_down = refl

down_has_ended : AllByRecursion (IsEnded failed 0) (outcomes_of S (world_of S failed) 0)
unfolding kept_of shelf_of
down_has_ended = (refl, tt)

-- where the journal of another node failed, or none, no request may be told as down
not_by_another : IsEnded failed 1 NodeDown → ⊥
not_by_another h = true≢false (sym h)

not_without_mark : IsEnded transferring 0 NodeDown → ⊥
not_without_mark h = true≢false (sym h)
