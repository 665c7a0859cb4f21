-- When a worker may give up: never where all nodes are up and none is hostile; and behind a crash, a failed journal or at a hostile store.
use Rattle.std.proofs.Common.{◌≡◌, ℕ, ◌==◌, if◌then◌else◌, Bool, not, List, [], ◌∷◌, ◌++◌, map, None, refl, true, false, true≢false, take}
use Rattle.std.specs.List.{list_all}
use Rattle.fab_base.specs.declared.object.Tid.{Tid}
use Rattle.fab_base.specs.declared.message.Message.TheVariants.{Boot}
use Rattle.fab_net.specs.declared.event.Event.{Event}
use Rattle.fab_net.specs.declared.event.Event.TheVariants.{Begin, Resume, Deliver, Idle, Crash, Recover}
use Rattle.fab_net.specs.declared.event.Inner.TheVariants as i
use Rattle.fab_net.specs.declared.outcome.ReqOutcome.TheVariants.{Silent}
use Rattle.fab_protocol.specs.Stores.{shelf_of}
use Rattle.fab_protocol.proofs.Toy.{attempt}
use Rattle.fab_world.specs.Crashing.{CrashLine, KeepsLines, keeps_lines}
use Rattle.fab_world.specs.Machine.{Setting, Move, at_start, may, outcome}
use Rattle.fab_world.specs.Serial.{world_of}
use Rattle.fab_world.specs.Workers.{kept_of}
use Rattle.fab_world.proofs.Toy.{setting, no_posts, plain, failing, is_run, transfers, until_prepare, until_applied}
use Rattle.fab_ended.specs.Ended.{AreUnmarked}
use Rattle.fab_ended.specs.Silence.{IsCalm, NoneIsHostile, no_lines}

abbrev first : Tid
first = attempt 0 1 1

-- worker 0 has one request, a transfer at store 1, and no node is hostile
abbrev S : Setting
S = record (setting 0 1 0 no_posts (Boot 2 ∷ transfers first)) { requests = λ n. if n == 0 then 1 else 0; hostile = λ n. false }

none_is_hostile : NoneIsHostile S
none_is_hostile n = refl

-- ---- the transfer: at no point may the worker give up waiting for the store

abbrev waits_behind : ℕ → Bool
waits_behind k = not (may S (world_of S (map plain (take k (until_applied 0)))) (i.Idle 0 1))

it_never_gives_up : list_all waits_behind (0 ∷ 1 ∷ 2 ∷ 3 ∷ 4 ∷ 5 ∷ 6 ∷ 7 ∷ 8 ∷ 9 ∷ 10 ∷ 11 ∷ []) ≡ true
unfolding kept_of shelf_of
it_never_gives_up = refl

transfer_is_kept : KeepsLines S no_lines (map plain (until_applied 0))
unfolding kept_of shelf_of
transfer_is_kept = refl

transfer_is_calm : IsCalm (map plain (until_applied 0))
transfer_is_calm = (tt, (tt, (tt, (tt, (tt, (tt, (tt, (tt, (tt, (tt, (tt, tt)))))))))))

-- ---- the store crashes by a line, and forgets the Fetch that waited for it

abbrev at_once : ℕ → List CrashLine
at_once n = if n == 1 then record { after = 0; keep = None } ∷ [] else []

abbrev forgetting : List Event
forgetting = Begin 0 ∷ Resume 0 ∷ Crash 1 ∷ Recover 1 ∷ []

abbrev forgotten : List Move
forgotten = map plain (forgetting ++ Idle 0 1 ∷ [])

forgotten_is_kept : KeepsLines S at_once forgotten
unfolding kept_of shelf_of
forgotten_is_kept = refl

then_it_gives_up : outcome S (world_of S forgotten) 0 1 ≡ Silent 1
unfolding kept_of shelf_of
then_it_gives_up = refl

-- that is no calm run, and none without crash lines
forgotten_is_not_calm : IsCalm forgotten → ⊥
forgotten_is_not_calm h = h.1.1.0

no_crash_without_line : keeps_lines S no_lines (at_start S) [] forgotten ≡ false
unfolding kept_of shelf_of
no_crash_without_line = refl

-- ---- the store's journal fails where it would vote, so it is gone for good

abbrev unheard : List Move
unheard = map plain (until_prepare 0) ++ failing (i.Deliver 0 1) ∷ plain (Idle 0 1) ∷ []

unheard_is_kept : KeepsLines S no_lines unheard
unfolding kept_of shelf_of
unheard_is_kept = refl

then_it_gives_up_too : outcome S (world_of S unheard) 0 1 ≡ Silent 1
unfolding kept_of shelf_of
then_it_gives_up_too = refl

unheard_is_marked : AreUnmarked unheard → ⊥
unheard_is_marked h = true≢false h.1.1.1.1.1.1.1.1.0

-- ---- a hostile store says nothing, in a calm run

abbrev Q : Setting
Q = record (setting 3 1 0 no_posts []) { requests = λ n. if n == 0 then 1 else 0 }

abbrev unanswered : List Move
unanswered = map plain (Begin 0 ∷ Resume 0 ∷ Idle 0 4 ∷ [])

unanswered_is_run : is_run Q unanswered ≡ true
unfolding kept_of shelf_of
unanswered_is_run = refl

unanswered_is_calm : IsCalm unanswered
unanswered_is_calm = (tt, (tt, (tt, tt)))

it_is_silent : outcome Q (world_of Q unanswered) 0 1 ≡ Silent 4
unfolding kept_of shelf_of
it_is_silent = refl

one_is_hostile : NoneIsHostile Q → ⊥
one_is_hostile h = true≢false (h 4)

-- ---- a store that can't read what it is asked: that bytes are read as the message that they spell is needed, too

abbrev D : Setting
D = record S { read = λ bytes. None }

unread_is_run : is_run D (map plain (Begin 0 ∷ Resume 0 ∷ Deliver 0 1 ∷ Idle 0 1 ∷ [])) ≡ true
unfolding kept_of shelf_of
unread_is_run = refl
