-- When a worker may give up waiting: not while another one that is up evaluates, nor while an honest node is down that may come back.
use Rattle.std.proofs.Common.{◌≡◌, Bool, List, [], ◌∷◌, ◌++◌, map, true, false, refl}
use Rattle.fab_base.specs.declared.message.Message.TheVariants.{Boot}
use Rattle.fab_net.specs.declared.event.Event.{Event}
use Rattle.fab_net.specs.declared.event.Event.TheVariants.{Begin, Resume, Deliver, Idle, Crash, Recover}
use Rattle.fab_net.specs.declared.event.Inner.TheVariants as i
use Rattle.fab_protocol.specs.Stores.{shelf_of}
use Rattle.fab_world.specs.Machine.{Setting, Move, Does, enabled, failure}
use Rattle.fab_world.specs.Serial.{world_of}
use Rattle.fab_world.specs.Workers.{kept_of}
use Rattle.fab_world.proofs.Toy.{setting, no_posts, plain, is_run}

-- workers 0 and 3 want the box of store 4, which is hostile and silent
abbrev S : Setting
S = setting 3 1 0 no_posts (Boot 2 ∷ [])

-- worker 0 waits, and these follow
abbrev then : List Event → List Move
then events = map plain (Begin 0 ∷ Resume 0 ∷ events)

abbrev gives_up : List Move → Bool
gives_up moves = enabled S (world_of S moves) (Does (i.Idle 0 4))

abbrev comes_back : List Event
comes_back = Begin 3 ∷ Crash 3 ∷ Recover 3 ∷ []

-- ---- another worker

evaluating_is_run : is_run S (then (Begin 3 ∷ Resume 3 ∷ Idle 0 4 ∷ [])) ≡ true
unfolding kept_of shelf_of
evaluating_is_run = refl

not_while_one_evaluates : gives_up (then (Begin 3 ∷ [])) ≡ false
unfolding kept_of shelf_of
not_while_one_evaluates = refl

-- one that waits, as this one does
while_one_waits : gives_up (then (Begin 3 ∷ Resume 3 ∷ [])) ≡ true
unfolding kept_of shelf_of
while_one_waits = refl

not_while_one_is_down : gives_up (then (Begin 3 ∷ Crash 3 ∷ [])) ≡ false
unfolding kept_of shelf_of
not_while_one_is_down = refl

-- it is back, and has told store 1 its boot, which has to hear it first
not_while_a_boot_waits : gives_up (then comes_back) ≡ false
unfolding kept_of shelf_of
not_while_a_boot_waits = refl

back_is_run : is_run S (then (comes_back ++ Deliver 3 1 ∷ Idle 0 4 ∷ [])) ≡ true
unfolding kept_of shelf_of
back_is_run = refl

once_it_is_back : gives_up (then (comes_back ++ Deliver 3 1 ∷ [])) ≡ true
unfolding kept_of shelf_of
once_it_is_back = refl

abbrev other_lost : List Move
other_lost = then (Begin 3 ∷ Crash 3 ∷ []) ++ failure (i.Recover 3) ∷ []

other_lost_is_run : is_run S other_lost ≡ true
unfolding kept_of shelf_of
other_lost_is_run = refl

-- one that has failed for good isn't waited for, though it was evaluating
once_it_has_failed : gives_up other_lost ≡ true
unfolding kept_of shelf_of
once_it_has_failed = refl

-- ---- an honest store

not_while_store_is_down : gives_up (then (Crash 1 ∷ [])) ≡ false
unfolding kept_of shelf_of
not_while_store_is_down = refl

store_back_is_run : is_run S (then (Crash 1 ∷ Recover 1 ∷ Idle 0 4 ∷ [])) ≡ true
unfolding kept_of shelf_of
store_back_is_run = refl

once_store_is_back : gives_up (then (Crash 1 ∷ Recover 1 ∷ [])) ≡ true
unfolding kept_of shelf_of
once_store_is_back = refl

abbrev store_lost : List Move
store_lost = then (Crash 1 ∷ []) ++ failure (i.Recover 1) ∷ []

store_lost_is_run : is_run S store_lost ≡ true
unfolding kept_of shelf_of
store_lost_is_run = refl

once_store_has_failed : gives_up store_lost ≡ true
unfolding kept_of shelf_of
once_store_has_failed = refl
