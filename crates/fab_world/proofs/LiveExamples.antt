-- Which events may come while a request waits: Idle alone where a store is silent, first a post where one is left; and none
-- where a node that isn't hostile has posts, or where a worker waits for nobody.
use Rattle.std.proofs.Common.{◌≡◌, ℕ, ◌++◌, ◌==◌, if◌then◌else◌, List, [], ◌∷◌, map, pos, true, refl, sym, ap, true≢false, lit<}
use Rattle.std.specs.List.{filter, flat_map}
use Rattle.fab_base.specs.declared.message.Message.{Message}
use Rattle.fab_base.specs.declared.message.Message.TheVariants.{Object}
use Rattle.fab_net.specs.declared.event.Event.TheVariants.{Begin, Resume, Post, Idle}
use Rattle.fab_net.specs.declared.event.Inner.TheVariants as i
use Rattle.fab_rights.specs.Computed.{nodes_in}
use Rattle.fab_world.specs.Machine.{Setting, World, Move, Form, Does, Posts, at_start, at_node, enabled, is_empty}
use Rattle.fab_world.specs.Serial.{ArePosts, IsWaiting, world_of}
use Rattle.fab_world.specs.Workers.{Preparing, fresh, kept_of}
use Rattle.fab_protocol.specs.Stores.{shelf_of}
use Rattle.fab_protocol.proofs.Toy.{attempt, box, holding}
use Rattle.fab_world.proofs.Toy.{setting, no_posts, posts_of, plain, is_run}

-- ---- the ordinary events of the nodes

abbrev pub forms_between : ℕ → ℕ → List Form
forms_between n m = Does (i.Deliver n m) ∷ Does (i.Idle n m) ∷ []

abbrev pub forms_at : ℕ → List Form
forms_at n = Does (i.Begin n) ∷ Does (i.Resume n) ∷ Does (i.Recover n) ∷ Posts n ∷ []

abbrev pub forms_of : List ℕ → List Form
forms_of nodes = flat_map (λ n. forms_at n ++ flat_map (forms_between n) nodes) nodes

-- those that may come
abbrev coming : Setting → World → List Form
coming S w = filter (enabled S w) (forms_of (nodes_in S.rights))

-- ---- worker 0 wants the box of store 4, which is hostile; no other worker has a request

abbrev pub only_first : Setting → Setting
only_first S = record S { requests = λ n. if n == 0 then 1 else 0 }

abbrev fetching : List Move
fetching = map plain (Begin 0 ∷ Resume 0 ∷ [])

abbrev silent : Setting
silent = only_first (setting 3 1 0 no_posts [])

silent_is_run : is_run silent fetching ≡ true
unfolding kept_of shelf_of
silent_is_run = refl

silent_waits : IsWaiting silent (world_of silent fetching) 0
unfolding kept_of shelf_of
silent_waits = record { kind = refl; honest = refl; sound = refl; left = lit< tt }

only_idle : coming silent (world_of silent fetching) ≡ Does (i.Idle 0 4) ∷ []
unfolding kept_of shelf_of
only_idle = refl

-- behind it the session is through, and nothing may come
none_through : coming silent (world_of silent (fetching ++ plain (Idle 0 4) ∷ [])) ≡ []
unfolding kept_of shelf_of
none_through = refl

-- ---- the store has something to send, which comes before

abbrev wrong : Message
wrong = Object (attempt 0 1 1) box 1 (holding (pos 3))

abbrev posting : Setting
posting = only_first (setting 3 1 0 (posts_of 4 0 (wrong ∷ [])) (wrong ∷ []))

posting_is_run : is_run posting fetching ≡ true
unfolding kept_of shelf_of
posting_is_run = refl

first_the_post : coming posting (world_of posting fetching) ≡ Posts 4 ∷ []
unfolding kept_of shelf_of
first_the_post = refl

then_delivered : coming posting (world_of posting (fetching ++ plain (Post 4) ∷ [])) ≡ Does (i.Deliver 4 0) ∷ []
unfolding kept_of shelf_of
then_delivered = refl

-- ---- posts of store 1, which isn't hostile, are never sent, and it is never settled

abbrev stuck : Setting
stuck = only_first (setting 3 1 0 (posts_of 1 0 (wrong ∷ [])) (wrong ∷ []))

stuck_is_run : is_run stuck fetching ≡ true
unfolding kept_of shelf_of
stuck_is_run = refl

stuck_waits : IsWaiting stuck (world_of stuck fetching) 0
unfolding kept_of shelf_of
stuck_waits = record { kind = refl; honest = refl; sound = refl; left = lit< tt }

none_stuck : coming stuck (world_of stuck fetching) ≡ []
unfolding kept_of shelf_of
none_stuck = refl

are_no_posts : ArePosts stuck → ⊥
are_no_posts h = true≢false (ap (λ posts. is_empty posts) (sym (h 1 refl)))

-- ---- a worker that prepares and waits for nobody, which no run comes to

abbrev waiting_for_nobody : World
waiting_for_nobody = at_node silent (at_start silent) 0 (λ node. record node { attempt = record fresh { phase = Preparing [] } })

none_for_nobody : coming silent waiting_for_nobody ≡ []
unfolding kept_of shelf_of
none_for_nobody = refl
