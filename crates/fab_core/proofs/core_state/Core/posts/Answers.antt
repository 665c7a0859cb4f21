use Rattle.std.proofs.Common.{◌≡◌, ◌<◌, ◌∷◌, ◌++◌, [], ℕ, List, Option, Result, Err, map, length, true, false, IsTrue, sym, ap, subst, arith, ◌∙◌}
use Rattle.std.specs.Prelude.{slice_index_or, slice_set}
use Rattle.std.specs.Vec.{vec_capacity}
use Rattle.std.proofs.lemmas.Grind.{common_steps}
use Rattle.std.proofs.lemmas.Result.{err_from_is_err_and}
use Rattle.std.specs.declared.alloc.AllocError.{AllocError}
use Rattle.fab_net.specs.declared.event.Event.TheVariants as events
use Rattle.fab_net.specs.declared.note.Logged.{Logged}
use Rattle.fab_rights.specs.declared.rights.Rights.{Rights}
use Rattle.fab_rights.specs.Computed.{is_node}
use Rattle.fab_queues.specs.Channels.{queue_of}
use Rattle.fab_node.specs.Standing.{NodeModel}
use Rattle.fab_core.specs.declared.applied.Applied.{Applied}
use Rattle.fab_core.specs.declared.applied.Applied.TheVariants.{Whole}
use Rattle.fab_core.specs.Cores.{IsCore, move_of, setting, unmarked, world_by}
use Rattle.fab_core.specs.Moved.{IsMoved}
use Rattle.fab_core.specs.Places.{journals_of}
use Rattle.fab_core.specs.Posts.{left_in}
use Rattle.fab_nodes.specs.Transit.{AreSentOut, is_up_at}
use Rattle.fab_core.proofs.Filled.{none_caused}
use Rattle.fab_core.proofs.Grown.{moves_more}
use Rattle.fab_core.proofs.Moving.{enabled_in, few_in, moved_on, refused, seen}
use Rattle.fab_core.proofs.Posted.{entry_posted, none_for_it, one_left, poster_below, posts_on}
use Rattle.fab_core.proofs.Wholly.{below, lanes_grown}
use Rattle.fab_core.proofs.core_state.Core.posts.Goals as goal

pub returns-in_err-reserve : goal.returns-in_err-reserve
returns-in_err-reserve g c =
    let e = err_from_is_err_and c.from_residual.result c.from_residual.ensures.1 in
    subst (λ (r : Result Applied AllocError). IsMoved (events.Post c.args.h) r c.args.self.now (seen c.self.inside.given c.reserve.new.self.items c.self.inside.nodes.items)) (sym e.1)
    (refused c.args.self.now c.self.inside.given c.self.inside.log.items c.self.inside.nodes.items c.self.view_is (events.Post c.args.h) e.0 c.reserve.new.self.items
    c.self.inside.nodes.items c.reserve.ensures.items (none_caused c.args.h ⊥ (journals_of c.self.inside.nodes.items) (λ h. h)))

pub next_of-behind-requires-clause-here : goal.next_of-behind-requires-clause-here
next_of-behind-requires-clause-here g c =
    subst (λ (ps : List ℕ). c.args.h < length ps) (sym c.as_slice.ensures.value) (subst (λ k. c.args.h < k) (sym c.self.invariant.0.stands.senders)
    (poster_below c.self.inside.given c.self.inside.nodes.items c.self.inside.queues c.self.inside.places.items c.self.inside.log.items c.self.invariant.0 c.args.h
    (enabled_in c.args.self.now c.self.inside.given c.self.inside.log.items c.self.inside.nodes.items c.self.view_is (unmarked (events.Post c.args.h)) c.requires.enabled)))

pub next_of-behind-requires-clause-left : goal.next_of-behind-requires-clause-left
next_of-behind-requires-clause-left g c e =
    one_left c.self.inside.given c.self.inside.nodes.items c.self.inside.queues c.self.inside.places.items c.self.inside.log.items c.self.invariant.0 c.args.h
    (enabled_in c.args.self.now c.self.inside.given c.self.inside.log.items c.self.inside.nodes.items c.self.view_is (unmarked (events.Post c.args.h)) c.requires.enabled)
    (subst (λ (ps : List ℕ). left_in c.self.inside.given.program.posts (slice_index_or ps c.args.h 0) c.args.h ≡ []) c.as_slice.ensures.value e)

pub returns-in_err-bytes : goal.returns-in_err-bytes
returns-in_err-bytes g c =
    let e = err_from_is_err_and c.from_residual-in_err-bytes.result c.from_residual-in_err-bytes.ensures.1 in
    subst (λ (r : Result Applied AllocError). IsMoved (events.Post c.args.h) r c.args.self.now (seen c.self.inside.given c.reserve.new.self.items c.self.inside.nodes.items)) (sym e.1)
    (refused c.args.self.now c.self.inside.given c.self.inside.log.items c.self.inside.nodes.items c.self.view_is (events.Post c.args.h) e.0 c.reserve.new.self.items
    c.self.inside.nodes.items c.reserve.ensures.items (none_caused c.args.h ⊥ (journals_of c.self.inside.nodes.items) (λ h. h)))

pub returns-in_err-again : goal.returns-in_err-again
returns-in_err-again g c =
    let e = err_from_is_err_and c.from_residual-in_err-again.result c.from_residual-in_err-again.ensures.1 in
    subst (λ (r : Result Applied AllocError). IsMoved (events.Post c.args.h) r c.args.self.now (seen c.self.inside.given c.reserve.new.self.items c.self.inside.nodes.items)) (sym e.1)
    (refused c.args.self.now c.self.inside.given c.self.inside.log.items c.self.inside.nodes.items c.self.view_is (events.Post c.args.h) e.0 c.reserve.new.self.items
    c.self.inside.nodes.items c.reserve.ensures.items (none_caused c.args.h ⊥ (journals_of c.self.inside.nodes.items) (λ h. h)))

pub make_room_for-requires-clause-from : goal.make_room_for-requires-clause-from
make_room_for-requires-clause-from g c =
    poster_below c.self.inside.given c.self.inside.nodes.items c.self.inside.queues c.self.inside.places.items c.self.inside.log.items c.self.invariant.0 c.args.h
    (enabled_in c.args.self.now c.self.inside.given c.self.inside.log.items c.self.inside.nodes.items c.self.view_is (unmarked (events.Post c.args.h)) c.requires.enabled)

pub make_room_for-requires-clause-among : goal.make_room_for-requires-clause-among
make_room_for-requires-clause-among g c b h =
    below c.self.inside.given c.self.inside.nodes.items c.self.inside.queues c.self.inside.places.items c.self.inside.log.items c.self.invariant.0 b
    (subst (λ (r : Rights). IsTrue (is_node r b)) c.rights.ensures h)

pub invariant_of-self-in_err-make_room_for : goal.invariant_of-self-in_err-make_room_for
invariant_of-self-in_err-make_room_for g c = (
  subst (λ (l : List Logged). IsCore c.self.inside.given c.self.inside.nodes.items c.make_room_for.new.queues c.self.inside.places.items l) (sym c.reserve.ensures.items)
      (lanes_grown c.self.inside.given c.self.inside.nodes.items c.self.inside.queues c.self.inside.places.items c.self.inside.log.items c.self.invariant.0
      c.make_room_for.new.queues c.make_room_for.ensures.kept),
  c.self.invariant.1,
)

pub returns-in_err-make_room_for : goal.returns-in_err-make_room_for
returns-in_err-make_room_for g c =
    let e = err_from_is_err_and c.from_residual-in_err-make_room_for.result c.from_residual-in_err-make_room_for.ensures.1 in
    subst (λ (r : Result Applied AllocError). IsMoved (events.Post c.args.h) r c.args.self.now (seen c.self.inside.given c.reserve.new.self.items c.self.inside.nodes.items)) (sym e.1)
    (refused c.args.self.now c.self.inside.given c.self.inside.log.items c.self.inside.nodes.items c.self.view_is (events.Post c.args.h) e.0 c.reserve.new.self.items
    c.self.inside.nodes.items c.reserve.ensures.items (none_caused c.args.h ⊥ (journals_of c.self.inside.nodes.items) (λ h. h)))

pub send_one-requires-clause-from : goal.send_one-requires-clause-from
send_one-requires-clause-from g c =
    poster_below c.self.inside.given c.self.inside.nodes.items c.self.inside.queues c.self.inside.places.items c.self.inside.log.items c.self.invariant.0 c.args.h
    (enabled_in c.args.self.now c.self.inside.given c.self.inside.log.items c.self.inside.nodes.items c.self.view_is (unmarked (events.Post c.args.h)) c.requires.enabled)

pub send_one-requires-clause-among : goal.send_one-requires-clause-among
send_one-requires-clause-among g c b h =
    below c.self.inside.given c.self.inside.nodes.items c.self.inside.queues c.self.inside.places.items c.self.inside.log.items c.self.invariant.0 b
    (subst (λ (r : Rights). IsTrue (is_node r b)) c.rights-2.ensures h)

pub send_one-requires-clause-idle : goal.send_one-requires-clause-idle
send_one-requires-clause-idle g c down =
    none_for_it c.self.inside.given c.self.inside.nodes.items c.self.inside.queues c.self.inside.places.items c.self.inside.log.items c.self.invariant.0 c.args.h
    (enabled_in c.args.self.now c.self.inside.given c.self.inside.log.items c.self.inside.nodes.items c.self.view_is (unmarked (events.Post c.args.h)) c.requires.enabled)
    c.next_of-behind.result.0.now.receiver c.next_of-behind.result.0.now.bytes c.next_of-behind.result.1
    (subst (λ (ps : List ℕ). left_in c.self.inside.given.program.posts (slice_index_or ps c.args.h 0)
    c.args.h ≡ (c.next_of-behind.result.0.now.receiver, c.next_of-behind.result.0.now.bytes) ∷ left_in c.self.inside.given.program.posts c.next_of-behind.result.1 c.args.h)
    c.as_slice.ensures.value c.next_of-behind.ensures) c.make_room_for.new.queues c.make_room_for.ensures.kept
    (subst (λ (ns : List (Option NodeModel)). is_up_at ns c.next_of-behind.result.0.now.receiver ≡ false) c.as_slice-4.ensures.value down)

pub index_mut-requires : goal.index_mut-requires
index_mut-requires g c =
    let below : c.args.h < 64 = poster_below c.self.inside.given c.self.inside.nodes.items c.self.inside.queues c.self.inside.places.items c.self.inside.log.items
    c.self.invariant.0 c.args.h (enabled_in c.args.self.now c.self.inside.given c.self.inside.log.items c.self.inside.nodes.items c.self.view_is (unmarked (events.Post c.args.h))
    c.requires.enabled) in
    let long : length c.self.inside.places.items ≡ 64 = c.self.invariant.0.stands.senders in
    let at : c.from.result ≡ c.args.h = c.from.ensures in
    grind (arith, common_steps)

pub invariant_of-self-2 : goal.invariant_of-self-2
invariant_of-self-2 g c = (
  subst (λ (l : List Logged). IsCore c.self.inside.given c.self.inside.nodes.items c.send_one.new.queues
      (slice_set c.self.inside.places.items c.from.result c.next_of-behind.result.1) l)
      (sym (c.note.ensures ∙ (λ j. c.reserve.ensures.items j ++ record {
        event = events.Post
            c.args.h;
        bytes = (c.in_ok-again.ensures ∙ c.as_slice-3.ensures) j;
        notes = c.new.ensures j;
        whole = true;
        marked = false;
      } ∷ [])))
      (subst (λ k. IsCore c.self.inside.given c.self.inside.nodes.items c.send_one.new.queues (slice_set c.self.inside.places.items k c.next_of-behind.result.1)
      (c.self.inside.log.items ++ (record { event = events.Post c.args.h; bytes = c.next_of-behind.result.0.now.bytes; notes = []; whole = true; marked = false }) ∷ []))
      (sym c.from.ensures) (posts_on c.self.inside.given c.self.inside.nodes.items c.self.inside.queues c.self.inside.places.items c.self.inside.log.items c.self.invariant.0
      c.args.h (enabled_in c.args.self.now c.self.inside.given c.self.inside.log.items c.self.inside.nodes.items c.self.view_is (unmarked (events.Post c.args.h))
      c.requires.enabled) c.next_of-behind.result.0.now.receiver c.next_of-behind.result.0.now.bytes c.next_of-behind.result.1
      (subst (λ (ps : List ℕ). left_in c.self.inside.given.program.posts (slice_index_or ps c.args.h 0)
      c.args.h ≡ (c.next_of-behind.result.0.now.receiver, c.next_of-behind.result.0.now.bytes) ∷ left_in c.self.inside.given.program.posts c.next_of-behind.result.1 c.args.h)
      c.as_slice.ensures.value c.next_of-behind.ensures) c.make_room_for.new.queues c.make_room_for.ensures.kept c.send_one.new.queues
      (subst (λ (r : Rights). AreSentOut r (is_up_at c.self.inside.nodes.items) c.args.h ((c.next_of-behind.result.0.now.receiver, c.next_of-behind.result.0.now.bytes) ∷ [])
      c.make_room_for.new.queues c.send_one.new.queues) c.rights-2.ensures
      (subst (λ (ns : List (Option NodeModel)). AreSentOut c.rights-2.result.now (is_up_at ns) c.args.h
      ((c.next_of-behind.result.0.now.receiver, c.next_of-behind.result.0.now.bytes) ∷ []) c.make_room_for.new.queues c.send_one.new.queues) c.as_slice-4.ensures.value
      (subst (λ (bs : List ℕ). AreSentOut c.rights-2.result.now (is_up_at c.as_slice-4.result.now) c.args.h ((c.next_of-behind.result.0.now.receiver, bs) ∷ [])
      c.make_room_for.new.queues c.send_one.new.queues) (c.in_ok-bytes.ensures ∙ c.as_slice-2.ensures) c.send_one.ensures.sent)))
      (few_in c.args.self.now c.self.inside.given c.self.inside.log.items c.self.inside.nodes.items c.self.view_is c.requires.few))),
  c.self.invariant.1,
)

pub returns : goal.returns
returns g c =
    moved_on c.args.self.now c.self.inside.given c.self.inside.log.items c.self.inside.nodes.items c.self.view_is (events.Post c.args.h) Whole c.note.new.log.items c.self.inside.nodes.items
    (ap (map move_of) (c.note.ensures ∙ (λ j. c.reserve.ensures.items j ++ record {
      event = events.Post
          c.args.h;
      bytes = (c.in_ok-again.ensures ∙ c.as_slice-3.ensures) j;
      notes = c.new.ensures j;
      whole = true;
      marked = false;
    } ∷ [])) ∙ moves_more (setting c.self.inside.given)
    (world_by c.self.inside.given (map move_of c.self.inside.log.items)) c.self.inside.log.items (unmarked (events.Post c.args.h))
    (record { event = events.Post c.args.h; bytes = c.next_of-behind.result.0.now.bytes; notes = []; whole = true; marked = false })
    (entry_posted c.self.inside.given c.self.inside.nodes.items c.self.inside.queues c.self.inside.places.items c.self.inside.log.items c.self.invariant.0 c.args.h
    (enabled_in c.args.self.now c.self.inside.given c.self.inside.log.items c.self.inside.nodes.items c.self.view_is (unmarked (events.Post c.args.h)) c.requires.enabled)
    c.next_of-behind.result.0.now.receiver c.next_of-behind.result.0.now.bytes c.next_of-behind.result.1
    (subst (λ (ps : List ℕ). left_in c.self.inside.given.program.posts (slice_index_or ps c.args.h 0)
    c.args.h ≡ (c.next_of-behind.result.0.now.receiver, c.next_of-behind.result.0.now.bytes) ∷ left_in c.self.inside.given.program.posts c.next_of-behind.result.1 c.args.h)
    c.as_slice.ensures.value c.next_of-behind.ensures) c.make_room_for.new.queues c.make_room_for.ensures.kept c.send_one.new.queues
    (subst (λ (r : Rights). AreSentOut r (is_up_at c.self.inside.nodes.items) c.args.h ((c.next_of-behind.result.0.now.receiver, c.next_of-behind.result.0.now.bytes) ∷ [])
    c.make_room_for.new.queues c.send_one.new.queues) c.rights-2.ensures
    (subst (λ (ns : List (Option NodeModel)). AreSentOut c.rights-2.result.now (is_up_at ns) c.args.h
    ((c.next_of-behind.result.0.now.receiver, c.next_of-behind.result.0.now.bytes) ∷ []) c.make_room_for.new.queues c.send_one.new.queues) c.as_slice-4.ensures.value
    (subst (λ (bs : List ℕ). AreSentOut c.rights-2.result.now (is_up_at c.as_slice-4.result.now) c.args.h ((c.next_of-behind.result.0.now.receiver, bs) ∷ [])
    c.make_room_for.new.queues c.send_one.new.queues) (c.in_ok-bytes.ensures ∙ c.as_slice-2.ensures) c.send_one.ensures.sent)))))
    (none_caused c.args.h ⊥ (journals_of c.self.inside.nodes.items) (λ h. h))
