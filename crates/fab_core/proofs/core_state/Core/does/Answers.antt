use Rattle.std.proofs.Common.{◌≡◌, ◌<◌, ◌≤◌, ◌∷◌, ◌++◌, [], ℕ, List, Option, Result, Ok, Err, map, length, true, false, IsTrue, sym, ap, subst, refl, ◌∙◌}
use Rattle.std.specs.Option.{option_copied}
use Rattle.std.specs.Vec.{vec_capacity}
use Rattle.fab_net.specs.declared.event.Event.TheVariants as events
use Rattle.fab_net.specs.declared.note.Logged.{Logged}
use Rattle.fab_rights.specs.declared.rights.Rights.{Rights}
use Rattle.fab_rights.specs.Computed.{is_node}
use Rattle.fab_queues.specs.Channels.{queue_of, spare_of}
use Rattle.fab_world.specs.Machine.{node_of}
use Rattle.fab_node.specs.Standing.{NodeModel}
use Rattle.std.proofs.lemmas.Result.{err_from_is_err_and}
use Rattle.std.specs.declared.alloc.AllocError.{AllocError}
use Rattle.fab_core.specs.declared.applied.Applied.{Applied}
use Rattle.fab_core.specs.declared.applied.Applied.TheVariants.{Cut, Whole}
use Rattle.fab_core.specs.Cores.{IsCore, marked, move_of, setting, unmarked, world_by}
use Rattle.fab_net.specs.Events.{uncut}
use Rattle.fab_core.specs.Moved.{IsMoved, IsCaused}
use Rattle.fab_core.specs.Places.{IsDoneAt, IsFailedAt, journals_of}
use Rattle.fab_nodes.specs.Transit.{AreSentOut, bytes_to, is_up_at}
use Rattle.fab_core.proofs.Fallen.{IsDropped}
use Rattle.fab_core.proofs.Filled.{none_caused}
use Rattle.fab_core.proofs.Grown.{moves_more}
use Rattle.fab_core.proofs.Moving.{cause_as, done_in, few_in, may_in, moved_on, node_is, places_kept, refused, seen}
use Rattle.fab_core.proofs.Wholly.{among_by, below, entry_lost, entry_whole, idle_by, lost, may_at, own_below, still, waiting_by, whole}
use Rattle.fab_core.proofs.core_state.Core.does.Goals as goal

pub bytes_of-requires : goal.bytes_of-requires
bytes_of-requires g c =
    among_by c.self.inside.given c.self.inside.nodes.items c.self.inside.queues c.self.inside.places.items c.self.inside.log.items c.self.invariant.0 c.args.inner
    (may_in c.args.self.now c.self.inside.given c.self.inside.log.items c.self.inside.nodes.items c.self.view_is c.args.inner c.requires.enabled) c.self.inside.queues
    c.self.invariant.0.stands.lanes

pub returns-in_err-bytes : goal.returns-in_err-bytes
returns-in_err-bytes g c =
    let e = err_from_is_err_and c.from_residual-in_err-bytes.result c.from_residual-in_err-bytes.ensures.1 in
    subst (λ (r : Result Applied AllocError). IsMoved (uncut c.args.inner) r c.args.self.now (seen c.self.inside.given c.reserve.new.self.items c.self.inside.nodes.items)) (sym e.1)
    (refused c.args.self.now c.self.inside.given c.self.inside.log.items c.self.inside.nodes.items c.self.view_is (uncut c.args.inner) e.0 c.reserve.new.self.items
    c.self.inside.nodes.items c.reserve.ensures.items (none_caused _ ⊥ (journals_of c.self.inside.nodes.items) (λ h. h)))

pub act_at-requires-clause-may : goal.act_at-requires-clause-may
act_at-requires-clause-may g c =
    may_at c.self.inside.given c.self.inside.nodes.items c.self.inside.queues c.self.inside.places.items c.self.inside.log.items c.self.invariant.0 c.args.inner
    (may_in c.args.self.now c.self.inside.given c.self.inside.log.items c.self.inside.nodes.items c.self.view_is c.args.inner c.requires.enabled) (option_copied c.args.done)
    (done_in c.args.self.now c.self.inside.given c.self.inside.log.items c.self.inside.nodes.items c.self.view_is c.args.inner (option_copied c.args.done) c.requires.done)
    (few_in c.args.self.now c.self.inside.given c.self.inside.log.items c.self.inside.nodes.items c.self.view_is c.requires.few)

pub act_at-requires-clause-from : goal.act_at-requires-clause-from
act_at-requires-clause-from g c =
    own_below c.self.inside.given c.self.inside.nodes.items c.self.inside.queues c.self.inside.places.items c.self.inside.log.items c.self.invariant.0 c.args.inner
    (may_in c.args.self.now c.self.inside.given c.self.inside.log.items c.self.inside.nodes.items c.self.view_is c.args.inner c.requires.enabled)

pub take_front-requires-clause-among : goal.take_front-requires-clause-among
take_front-requires-clause-among g c =
    among_by c.self.inside.given c.self.inside.nodes.items c.self.inside.queues c.self.inside.places.items c.self.inside.log.items c.self.invariant.0 c.args.inner
    (may_in c.args.self.now c.self.inside.given c.self.inside.log.items c.self.inside.nodes.items c.self.view_is c.args.inner c.requires.enabled) c.act_at.new.queues
    (c.act_at.ensures.queues.lanes ∙ c.self.invariant.0.stands.lanes)

pub take_front-requires-clause-waiting : goal.take_front-requires-clause-waiting
take_front-requires-clause-waiting g c =
    waiting_by c.self.inside.given c.self.inside.nodes.items c.self.inside.queues c.self.inside.places.items c.self.inside.log.items c.self.invariant.0 c.args.inner
    (may_in c.args.self.now c.self.inside.given c.self.inside.log.items c.self.inside.nodes.items c.self.view_is c.args.inner c.requires.enabled) c.act_at.new.queues
    c.act_at.ensures.queues.queue

pub send-requires-clause-among : goal.send-requires-clause-among
send-requires-clause-among g c b h =
    below c.self.inside.given c.self.inside.nodes.items c.self.inside.queues c.self.inside.places.items c.self.inside.log.items c.self.invariant.0 b
    (subst (λ (r : Rights). IsTrue (is_node r b)) c.rights.ensures h)

pub send-requires-clause-room : goal.send-requires-clause-room
send-requires-clause-room g c b p =
    subst (λ k. length (bytes_to b c.in-Ok.step.sends) ≤ k) (sym (c.take_front.ensures.spare c.node_of.result b))
    (subst (λ k. length (bytes_to b c.in-Ok.step.sends) ≤ spare_of c.act_at.new.queues k b) (sym c.node_of.ensures) (c.in-Ok.ensures.room b p))

pub send-requires-clause-idle : goal.send-requires-clause-idle
send-requires-clause-idle g c b down =
    subst (λ k. queue_of c.take_front.new.queues k b ≡ []) (sym c.node_of.ensures)
    (idle_by c.self.inside.given c.self.inside.nodes.items c.self.inside.queues c.self.inside.places.items c.self.inside.log.items c.self.invariant.0 c.args.inner
    (may_in c.args.self.now c.self.inside.given c.self.inside.log.items c.self.inside.nodes.items c.self.view_is c.args.inner c.requires.enabled)
    (few_in c.args.self.now c.self.inside.given c.self.inside.log.items c.self.inside.nodes.items c.self.view_is c.requires.few) c.in_ok-bytes.bytes c.in_ok-bytes.ensures
    c.act_at.new.nodes.items c.act_at.ensures.others c.in-Ok.step (subst (λ (bs : List ℕ). IsDoneAt c.self.inside.given c.args.inner bs c.self.inside.nodes.items
    c.act_at.new.nodes.items c.in-Ok.step) c.as_slice.ensures c.in-Ok.ensures.done) c.act_at.new.queues c.take_front.new.queues c.act_at.ensures.queues c.take_front.ensures.sent
    c.take_front.ensures.queue b (subst (λ (ns : List (Option NodeModel)). is_up_at ns b ≡ false) c.as_slice-in-Ok.ensures.value down))

pub invariant_of-self-in-Ok : goal.invariant_of-self-in-Ok
invariant_of-self-in-Ok g c = (
  subst (λ (l : List Logged). IsCore c.self.inside.given c.act_at.new.nodes.items c.send.new.queues c.self.inside.places.items l)
      (sym (c.note.ensures ∙
      (λ j. c.reserve.ensures.items j ++ c.whole_in.ensures j ∷ [])))
      (whole c.self.inside.given c.self.inside.nodes.items c.self.inside.queues c.self.inside.places.items c.self.inside.log.items c.self.invariant.0 c.args.inner
      (may_in c.args.self.now c.self.inside.given c.self.inside.log.items c.self.inside.nodes.items c.self.view_is c.args.inner c.requires.enabled)
      (few_in c.args.self.now c.self.inside.given c.self.inside.log.items c.self.inside.nodes.items c.self.view_is c.requires.few) c.in_ok-bytes.bytes c.in_ok-bytes.ensures
      c.act_at.new.nodes.items c.act_at.ensures.others c.in-Ok.step (subst (λ (bs : List ℕ). IsDoneAt c.self.inside.given c.args.inner bs c.self.inside.nodes.items
      c.act_at.new.nodes.items c.in-Ok.step) c.as_slice.ensures c.in-Ok.ensures.done) c.act_at.new.queues c.take_front.new.queues c.act_at.ensures.queues c.take_front.ensures.sent
      c.take_front.ensures.queue c.send.new.queues c.take_front.ensures.lanes (subst
      (λ (r : Rights). AreSentOut r (is_up_at c.act_at.new.nodes.items) (node_of c.args.inner) c.in-Ok.step.sends c.take_front.new.queues c.send.new.queues) c.rights.ensures
      (subst (λ (ns : List (Option NodeModel)). AreSentOut c.rights.result.now (is_up_at ns) (node_of c.args.inner) c.in-Ok.step.sends c.take_front.new.queues c.send.new.queues)
      c.as_slice-in-Ok.ensures.value
      (subst (λ k. AreSentOut c.rights.result.now (is_up_at c.as_slice-in-Ok.result.now) k c.in-Ok.step.sends c.take_front.new.queues c.send.new.queues) c.node_of.ensures c.send.ensures)))),
  places_kept (node_of c.args.inner) c.self.inside.nodes.items c.act_at.new.nodes.items (length c.self.inside.spare.items) (vec_capacity c.self.inside.spare)
      c.act_at.ensures.others c.self.invariant.1,
)

pub returns-in-Ok : goal.returns-in-Ok
returns-in-Ok g c =
    moved_on c.args.self.now c.self.inside.given c.self.inside.log.items c.self.inside.nodes.items c.self.view_is (uncut c.args.inner) Whole c.note.new.log.items c.act_at.new.nodes.items
    (ap (map move_of) (c.note.ensures ∙
    (λ j. c.reserve.ensures.items j ++ c.whole_in.ensures j ∷ []))
    ∙ moves_more (setting c.self.inside.given) (world_by c.self.inside.given (map move_of c.self.inside.log.items)) c.self.inside.log.items (unmarked (uncut c.args.inner))
    (record { event = uncut c.args.inner; bytes = c.in_ok-bytes.bytes; notes = c.in-Ok.step.notes; whole = true; marked = false })
    (entry_whole c.self.inside.given c.self.inside.nodes.items c.self.inside.queues c.self.inside.places.items c.self.inside.log.items c.self.invariant.0 c.args.inner
    (may_in c.args.self.now c.self.inside.given c.self.inside.log.items c.self.inside.nodes.items c.self.view_is c.args.inner c.requires.enabled)
    (few_in c.args.self.now c.self.inside.given c.self.inside.log.items c.self.inside.nodes.items c.self.view_is c.requires.few) c.in_ok-bytes.bytes c.in_ok-bytes.ensures
    c.act_at.new.nodes.items c.act_at.ensures.others c.in-Ok.step (subst (λ (bs : List ℕ). IsDoneAt c.self.inside.given c.args.inner bs c.self.inside.nodes.items
    c.act_at.new.nodes.items c.in-Ok.step) c.as_slice.ensures c.in-Ok.ensures.done) c.act_at.new.queues c.take_front.new.queues c.act_at.ensures.queues c.take_front.ensures.sent
    c.take_front.ensures.queue))
    (subst (λ (k : ℕ). IsCaused k ⊥ (journals_of c.self.inside.nodes.items) (journals_of c.act_at.new.nodes.items)) (sym (node_is c.args.inner))
    (cause_as (node_of c.args.inner) _ ⊥ (journals_of c.self.inside.nodes.items) (journals_of c.act_at.new.nodes.items) (λ h. absurd h) (λ h. absurd (cc h)) c.in-Ok.ensures.cause))

pub invariant_of-self-in-Memory-1 : goal.invariant_of-self-in-Memory-1
invariant_of-self-in-Memory-1 g c = (
  subst (λ (l : List Logged). IsCore c.self.inside.given c.act_at.new.nodes.items c.act_at.new.queues c.self.inside.places.items l) (sym c.reserve.ensures.items)
      (still c.self.inside.given c.self.inside.nodes.items c.self.inside.queues c.self.inside.places.items c.self.inside.log.items c.self.invariant.0 c.args.inner
      (may_in c.args.self.now c.self.inside.given c.self.inside.log.items c.self.inside.nodes.items c.self.view_is c.args.inner c.requires.enabled) c.act_at.new.nodes.items
      c.act_at.ensures.others (c.in-Err-Memory.ensures.memory (ap Err c.in-Err-Memory.field-0-is)) c.act_at.new.queues c.act_at.ensures.queues),
  places_kept (node_of c.args.inner) c.self.inside.nodes.items c.act_at.new.nodes.items (length c.self.inside.spare.items) (vec_capacity c.self.inside.spare)
      c.act_at.ensures.others c.self.invariant.1,
)

pub returns-in-Err-Memory : goal.returns-in-Err-Memory
returns-in-Err-Memory g c =
    refused c.args.self.now c.self.inside.given c.self.inside.log.items c.self.inside.nodes.items c.self.view_is (uncut c.args.inner) _ c.reserve.new.self.items
    c.act_at.new.nodes.items c.reserve.ensures.items
    (subst (λ (k : ℕ). IsCaused k ⊥ (journals_of c.self.inside.nodes.items) (journals_of c.act_at.new.nodes.items)) (sym (node_is c.args.inner))
    (cause_as (node_of c.args.inner) _ ⊥ (journals_of c.self.inside.nodes.items) (journals_of c.act_at.new.nodes.items) (λ h. absurd h)
    (λ h. absurd (cc (h, c.in-Err-Memory.field-0-is))) c.in-Err-Memory.ensures.cause))

pub drop_to-requires : goal.drop_to-requires
drop_to-requires g c =
    subst (λ k. k < c.act_at.new.queues.nodes) (sym c.node_of-in-Err-Failed.ensures)
    (subst (λ k. node_of c.args.inner < k) (sym (c.act_at.ensures.queues.lanes ∙ c.self.invariant.0.stands.lanes))
    (own_below c.self.inside.given c.self.inside.nodes.items c.self.inside.queues c.self.inside.places.items c.self.inside.log.items c.self.invariant.0 c.args.inner
    (may_in c.args.self.now c.self.inside.given c.self.inside.log.items c.self.inside.nodes.items c.self.view_is c.args.inner c.requires.enabled)))

pub invariant_of-self-in-Err-Failed : goal.invariant_of-self-in-Err-Failed
invariant_of-self-in-Err-Failed g c = (
  subst (λ (l : List Logged). IsCore c.self.inside.given c.act_at.new.nodes.items c.drop_to.new.self c.self.inside.places.items l)
      (sym (c.note-in-Err-Failed.ensures ∙ (λ j. c.reserve.ensures.items j ++ c.failed_in.ensures j ∷ [])))
      (lost c.self.inside.given c.self.inside.nodes.items c.self.inside.queues c.self.inside.places.items c.self.inside.log.items c.self.invariant.0 c.args.inner
      (may_in c.args.self.now c.self.inside.given c.self.inside.log.items c.self.inside.nodes.items c.self.view_is c.args.inner c.requires.enabled)
      (few_in c.args.self.now c.self.inside.given c.self.inside.log.items c.self.inside.nodes.items c.self.view_is c.requires.few) c.in_ok-bytes.bytes c.in_ok-bytes.ensures
      c.act_at.new.nodes.items c.act_at.ensures.others c.act_at.new.queues c.drop_to.new.self c.act_at.ensures.queues
      (subst (λ k. IsDropped k c.act_at.new.queues c.drop_to.new.self) c.node_of-in-Err-Failed.ensures
      (record { lanes = c.drop_to.ensures.nodes; sent = c.drop_to.ensures.sent; queue = c.drop_to.ensures.queue }))
      (subst (λ (bs : List ℕ). IsFailedAt c.self.inside.given c.args.inner bs c.self.inside.nodes.items c.act_at.new.nodes.items) c.as_slice.ensures
      (c.in-Err-Failed.ensures.failed (ap Err c.in-Err-Failed.field-0-is)))),
  places_kept (node_of c.args.inner) c.self.inside.nodes.items c.act_at.new.nodes.items (length c.self.inside.spare.items) (vec_capacity c.self.inside.spare)
      c.act_at.ensures.others c.self.invariant.1,
)

pub returns-in-Err-Failed : goal.returns-in-Err-Failed
returns-in-Err-Failed g c =
    moved_on c.args.self.now c.self.inside.given c.self.inside.log.items c.self.inside.nodes.items c.self.view_is (uncut c.args.inner) Cut c.note-in-Err-Failed.new.log.items
    c.act_at.new.nodes.items
    (ap (map move_of) (c.note-in-Err-Failed.ensures ∙ (λ j. c.reserve.ensures.items j ++ c.failed_in.ensures j ∷ [])) ∙ moves_more (setting c.self.inside.given)
    (world_by c.self.inside.given (map move_of c.self.inside.log.items)) c.self.inside.log.items (marked (uncut c.args.inner))
    (record { event = events.CrashIn 0 c.args.inner; bytes = c.in_ok-bytes.bytes; notes = []; whole = false; marked = true })
    (entry_lost c.self.inside.given c.self.inside.nodes.items c.self.inside.queues c.self.inside.places.items c.self.inside.log.items c.self.invariant.0 c.args.inner
    (may_in c.args.self.now c.self.inside.given c.self.inside.log.items c.self.inside.nodes.items c.self.view_is c.args.inner c.requires.enabled)
    (few_in c.args.self.now c.self.inside.given c.self.inside.log.items c.self.inside.nodes.items c.self.view_is c.requires.few) c.in_ok-bytes.bytes c.in_ok-bytes.ensures
    c.act_at.new.nodes.items c.act_at.ensures.others))
    (subst (λ (k : ℕ). IsCaused k (Unit {0}) (journals_of c.self.inside.nodes.items) (journals_of c.act_at.new.nodes.items)) (sym (node_is c.args.inner))
    (cause_as (node_of c.args.inner) _ (Unit {0}) (journals_of c.self.inside.nodes.items) (journals_of c.act_at.new.nodes.items) (λ h. ap Err c.in-Err-Failed.field-0-is) (λ h. tt)
    c.in-Err-Failed.ensures.cause))
