use Rattle.std.proofs.Common.{◌≡◌, ◌<◌, ◌≤◌, ◌∷◌, ◌++◌, [], ℕ, List, Option, Result, Ok, Err, map, length, true, false, sym, ap, subst, refl, ◌∙◌}
use Rattle.std.specs.Prelude.{is_some}
use Rattle.std.specs.Option.{option_copied}
use Rattle.std.specs.Vec.{vec_capacity}
use Rattle.fab_net.specs.declared.event.Event.TheVariants as events
use Rattle.fab_net.specs.declared.note.Logged.{Logged}
use Rattle.fab_world.specs.Machine.{node_of}
use Rattle.std.proofs.lemmas.Result.{err_from_is_err_and}
use Rattle.std.specs.declared.alloc.AllocError.{AllocError}
use Rattle.fab_core.specs.declared.applied.Applied.{Applied}
use Rattle.fab_core.specs.declared.applied.Applied.TheVariants.{Cut, Whole}
use Rattle.fab_nodes.specs.Acts.{notes_in}
use Rattle.fab_core.specs.Cores.{IsCore, marked, move_of, setting, unmarked, world_by}
use Rattle.fab_core.specs.Moved.{IsMoved}
use Rattle.fab_core.specs.Places.{IsCutToAt, journals_of}
use Rattle.fab_core.proofs.Fallen.{IsDropped}
use Rattle.fab_core.proofs.Filled.{none_caused}
use Rattle.fab_core.proofs.Grown.{moves_more}
use Rattle.fab_core.proofs.Moving.{cause_as, done_in, enabled_in, few_in, moved_on, places_kept, refused, seen}
use Rattle.fab_core.proofs.Shortened.{entry_cut, entry_lost_cut, has_record, lost_cut, may_be, shortened}
use Rattle.fab_core.proofs.Wholly.{among_by, may_at, own_below, still}
use Rattle.fab_core.proofs.core_state.Core.cuts.Goals as goal

pub bytes_of-requires : goal.bytes_of-requires
bytes_of-requires g c =
    among_by c.self.inside.given c.self.inside.nodes.items c.self.inside.queues c.self.inside.places.items c.self.inside.log.items c.self.invariant.0 c.args.inner
    (may_be c.self.inside.given c.self.inside.nodes.items c.self.inside.queues c.self.inside.places.items c.self.inside.log.items c.self.invariant.0 c.args.keep c.args.inner
    (enabled_in c.args.self.now c.self.inside.given c.self.inside.log.items c.self.inside.nodes.items c.self.view_is (unmarked (events.CrashIn c.args.keep c.args.inner))
    c.requires.enabled)) c.self.inside.queues c.self.invariant.0.stands.lanes

pub returns-in_err-bytes : goal.returns-in_err-bytes
returns-in_err-bytes g c =
    let e = err_from_is_err_and c.from_residual-in_err-bytes.result c.from_residual-in_err-bytes.ensures.1 in
    subst (λ (r : Result Applied AllocError). IsMoved (events.CrashIn c.args.keep c.args.inner) r c.args.self.now
    (seen c.self.inside.given c.reserve.new.self.items c.self.inside.nodes.items)) (sym e.1)
    (refused c.args.self.now c.self.inside.given c.self.inside.log.items c.self.inside.nodes.items c.self.view_is (events.CrashIn c.args.keep c.args.inner) e.0
    c.reserve.new.self.items c.self.inside.nodes.items c.reserve.ensures.items (none_caused _ ⊥ (journals_of c.self.inside.nodes.items) (λ h. h)))

pub act_cut_at-requires-clause-may : goal.act_cut_at-requires-clause-may
act_cut_at-requires-clause-may g c =
    may_at c.self.inside.given c.self.inside.nodes.items c.self.inside.queues c.self.inside.places.items c.self.inside.log.items c.self.invariant.0 c.args.inner
    (may_be c.self.inside.given c.self.inside.nodes.items c.self.inside.queues c.self.inside.places.items c.self.inside.log.items c.self.invariant.0 c.args.keep c.args.inner
    (enabled_in c.args.self.now c.self.inside.given c.self.inside.log.items c.self.inside.nodes.items c.self.view_is (unmarked (events.CrashIn c.args.keep c.args.inner))
    c.requires.enabled)) (option_copied c.args.done) (done_in c.args.self.now c.self.inside.given c.self.inside.log.items c.self.inside.nodes.items c.self.view_is c.args.inner
    (option_copied c.args.done) c.requires.done) (few_in c.args.self.now c.self.inside.given c.self.inside.log.items c.self.inside.nodes.items c.self.view_is c.requires.few)

pub act_cut_at-requires-clause-record : goal.act_cut_at-requires-clause-record
act_cut_at-requires-clause-record g c =
    has_record c.self.inside.given c.self.inside.nodes.items c.self.inside.queues c.self.inside.places.items c.self.inside.log.items c.self.invariant.0 c.args.keep c.args.inner
    (enabled_in c.args.self.now c.self.inside.given c.self.inside.log.items c.self.inside.nodes.items c.self.view_is (unmarked (events.CrashIn c.args.keep c.args.inner))
    c.requires.enabled) (few_in c.args.self.now c.self.inside.given c.self.inside.log.items c.self.inside.nodes.items c.self.view_is c.requires.few) c.as_slice.result.now
    (c.as_slice.ensures ∙ c.in_ok-bytes.ensures)

pub invariant_of-self-in-Ok : goal.invariant_of-self-in-Ok
invariant_of-self-in-Ok g c = (
  subst (λ (l : List Logged). IsCore c.self.inside.given c.act_cut_at.new.nodes.items c.drop_to.new.self c.self.inside.places.items l)
      (sym (c.note.ensures ∙ (λ j. c.reserve.ensures.items j ++ c.cut_in.ensures j ∷ [])))
      (shortened c.self.inside.given c.self.inside.nodes.items c.self.inside.queues c.self.inside.places.items c.self.inside.log.items c.self.invariant.0 c.args.keep c.args.inner
      (enabled_in c.args.self.now c.self.inside.given c.self.inside.log.items c.self.inside.nodes.items c.self.view_is (unmarked (events.CrashIn c.args.keep c.args.inner))
      c.requires.enabled) (few_in c.args.self.now c.self.inside.given c.self.inside.log.items c.self.inside.nodes.items c.self.view_is c.requires.few) c.in_ok-bytes.bytes
      c.in_ok-bytes.ensures c.act_cut_at.new.nodes.items c.act_cut_at.ensures.others c.drop_to.new.self
      (subst (λ k. IsDropped k c.self.inside.queues c.drop_to.new.self) c.node_of.ensures
      (record { lanes = c.drop_to.ensures.nodes; sent = c.drop_to.ensures.sent; queue = c.drop_to.ensures.queue })) c.in-Ok.step
      (subst (λ (bs : List ℕ). IsCutToAt c.self.inside.given c.args.inner bs c.args.keep c.self.inside.nodes.items c.act_cut_at.new.nodes.items c.in-Ok.step) c.as_slice.ensures
      c.in-Ok.ensures.done)),
  places_kept (node_of c.args.inner) c.self.inside.nodes.items c.act_cut_at.new.nodes.items (length c.self.inside.spare.items) (vec_capacity c.self.inside.spare)
      c.act_cut_at.ensures.others c.self.invariant.1,
)

pub returns-in-Ok : goal.returns-in-Ok
returns-in-Ok g c =
    moved_on c.args.self.now c.self.inside.given c.self.inside.log.items c.self.inside.nodes.items c.self.view_is (events.CrashIn c.args.keep c.args.inner) Whole
    c.note.new.log.items c.act_cut_at.new.nodes.items
    (ap (map move_of) (c.note.ensures ∙ (λ j. c.reserve.ensures.items j ++ c.cut_in.ensures j ∷ [])) ∙ moves_more (setting c.self.inside.given)
    (world_by c.self.inside.given (map move_of c.self.inside.log.items)) c.self.inside.log.items (unmarked (events.CrashIn c.args.keep c.args.inner))
    (record { event = events.CrashIn c.args.keep c.args.inner; bytes = c.in_ok-bytes.bytes; notes = notes_in c.in-Ok.step; whole = is_some c.in-Ok.step; marked = false })
    (entry_cut c.self.inside.given c.self.inside.nodes.items c.self.inside.queues c.self.inside.places.items c.self.inside.log.items c.self.invariant.0 c.args.keep c.args.inner
    (enabled_in c.args.self.now c.self.inside.given c.self.inside.log.items c.self.inside.nodes.items c.self.view_is (unmarked (events.CrashIn c.args.keep c.args.inner))
    c.requires.enabled) (few_in c.args.self.now c.self.inside.given c.self.inside.log.items c.self.inside.nodes.items c.self.view_is c.requires.few) c.in_ok-bytes.bytes
    c.in_ok-bytes.ensures c.act_cut_at.new.nodes.items c.act_cut_at.ensures.others c.drop_to.new.self
    (subst (λ k. IsDropped k c.self.inside.queues c.drop_to.new.self) c.node_of.ensures
    (record { lanes = c.drop_to.ensures.nodes; sent = c.drop_to.ensures.sent; queue = c.drop_to.ensures.queue })) c.in-Ok.step
    (subst (λ (bs : List ℕ). IsCutToAt c.self.inside.given c.args.inner bs c.args.keep c.self.inside.nodes.items c.act_cut_at.new.nodes.items c.in-Ok.step) c.as_slice.ensures
    c.in-Ok.ensures.done)))
    (cause_as (node_of c.args.inner) _ ⊥ (journals_of c.self.inside.nodes.items) (journals_of c.act_cut_at.new.nodes.items) (λ h. absurd h) (λ h. absurd (cc h)) c.in-Ok.ensures.cause)

pub invariant_of-self-in-Memory-1 : goal.invariant_of-self-in-Memory-1
invariant_of-self-in-Memory-1 g c = (
  subst (λ (l : List Logged). IsCore c.self.inside.given c.act_cut_at.new.nodes.items c.self.inside.queues c.self.inside.places.items l) (sym c.reserve.ensures.items)
      (still c.self.inside.given c.self.inside.nodes.items c.self.inside.queues c.self.inside.places.items c.self.inside.log.items c.self.invariant.0 c.args.inner
      (may_be c.self.inside.given c.self.inside.nodes.items c.self.inside.queues c.self.inside.places.items c.self.inside.log.items c.self.invariant.0 c.args.keep c.args.inner
      (enabled_in c.args.self.now c.self.inside.given c.self.inside.log.items c.self.inside.nodes.items c.self.view_is (unmarked (events.CrashIn c.args.keep c.args.inner))
      c.requires.enabled)) c.act_cut_at.new.nodes.items c.act_cut_at.ensures.others (c.in-Err-Memory.ensures.memory (ap Err c.in-Err-Memory.field-0-is)) c.self.inside.queues
      (record { lanes = refl; sent = λ a b. refl; queue = λ a b. refl })),
  places_kept (node_of c.args.inner) c.self.inside.nodes.items c.act_cut_at.new.nodes.items (length c.self.inside.spare.items) (vec_capacity c.self.inside.spare)
      c.act_cut_at.ensures.others c.self.invariant.1,
)

pub returns-in-Err-Memory : goal.returns-in-Err-Memory
returns-in-Err-Memory g c =
    refused c.args.self.now c.self.inside.given c.self.inside.log.items c.self.inside.nodes.items c.self.view_is (events.CrashIn c.args.keep c.args.inner) _
    c.reserve.new.self.items c.act_cut_at.new.nodes.items c.reserve.ensures.items
    (cause_as (node_of c.args.inner) _ ⊥ (journals_of c.self.inside.nodes.items) (journals_of c.act_cut_at.new.nodes.items) (λ h. absurd h)
    (λ h. absurd (cc (h, c.in-Err-Memory.field-0-is))) c.in-Err-Memory.ensures.cause)

pub drop_to-requires-in-Err-Failed : goal.drop_to-requires-in-Err-Failed
drop_to-requires-in-Err-Failed g c =
    subst (λ k. k < c.self.inside.queues.nodes) (sym c.node_of-in-Err-Failed.ensures)
    (subst (λ k. node_of c.args.inner < k) (sym c.self.invariant.0.stands.lanes) (own_below c.self.inside.given c.self.inside.nodes.items c.self.inside.queues
    c.self.inside.places.items c.self.inside.log.items c.self.invariant.0 c.args.inner
    (may_be c.self.inside.given c.self.inside.nodes.items c.self.inside.queues c.self.inside.places.items c.self.inside.log.items c.self.invariant.0 c.args.keep c.args.inner
    (enabled_in c.args.self.now c.self.inside.given c.self.inside.log.items c.self.inside.nodes.items c.self.view_is (unmarked (events.CrashIn c.args.keep c.args.inner))
    c.requires.enabled))))

pub invariant_of-self-in-Err-Failed : goal.invariant_of-self-in-Err-Failed
invariant_of-self-in-Err-Failed g c = (
  subst (λ (l : List Logged). IsCore c.self.inside.given c.act_cut_at.new.nodes.items c.drop_to-in-Err-Failed.new.self c.self.inside.places.items l)
      (sym (c.note-in-Err-Failed.ensures ∙ (λ j. c.reserve.ensures.items j ++ c.failed_in.ensures j ∷ [])))
      (lost_cut c.self.inside.given c.self.inside.nodes.items c.self.inside.queues c.self.inside.places.items c.self.inside.log.items c.self.invariant.0 c.args.keep c.args.inner
      (enabled_in c.args.self.now c.self.inside.given c.self.inside.log.items c.self.inside.nodes.items c.self.view_is (unmarked (events.CrashIn c.args.keep c.args.inner))
      c.requires.enabled) (few_in c.args.self.now c.self.inside.given c.self.inside.log.items c.self.inside.nodes.items c.self.view_is c.requires.few) c.in_ok-bytes.bytes
      c.in_ok-bytes.ensures c.act_cut_at.new.nodes.items c.act_cut_at.ensures.others c.drop_to-in-Err-Failed.new.self
      (subst (λ k. IsDropped k c.self.inside.queues c.drop_to-in-Err-Failed.new.self) c.node_of-in-Err-Failed.ensures
      (record { lanes = c.drop_to-in-Err-Failed.ensures.nodes; sent = c.drop_to-in-Err-Failed.ensures.sent; queue = c.drop_to-in-Err-Failed.ensures.queue }))
      (c.in-Err-Failed.ensures.failed (ap Err c.in-Err-Failed.field-0-is))),
  places_kept (node_of c.args.inner) c.self.inside.nodes.items c.act_cut_at.new.nodes.items (length c.self.inside.spare.items) (vec_capacity c.self.inside.spare)
      c.act_cut_at.ensures.others c.self.invariant.1,
)

pub returns-in-Err-Failed : goal.returns-in-Err-Failed
returns-in-Err-Failed g c =
    moved_on c.args.self.now c.self.inside.given c.self.inside.log.items c.self.inside.nodes.items c.self.view_is (events.CrashIn c.args.keep c.args.inner) Cut
    c.note-in-Err-Failed.new.log.items c.act_cut_at.new.nodes.items
    (ap (map move_of) (c.note-in-Err-Failed.ensures ∙ (λ j. c.reserve.ensures.items j ++ c.failed_in.ensures j ∷ [])) ∙ moves_more (setting c.self.inside.given)
    (world_by c.self.inside.given (map move_of c.self.inside.log.items)) c.self.inside.log.items (marked (events.CrashIn c.args.keep c.args.inner))
    (record { event = events.CrashIn 0 c.args.inner; bytes = c.in_ok-bytes.bytes; notes = []; whole = false; marked = true })
    (entry_lost_cut c.self.inside.given c.self.inside.nodes.items c.self.inside.queues c.self.inside.places.items c.self.inside.log.items c.self.invariant.0 c.args.keep
    c.args.inner (enabled_in c.args.self.now c.self.inside.given c.self.inside.log.items c.self.inside.nodes.items c.self.view_is
    (unmarked (events.CrashIn c.args.keep c.args.inner)) c.requires.enabled) (few_in c.args.self.now c.self.inside.given c.self.inside.log.items c.self.inside.nodes.items
    c.self.view_is c.requires.few) c.in_ok-bytes.bytes c.in_ok-bytes.ensures))
    (cause_as (node_of c.args.inner) _ (Unit {0}) (journals_of c.self.inside.nodes.items) (journals_of c.act_cut_at.new.nodes.items) (λ h. ap Err c.in-Err-Failed.field-0-is)
    (λ h. tt) c.in-Err-Failed.ensures.cause)
