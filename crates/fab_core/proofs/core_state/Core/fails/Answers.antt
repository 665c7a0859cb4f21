use Rattle.std.proofs.Common.{◌<◌, ◌∷◌, ◌++◌, [], List, map, length, true, false, sym, ap, subst, ◌∙◌}
use Rattle.std.proofs.lemmas.List.{map-append}
use Rattle.std.specs.Vec.{vec_capacity}
use Rattle.fab_net.specs.declared.event.Event.TheVariants as events
use Rattle.fab_net.specs.declared.note.Logged.{Logged}
use Rattle.std.proofs.lemmas.Result.{err_from_is_err_and}
use Rattle.fab_world.specs.Machine.{node_of}
use Rattle.fab_core.specs.Cores.{IsCore, failure, move_of}
use Rattle.fab_core.specs.Moved.{HasFailed}
use Rattle.fab_core.specs.Places.{AreOthers, HasFailedAt, HasNode, journals_of}
use Rattle.fab_core.proofs.Failed.{failed_on, failing, failing_among, failing_below, failing_node, fails_not}
use Rattle.fab_core.proofs.Fallen.{IsDropped}
use Rattle.fab_core.proofs.Moving.{enabled_in, few_in, places_kept, seen}
use Rattle.fab_core.proofs.core_state.Core.fails.Goals as goal

pub returns-in_err-reserve : goal.returns-in_err-reserve
returns-in_err-reserve g c =
    let e = err_from_is_err_and c.from_residual.result c.from_residual.ensures.1 in
    subst (λ r. HasFailed c.args.inner r c.args.self.now (seen c.self.inside.given c.reserve.new.self.items c.self.inside.nodes.items)) (sym e.1)
    (fails_not c.args.self.now c.self.inside.given c.self.inside.log.items c.self.inside.nodes.items c.self.view_is c.args.inner e.0 c.reserve.new.self.items c.reserve.ensures.items)

pub bytes_of-requires : goal.bytes_of-requires
bytes_of-requires g c =
    failing_among c.self.inside.given c.self.inside.nodes.items c.self.inside.queues c.self.inside.places.items c.self.inside.log.items c.self.invariant.0 c.args.inner
    (enabled_in c.args.self.now c.self.inside.given c.self.inside.log.items c.self.inside.nodes.items c.self.view_is (failure c.args.inner) c.requires.enabled)

pub returns-in_err-bytes : goal.returns-in_err-bytes
returns-in_err-bytes g c =
    let e = err_from_is_err_and c.from_residual-in_err-bytes.result c.from_residual-in_err-bytes.ensures.1 in
    subst (λ r. HasFailed c.args.inner r c.args.self.now (seen c.self.inside.given c.reserve.new.self.items c.self.inside.nodes.items)) (sym e.1)
    (fails_not c.args.self.now c.self.inside.given c.self.inside.log.items c.self.inside.nodes.items c.self.view_is c.args.inner e.0 c.reserve.new.self.items c.reserve.ensures.items)

pub fail_at-requires : goal.fail_at-requires
fail_at-requires g c =
    subst (λ k. HasNode k c.self.inside.nodes.items) (sym c.node_of.ensures)
    (failing_node c.self.inside.given c.self.inside.nodes.items c.self.inside.queues c.self.inside.places.items c.self.inside.log.items c.self.invariant.0 c.args.inner
    (enabled_in c.args.self.now c.self.inside.given c.self.inside.log.items c.self.inside.nodes.items c.self.view_is (failure c.args.inner) c.requires.enabled))

pub drop_to-requires : goal.drop_to-requires
drop_to-requires g c =
    subst (λ k. k < c.self.inside.queues.nodes) (sym c.node_of-2.ensures)
    (subst (λ k. node_of c.args.inner < k) (sym c.self.invariant.0.stands.lanes)
    (failing_below c.self.inside.given c.self.inside.nodes.items c.self.inside.queues c.self.inside.places.items c.self.inside.log.items c.self.invariant.0 c.args.inner
    (enabled_in c.args.self.now c.self.inside.given c.self.inside.log.items c.self.inside.nodes.items c.self.view_is (failure c.args.inner) c.requires.enabled)))

pub invariant_of-self-2 : goal.invariant_of-self-2
invariant_of-self-2 g c =
    let others = subst (λ k. AreOthers k c.self.inside.nodes.items c.fail_at.new.nodes.items) c.node_of.ensures c.fail_at.ensures.others in
    let failed = subst (λ k. HasFailedAt k c.self.inside.nodes.items c.fail_at.new.nodes.items) c.node_of.ensures c.fail_at.ensures.failed in
    let dropped = subst (λ k. IsDropped k c.self.inside.queues c.drop_to.new.self) c.node_of-2.ensures
    (record { lanes = c.drop_to.ensures.nodes; sent = c.drop_to.ensures.sent; queue = c.drop_to.ensures.queue }) in (
      subst (λ (l : List Logged). IsCore c.self.inside.given c.fail_at.new.nodes.items c.drop_to.new.self c.self.inside.places.items l)
          (sym (c.note.ensures ∙ (λ j. c.reserve.ensures.items j ++ c.failed_in.ensures j ∷ [])))
          (failing c.self.inside.given c.self.inside.nodes.items c.self.inside.queues c.self.inside.places.items c.self.inside.log.items c.self.invariant.0 c.args.inner
          (enabled_in c.args.self.now c.self.inside.given c.self.inside.log.items c.self.inside.nodes.items c.self.view_is (failure c.args.inner) c.requires.enabled)
          (few_in c.args.self.now c.self.inside.given c.self.inside.log.items c.self.inside.nodes.items c.self.view_is c.requires.few)
          c.in_ok-bytes.bytes c.in_ok-bytes.ensures c.fail_at.new.nodes.items others failed c.drop_to.new.self dropped),
      places_kept (node_of c.args.inner) c.self.inside.nodes.items c.fail_at.new.nodes.items (length c.self.inside.spare.items) (vec_capacity c.self.inside.spare) others c.self.invariant.1,
    )

pub returns : goal.returns
returns g c =
    failed_on c.args.self.now c.self.inside.given c.self.inside.log.items c.self.inside.nodes.items c.self.view_is c.args.inner _ c.note.new.log.items c.fail_at.new.nodes.items
    (ap (map move_of) (c.note.ensures ∙ (λ j. c.reserve.ensures.items j ++ c.failed_in.ensures j ∷ []))
    ∙ map-append move_of c.self.inside.log.items (record { event = events.CrashIn 0 c.args.inner; bytes = c.in_ok-bytes.bytes; notes = []; whole = false; marked = true } ∷ []))
    c.fail_at.ensures.journals
