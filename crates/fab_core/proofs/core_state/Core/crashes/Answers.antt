use Rattle.std.proofs.Common.{◌≡◌, ◌<◌, ◌∷◌, ◌++◌, [], List, Result, Err, map, length, true, false, sym, ap, subst, refl, ◌∙◌}
use Rattle.std.specs.Vec.{vec_capacity}
use Rattle.fab_net.specs.declared.event.Event.TheVariants as events
use Rattle.fab_net.specs.declared.note.Logged.{Logged}
use Rattle.std.proofs.lemmas.Result.{err_from_is_err_and}
use Rattle.std.specs.declared.alloc.AllocError.{AllocError}
use Rattle.fab_core.specs.declared.applied.Applied.{Applied}
use Rattle.fab_core.specs.declared.applied.Applied.TheVariants.{Whole}
use Rattle.fab_core.specs.Cores.{IsCore, move_of, setting, unmarked, world_by}
use Rattle.fab_core.specs.Moved.{IsMoved}
use Rattle.fab_core.specs.Places.{journals_of}
use Rattle.fab_core.proofs.Crashed.{crash_below, crashed, has_node}
use Rattle.fab_core.proofs.Filled.{none_caused}
use Rattle.fab_core.proofs.Grown.{moves_more}
use Rattle.fab_core.proofs.Moving.{enabled_in, few_in, moved_on, places_kept, refused, seen}
use Rattle.fab_core.proofs.core_state.Core.crashes.Goals as goal

pub returns-in_err-reserve : goal.returns-in_err-reserve
returns-in_err-reserve g c =
    let e = err_from_is_err_and c.from_residual.result c.from_residual.ensures.1 in
    subst (λ (r : Result Applied AllocError). IsMoved (events.Crash c.args.n) r c.args.self.now (seen c.self.inside.given c.reserve.new.self.items c.self.inside.nodes.items)) (sym e.1)
    (refused c.args.self.now c.self.inside.given c.self.inside.log.items c.self.inside.nodes.items c.self.view_is (events.Crash c.args.n) e.0 c.reserve.new.self.items
    c.self.inside.nodes.items c.reserve.ensures.items (none_caused c.args.n ⊥ (journals_of c.self.inside.nodes.items) (λ h. h)))

pub crash_at-requires : goal.crash_at-requires
crash_at-requires g c =
    has_node c.self.inside.given c.self.inside.nodes.items c.self.inside.queues c.self.inside.places.items c.self.inside.log.items c.self.invariant.0 c.args.n
    (enabled_in c.args.self.now c.self.inside.given c.self.inside.log.items c.self.inside.nodes.items c.self.view_is (unmarked (events.Crash c.args.n)) c.requires.enabled)

pub invariant_of-self-2 : goal.invariant_of-self-2
invariant_of-self-2 g c = (
  subst (λ (l : List Logged). IsCore c.self.inside.given c.crash_at.new.nodes.items c.drop_to.new.self c.self.inside.places.items l)
      (sym (c.note.ensures ∙ (λ j. c.reserve.ensures.items j ++ record {
        event = events.Crash
            c.args.n;
        bytes = c.new.ensures j;
        notes = c.new-2.ensures j;
        whole = true;
        marked = false;
      } ∷ [])))
      (crashed c.self.inside.given c.self.inside.nodes.items c.self.inside.queues c.self.inside.places.items c.self.inside.log.items c.self.invariant.0 c.args.n
      (enabled_in c.args.self.now c.self.inside.given c.self.inside.log.items c.self.inside.nodes.items c.self.view_is (unmarked (events.Crash c.args.n)) c.requires.enabled)
      c.crash_at.new.nodes.items c.crash_at.ensures.others c.crash_at.ensures.down c.drop_to.new.self
      (record { lanes = c.drop_to.ensures.nodes; sent = c.drop_to.ensures.sent; queue = c.drop_to.ensures.queue })
      (few_in c.args.self.now c.self.inside.given c.self.inside.log.items c.self.inside.nodes.items c.self.view_is c.requires.few)),
  places_kept c.args.n c.self.inside.nodes.items c.crash_at.new.nodes.items (length c.self.inside.spare.items) (vec_capacity c.self.inside.spare) c.crash_at.ensures.others c.self.invariant.1,
)
