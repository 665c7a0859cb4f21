use Rattle.std.proofs.Common.{◌≡◌, ◌∷◌, ◌∙◌, ap, rules, sym}
use Rattle.fab_node.specs.Standing.{GivenModel}
use Rattle.fab_replay.proofs.Scheduled.{goes_on, stops_before, stops_in}
use Rattle.fab_replay.proofs.running.run.Goals as goal

pub events-preserved : goal.events-preserved
events-preserved g c =
    let parts : c.events.rest.now ≡ c.in-Some.scheduled.now ∷ c.in-Some.after.now = search rules in (
      goes_on c.args.core.now c.events.core c.come_next.new.core c.events.rest.now c.in-Some.scheduled.now c.in-Some.after.now c.events.number c.event_of-event.result c.in_ok-come_next.field-0
          parts c.event_of-event.ensures c.events.invariant.0 c.in_ok-come_next.ensures.came c.in-Whole.is c.in_ok-come_next.ensures.given c.in_ok-come_next.ensures.journals,
      c.in_ok-come_next.ensures.program ∙ c.events.invariant.1 ∙ ap (λ (g : GivenModel). g.program) (sym c.in_ok-come_next.ensures.given),
    )

pub returns-in-Barred-clause-ran : goal.returns-in-Barred-clause-ran
returns-in-Barred-clause-ran g c =
    let parts : c.events.rest.now ≡ c.in-Some.scheduled.now ∷ c.in-Some.after.now = search rules in
    stops_before c.args.core.now c.events.core c.come_next.new.core c.events.rest.now c.in-Some.scheduled.now c.in-Some.after.now c.events.number c.event_of-event.result
    c.in_ok-come_next.field-0 parts c.event_of-event.ensures c.events.invariant.0 c.in_ok-come_next.ensures.came c.in-Barred.is

pub returns-in-Cut-clause-ran : goal.returns-in-Cut-clause-ran
returns-in-Cut-clause-ran g c =
    let parts : c.events.rest.now ≡ c.in-Some.scheduled.now ∷ c.in-Some.after.now = search rules in
    stops_in c.args.core.now c.events.core c.come_next.new.core c.events.rest.now c.in-Some.scheduled.now c.in-Some.after.now c.events.number c.event_of-event.result
    c.in_ok-come_next.field-0 parts c.event_of-event.ensures c.events.invariant.0 c.in_ok-come_next.ensures.came c.in-Cut.is c.node_at.result c.node_at.ensures
