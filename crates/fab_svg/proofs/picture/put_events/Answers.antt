use Rattle.fab_svg.proofs.Events.{one_more}
use Rattle.fab_svg.proofs.picture.put_events.Goals as goal

pub shapes-preserved : goal.shapes-preserved
shapes-preserved c =
    one_more c.args.out.now c.put_event.new.out c.shapes.out c.args.shapes.now c.shapes.rest.now c.in-Some.before.now c.in-Some.shape.now c.in-Some.ensures.cases.0
    c.in_ok-put_event.ensures c.shapes.invariant
