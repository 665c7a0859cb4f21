use Rattle.fab_gen.specs.Generated.{request_line}
use Rattle.fab_gen.proofs.Lines.{line_more}
use Rattle.fab_gen.proofs.generator.put_requests.Goals as goal

pub loop-place-preserved : goal.loop-place-preserved
loop-place-preserved c =
    line_more (request_line c.args.number c.args.size c.args.worker) c.loop-place.place c.args.out.now c.loop-place.out c.put_request.new.out c.loop-place.invariant c.in_ok-put_request.ensures
