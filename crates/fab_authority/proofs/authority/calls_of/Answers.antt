use Rattle.fab_labelling.specs.Claims.{calls_from}
use Rattle.fab_authority.proofs.Callings.{calls_next}
use Rattle.fab_authority.proofs.authority.calls_of.Goals as goal

pub loop-caller-preserved : goal.loop-caller-preserved
loop-caller-preserved c =
    let ms = c.args.methods.now in
    calls_next c.loop-caller.calls.items c.put_calls.new.out.items (calls_from 0 ms) ms c.loop-caller.caller c.index-methods-caller.result c.as_slice.result.now c.loop-caller-test.true c.index-methods-caller.is c.as_slice.ensures c.in_ok-put_calls.ensures c.loop-caller.invariant
