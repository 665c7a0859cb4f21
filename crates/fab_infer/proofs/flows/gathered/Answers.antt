use Rattle.std.proofs.Common.{refl, arith}
use Rattle.std.specs.List.{flat_map}
use Rattle.fab_authority.proofs.Walks.{end, step}
use Rattle.fab_holes.specs.Flowing.{method_flows, only}
use Rattle.fab_infer.proofs.Gathering.{in_none, in_parts, with_flows}
use Rattle.fab_infer.proofs.flows.gathered.Goals as goal

pub loop-method-preserved : goal.loop-method-preserved
loop-method-preserved c =
    let n = c.args.count in
    let items = c.args.methods.now in
    let flows = method_flows c.args.classes.now items in
    step (with_flows n) (in_parts n) (flat_map flows) flows (λ _ _. refl) c.loop-method.flows c.put_method.new.flows (only n (flat_map flows items)) items c.loop-method.method-index c.method-item.result
    c.loop-method-test.true c.method-item.is c.in_ok-put_method.ensures c.loop-method.invariant

pub returns : goal.returns
returns c =
    let n = c.args.count in
    let items = c.args.methods.now in
    let flows = method_flows c.args.classes.now items in
    end (with_flows n) (in_parts n) (flat_map flows) refl (in_none n) c.loop-method.flows (only n (flat_map flows items)) items c.loop-method.method-index (omega arith) c.loop-method.invariant
