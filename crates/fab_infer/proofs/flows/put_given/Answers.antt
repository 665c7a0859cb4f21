use Rattle.std.proofs.Common.{drop, arith}
use Rattle.fab_infer.specs.Shown.{given_flows}
use Rattle.fab_infer.proofs.Flowing.{given_end, given_more, given_none}
use Rattle.fab_infer.proofs.Gathering.{with_flows}
use Rattle.fab_infer.proofs.flows.put_given.Goals as goal

pub returns-in-None : goal.returns-in-None
returns-in-None c =
    given_none c.args.scope.now c.args.pc.now c.loop-value.flows (with_flows c.args.scope.now.count c.args.flows.now (given_flows c.args.scope.now c.args.pc.now c.args.values.now c.args.to.now))
    (drop c.loop-value.value-index c.args.values.now) c.loop-value.to.now c.in-None.ensures.cases c.loop-value.invariant

pub loop-value-preserved : goal.loop-value-preserved
loop-value-preserved c =
    given_more c.args.scope.now c.args.pc.now c.loop-value.flows c.put_value.new.flows (with_flows c.args.scope.now.count c.args.flows.now (given_flows c.args.scope.now c.args.pc.now c.args.values.now c.args.to.now))
    c.args.values.now c.loop-value.value-index c.value-item.result c.loop-value-test.true c.value-item.is
    c.in-Some.label.now c.loop-value.to.now c.in-Some.after.now c.in-Some.ensures.cases.0 c.in_ok-put_value-in-Some.ensures c.loop-value.invariant

pub returns : goal.returns
returns c =
    given_end c.args.scope.now c.args.pc.now c.loop-value.flows (with_flows c.args.scope.now.count c.args.flows.now (given_flows c.args.scope.now c.args.pc.now c.args.values.now c.args.to.now))
    c.args.values.now c.loop-value.value-index c.loop-value.to.now (omega arith) c.loop-value.invariant
