use Rattle.std.proofs.Common.{sym, ap, ◌∙◌}
use Rattle.std.proofs.lemmas.Result.{on_ok_weaker}
use Rattle.fab_infer.specs.Shown.{given_flows}
use Rattle.fab_infer.proofs.Flowing.{of_called, of_unknown}
use Rattle.fab_infer.proofs.Gathering.{in_none, with_flows}
use Rattle.fab_infer.proofs.flows.put_call.Goals as goal

pub returns-in-None : goal.returns-in-None
returns-in-None c =
    let s = c.args.scope.now in
    sym (in_none s.count c.args.flows.now)
    ∙ ap (with_flows s.count c.args.flows.now) (sym (of_unknown s c.args.pc.now c.args.method c.args.arguments.now (sym c.in-None.ensures)))

pub returns-in_ok-to-in-Some : goal.returns-in_ok-to-in-Some
returns-in_ok-to-in-Some c =
    let s = c.args.scope.now in
    let called = c.in-Some.called.now in
    on_ok_weaker c.put_given.result
    (λ h. h ∙ ap (with_flows s.count c.args.flows.now)
    (ap (given_flows s c.args.pc.now c.args.arguments.now) (c.as_slice.ensures ∙ c.in_ok-to-in-Some.ensures) ∙ sym (of_called s c.args.pc.now c.args.method c.args.arguments.now called (sym c.in-Some.ensures))))
    c.put_given.ensures
