use Rattle.std.proofs.Common.{ap}
use Rattle.fab_stack.specs.Points.{Base}
use Rattle.fab_eval.proofs.Acting.{act_new}
use Rattle.fab_eval.proofs.act.assignment.Goals as goal

pub returns-in_ok-v-in-New-clause-gives : goal.returns-in_ok-v-in-New-clause-gives
returns-in_ok-v-in-New-clause-gives c =
    rw c.in-New.is (act_new c.args.state.now.base.tid c.values-in-New.new.state.base.tid c.in-New.store.number c.in-New.class.number c.in-New.site c.args.local c.in-New.arguments c.as_slice-in-New.result.now
    c.args.state.now.state c.values-in-New.new.state.state c.create.new.self.state c.assign-in-New.new.self.state c.in_ok-fields-in-New.fields c.in_ok-v-in-New.v
    c.as_slice-in-New.ensures (ap (λ (b : Base). b.tid) c.in_ok-fields-in-New.ensures.base) c.in_ok-fields-in-New.ensures.gives c.in_ok-v-in-New.ensures.gives c.assign-in-New.ensures.gives)
