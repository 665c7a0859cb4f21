use Rattle.fab_labels.proofs.FlowLemmas.{deny_covered_with, covered_by_denial_with}
use Rattle.fab_labels.proofs.flow.endorse_ok.Goals as goal

pub returns-then-flows_conf : goal.returns-then-flows_conf
returns-then-flows_conf c =
    let covered = rw (c.as_slice.ensures, c.as_slice-then-flows_conf.ensures) at c.are_covered_with.ensures in
    record {
      exact = (
        λ t. record { integ = deny_covered_with c.args.acts.now c.args.b.now.integ c.args.a.now.integ c.args.authority (covered.0 t); conf = c.flows_conf.ensures.exact.0 c.if-flows_conf.true },
        λ ok. covered.1 (covered_by_denial_with c.args.acts.now c.args.b.now.integ c.args.a.now.integ c.args.authority ok.integ),
      );
    }
