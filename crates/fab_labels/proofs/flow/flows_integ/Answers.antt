use Rattle.fab_labels.proofs.FlowLemmas.{deny_covered, covered_by_denial}
use Rattle.fab_labels.proofs.flow.flows_integ.Goals as goal

pub returns : goal.returns
returns c =
    let covered = rw (c.as_slice.ensures, c.as_slice-2.ensures) at c.are_covered.ensures in
    record { exact = (λ t. deny_covered c.args.acts.now c.args.b.now.integ c.args.a.now.integ (covered.0 t), λ flows. covered.1 (covered_by_denial c.args.acts.now c.args.b.now.integ c.args.a.now.integ flows)) }
