use Rattle.std.proofs.lemmas.Bool.{both_ways}
use Rattle.fab_labels.proofs.FlowLemmas.{deny_covered_with, covered_by_denial_with}
use Rattle.fab_labels.proofs.flow.declass_ok.Goals as goal

pub returns-then-are_covered_with : goal.returns-then-are_covered_with
returns-then-are_covered_with c =
    let covered = rw (c.as_slice.ensures, c.as_slice-2.ensures) at c.are_covered_with.ensures in
    record { exact = (λ t. record { conf = deny_covered_with c.args.acts.now c.args.a.now.conf c.args.b.now.conf c.args.authority (covered.0 c.if-are_covered_with.true); integ = c.flows_integ.ensures.exact.0 t }, λ ok. c.flows_integ.ensures.exact.1 ok.integ) }

pub returns-else-are_covered_with : goal.returns-else-are_covered_with
returns-else-are_covered_with c =
    let covered = rw (c.as_slice.ensures, c.as_slice-2.ensures) at c.are_covered_with.ensures in
    record { exact = (λ t. absurd (both_ways _ c.if-are_covered_with.false t), λ ok. covered.1 (covered_by_denial_with c.args.acts.now c.args.a.now.conf c.args.b.now.conf c.args.authority ok.conf)) }
