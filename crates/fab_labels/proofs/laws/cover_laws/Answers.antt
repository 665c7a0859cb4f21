use Rattle.fab_labels.proofs.FlowLemmas.{deny_covered, covered_by_denial}
use Rattle.fab_labels.proofs.laws.cover_laws.Goals as goal

pub returns : goal.returns
returns c = record {
  conf = λ d a b. (covered_by_denial d a.conf b.conf, deny_covered d a.conf b.conf);
  integ = λ d a b. (covered_by_denial d b.integ a.integ, deny_covered d b.integ a.integ);
}
