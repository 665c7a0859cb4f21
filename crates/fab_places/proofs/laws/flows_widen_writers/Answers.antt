use Rattle.fab_labels.proofs.FlowLemmas.{covered_by_denial}
use Rattle.fab_places.proofs.LawLemmas.{within_all_covered}
use Rattle.fab_places.proofs.laws.flows_widen_writers.Goals as goal

pub returns : goal.returns
returns c = λ d a b p flows writes. within_all_covered d p b.integ a.integ (covered_by_denial d b.integ a.integ flows.integ) writes
