use Rattle.fab_labels.proofs.FlowLemmas.{covered_by_denial}
use Rattle.fab_places.proofs.LawLemmas.{within_all_covered}
use Rattle.fab_places.proofs.laws.flows_narrow_readers.Goals as goal

pub returns : goal.returns
returns c = λ d a b p flows reads. within_all_covered d p a.conf b.conf (covered_by_denial d a.conf b.conf flows.conf) reads
