use Rattle.fab_labels.proofs.FlowLemmas.{Deny-further, Deny-nothing}
use Rattle.fab_labels.proofs.laws.confidentiality_laws.Goals as goal

pub returns : goal.returns
returns c = record {
  further = λ d a b policy flows p group denies. flows p group (Deny-further d a.conf policy p group denies);
  free = λ d a b none p group denies. Deny-nothing d a.conf p group none denies;
}
