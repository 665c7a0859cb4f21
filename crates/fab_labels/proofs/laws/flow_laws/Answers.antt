use Rattle.fab_labels.proofs.laws.flow_laws.Goals as goal

pub returns : goal.returns
returns c = record {
  reflexive = λ d a. record { conf = λ p group denies. denies; integ = λ p group denies. denies };
  transitive = λ d a b e one two. record { conf = λ p group denies. two.conf p group (one.conf p group denies); integ = λ p group denies. one.integ p group (two.integ p group denies) };
}
