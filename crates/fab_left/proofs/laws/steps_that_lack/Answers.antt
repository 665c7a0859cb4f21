use Rattle.std.proofs.Common.{refl, []}
use Rattle.fab_left.proofs.Stepping.{act_lacks, result_lacks}
use Rattle.fab_left.proofs.laws.steps_that_lack.Goals as goal

pub returns : goal.returns
returns c = record {
  acts = λ m first tid does ks p s ss t u site o split e. act_lacks m first tid does split [] ks p s ss t site o u e;
  results = λ m first ks callee caller locals target t u site o e. result_lacks m first ks callee caller locals target t site o u e;
  last = λ m first t. refl;
}
