use Rattle.fab_left.proofs.Stepping.{act_ends, call_stops, result_ends, result_last}
use Rattle.fab_left.proofs.laws.steps_end_so.Goals as goal

pub returns : goal.returns
returns c = record {
  acts = λ m first tid does known ks p s ss t u e split st f i. act_ends m first tid does split known ks p s ss t st e u f i;
  calls = λ m first tid does known ks p s ss t u number args target stop split st e f.
      call_stops m first tid does split known ks p s ss t st number args target stop u e f;
  results = λ m first tid does known ks callee caller locals target t u e split st f i.
      result_ends m first tid does split known ks callee caller locals target t st e u f i;
  last = λ m first tid does known t more split st sure fresh. result_last m first tid does split known t st sure more fresh;
}
