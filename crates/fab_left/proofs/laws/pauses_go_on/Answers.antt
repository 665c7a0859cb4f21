use Rattle.fab_left.proofs.Pausing.{act_missing, act_answered, result_missing, result_answered, last_answered}
use Rattle.fab_left.proofs.laws.pauses_go_on.Goals as goal

pub returns : goal.returns
returns c = record {
  acts_lack = λ m first tid does known acts ks p s ss t u site o split h e. act_missing m first tid does known acts split t u site o ks p s ss e h;
  acts_go_on = λ m first tid does known acts ks p s ss t u site o x split new h e.
      act_answered m first tid does known acts split t u site o ks p s ss e h x new;
  results_lack = λ m first tid does known ks callee caller locals target t u site o h e.
      result_missing m first tid does known t u site o ks callee caller locals target e h;
  results_go_on = λ m first tid does known acts ks callee caller locals target t u site o x split new h e.
      result_answered m first tid does known acts split t u site o ks callee caller locals target e h x new;
  last_goes_on = λ m first tid does known acts t u site o x split new h e. last_answered m first tid does known acts split t u site o e h x new;
}
