use Rattle.fab_left.proofs.Stepping.{act_goes, act_enters, call_passes, call_returns, block_done, trial_done}
use Rattle.fab_left.proofs.laws.steps_keep_what_is_left.Goals as goal

pub returns : goal.returns
returns c = record {
  acts = λ m first tid does known ks p s ss t u d split st h e. act_goes m first tid does split known ks p s ss t st d u h e;
  calls = λ m first tid does known ks p s ss t u number args target callee locals split st e f.
      act_enters m first tid does split known ks p s ss t st number args target callee locals u e f;
  passes = λ m first tid does known ks p s ss t u w number args target v split st e f h.
      call_passes m first tid does split known ks p s ss t st number args target v u w e f h;
  given_back = λ m first tid does known ks callee caller locals target t u w v split st e h.
      call_returns m first tid does split known ks callee caller locals target t st v u w e h;
  blocks = λ m first tid known ks p t more fresh. block_done m first ks p t more;
  trials = λ m first tid known ks p locals heap ss t more fresh. trial_done m first ks p locals heap ss t more;
}
