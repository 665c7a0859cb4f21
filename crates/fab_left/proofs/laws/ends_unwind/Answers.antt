use Rattle.std.proofs.Common.{refl}
use Rattle.fab_left.proofs.Stepping.{block_failed, call_failed, trial_failed, all_ended}
use Rattle.fab_left.proofs.laws.ends_unwind.Goals as goal

pub returns : goal.returns
returns c = record {
  blocks = block_failed;
  calls = call_failed;
  trials = trial_failed;
  nothing = λ m first t more. refl;
  others = λ m first ks e t more n. all_ended m first ks e n t more;
}
