use Rattle.std.proofs.Common.{refl}
use Rattle.fab_language.specs.Meaning.{failed}
use Rattle.fab_left.proofs.Stacks.{block_ends, call_ended, trial_fails, ends_all}
use Rattle.fab_left.proofs.laws.failures_unwind.Goals as goal

pub returns : goal.returns
returns c = record {
  blocks = λ m ks p ss t. block_ends m ks p ss failed t;
  calls = λ m ks callee caller locals target t. call_ended m ks callee caller locals target failed t;
  trials = trial_fails;
  nothing = λ m p t. refl;
  others = λ m p ks e t n. ends_all m p ks e n t;
}
