use Rattle.fab_alone.proofs.Bundles.{runs_are_evaluated}
use Rattle.fab_alone.proofs.laws.alone_is_eval.Goals as goal

pub returns : goal.returns
returns c = λ s rights n accepted. runs_are_evaluated s rights n accepted
