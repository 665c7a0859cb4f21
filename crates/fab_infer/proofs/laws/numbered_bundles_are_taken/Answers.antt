use Rattle.std.proofs.Common.{refl}
use Rattle.fab_infer.proofs.Few.{few_before, small_within}
use Rattle.fab_infer.proofs.laws.numbered_bundles_are_taken.Goals as goal

pub returns : goal.returns
returns c = record { few = λ start choice few. few_before start choice few; small = λ start within. small_within start within; acts = λ start choice. refl }
