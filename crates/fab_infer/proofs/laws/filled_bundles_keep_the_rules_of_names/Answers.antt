use Rattle.fab_infer.proofs.Kept.{names_kept}
use Rattle.fab_infer.proofs.Limited.{limits_stay}
use Rattle.fab_infer.proofs.laws.filled_bundles_keep_the_rules_of_names.Goals as goal

pub returns : goal.returns
returns c = record { names = λ start choice named is. names_kept start choice is named; limits = λ start choice. limits_stay start choice }
