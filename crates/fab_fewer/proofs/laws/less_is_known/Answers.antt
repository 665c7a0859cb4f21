use Rattle.fab_fewer.proofs.Fewer.{does_over_fewer, does_without, meaning_over_fewer}
use Rattle.fab_fewer.proofs.laws.less_is_known.Goals as goal

pub returns : goal.returns
returns c = record { erased = does_over_fewer; without = does_without; meaning = meaning_over_fewer }
