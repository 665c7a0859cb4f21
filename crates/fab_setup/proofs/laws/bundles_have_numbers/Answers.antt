use Rattle.fab_setup.proofs.Numbers.{numbered}
use Rattle.fab_setup.proofs.laws.bundles_have_numbers.Goals as goal

pub returns : goal.returns
returns c = numbered
