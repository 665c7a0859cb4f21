use Rattle.fab_trusted.proofs.Replays.{robust_values}
use Rattle.fab_trusted.proofs.laws.robust_values_trusted.Goals as goal

pub returns : goal.returns
returns c = robust_values
