use Rattle.fab_held.proofs.Made.{all_made}
use Rattle.fab_held.proofs.laws.made_where_held.Goals as goal

pub returns : goal.returns
returns c = all_made
