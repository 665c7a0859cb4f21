use Rattle.fab_fewer.proofs.AsksInView.{asks_are_in_view}
use Rattle.fab_fewer.proofs.laws.asks_are_in_view.Goals as goal

pub returns : goal.returns
returns c = asks_are_in_view
