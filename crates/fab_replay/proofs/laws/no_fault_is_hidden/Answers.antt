use Rattle.fab_replay.proofs.Keeping.{none_hidden}
use Rattle.fab_replay.proofs.laws.no_fault_is_hidden.Goals as goal

pub returns : goal.returns
returns c = none_hidden
