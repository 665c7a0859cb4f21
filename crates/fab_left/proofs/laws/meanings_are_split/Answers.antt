use Rattle.fab_left.proofs.Split.{plain_split, erased_split}
use Rattle.fab_left.proofs.laws.meanings_are_split.Goals as goal

pub returns : goal.returns
returns c = record { plain = plain_split; erased = erased_split }
