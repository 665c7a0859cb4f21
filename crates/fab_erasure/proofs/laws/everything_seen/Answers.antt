use Rattle.fab_erasure.proofs.AllSeen.{all_seen}
use Rattle.fab_erasure.proofs.laws.everything_seen.Goals as goal

pub returns : goal.returns
returns c = all_seen
