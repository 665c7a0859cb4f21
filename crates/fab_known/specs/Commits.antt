-- The commits of a worker, as the public replay sees them.
use Rattle.fab_release.specs.Replay as replay
use Rattle.fab_known.specs.declared.commits.Commitment.{Commitment}

abbrev pub commitment_of : Commitment → replay.Commitment
commitment_of c = record { tid = c.tid; stores = c.stores; leaves = c.leaves }
