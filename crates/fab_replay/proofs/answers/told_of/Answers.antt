use Rattle.fab_replay.proofs.Counts.{counts_of_reads}
use Rattle.fab_replay.proofs.answers.told_of.Goals as goal

pub reads_of-requires-clause-counts : goal.reads_of-requires-clause-counts
reads_of-requires-clause-counts g c =
    counts_of_reads c.args.core.now.given c.args.core.now.moves c.args.told.now _ _ c.as_slice.result.now c.in-Reads.is c.as_slice.ensures c.requires.counted
