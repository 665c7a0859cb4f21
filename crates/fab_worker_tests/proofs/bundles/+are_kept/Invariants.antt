use Rattle.std.proofs.Common.{length}
use Rattle.fab_worker_tests.proofs.bundles.+are_kept.Given as goal

abbrev pub decreases-are_kept : goal.decreases-are_kept
decreases-are_kept l = length l.entries.now
