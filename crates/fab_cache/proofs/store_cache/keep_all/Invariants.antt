use Rattle.std.proofs.Common.{◌≡◌, length}
use Rattle.fab_cache.specs.Caching.{lasting, rows_in}
use Rattle.fab_cache.proofs.store_cache.keep_all.Given as goal

abbrev pub invariant-loop-oid : goal.invariant-loop-oid
invariant-loop-oid l = lasting l.k (rows_in l.rest) (rows_in l.entries.entries) ≡ lasting l.k (rows_in l.old.entries) (rows_in l.fn.entries.entries)

abbrev pub decreases-loop-oid : goal.decreases-loop-oid
decreases-loop-oid l = length l.rest
