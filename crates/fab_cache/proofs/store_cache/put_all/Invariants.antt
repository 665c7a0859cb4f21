use Rattle.std.proofs.Common.{◌≡◌, length}
use Rattle.fab_protocol.specs.Caches.{at_store}
use Rattle.fab_cache.specs.Caching.{lasting, rows_in}
use Rattle.fab_cache.proofs.store_cache.put_all.Given as goal

abbrev pub invariant-loop-put : goal.invariant-loop-put
invariant-loop-put l = lasting l.k (at_store l.store l.rest) (rows_in l.entries.entries) ≡ lasting l.k (at_store l.store l.puts) (rows_in l.fn.entries.entries)

abbrev pub decreases-loop-put : goal.decreases-loop-put
decreases-loop-put l = length l.rest
