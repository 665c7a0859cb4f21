use Rattle.std.proofs.Common.{◌≡◌, [], ◌++◌, map, take, drop}
use Rattle.fab_cache.proofs.rows.emptied.Given as goal

abbrev pub invariant-loop-cache : goal.invariant-loop-cache
invariant-loop-cache l = l.caches ≡ map (λ cache. []) (take l.cache-index l.fn.caches) ++ drop l.cache-index l.fn.caches
