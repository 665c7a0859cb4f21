use Rattle.std.proofs.Common.{◌≡◌, ◌++◌, length}
use Rattle.fab_cache.specs.Caching.{renewed}
use Rattle.fab_cache.proofs.rows.renewed_all.Given as goal

abbrev pub invariant-loop-cache : goal.invariant-loop-cache
invariant-loop-cache l = renewed l.k l.puts 0 l.caches ≡ l.new.items ++ renewed l.k l.puts (length l.new.items) l.rest

abbrev pub decreases-loop-cache : goal.decreases-loop-cache
decreases-loop-cache l = length l.rest
