use Rattle.std.proofs.Common.{◌≡◌, ◌≤◌, length}
use Rattle.fab_cache.specs.Caching.{laid}
use Rattle.fab_cache.proofs.rows.lay.Given as goal

abbrev pub invariant-loop-one : goal.invariant-loop-one
invariant-loop-one l = record {
  onward : laid l.fn.new.items l.fn.caches ≡ laid l.new.items l.caches;
  fits : length l.new.items ≤ length l.caches;
}

abbrev pub decreases-loop-one : goal.decreases-loop-one
decreases-loop-one l = length l.new.items
