use Rattle.std.proofs.Common.{◌≡◌, ◌-◌, ◌+◌, ◌≤◌, replicate}
use Rattle.std.specs.Prelude.{vec_len}
use Rattle.fab_run.proofs.counts.all_behind.Given as goal

abbrev pub invariant-reads : goal.invariant-reads
invariant-reads l = (l.counts.items ≡ replicate (vec_len l.counts) l.all) × (vec_len l.counts ≤ l.times + 1)

abbrev pub decreases-reads : goal.decreases-reads
decreases-reads l = l.times + 1 - vec_len l.counts
