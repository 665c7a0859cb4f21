use Rattle.std.proofs.Common.{◌≡◌, ◌-◌, ◌≤◌, replicate}
use Rattle.std.specs.Prelude.{None, vec_len}
use Rattle.fab_threads.proofs.bench.no_dones.Given as goal

abbrev pub invariant-numbers : goal.invariant-numbers
invariant-numbers l = (l.dones.items ≡ replicate (vec_len l.dones) None) × (vec_len l.dones ≤ 64)

abbrev pub decreases-numbers : goal.decreases-numbers
decreases-numbers l = 64 - vec_len l.dones
