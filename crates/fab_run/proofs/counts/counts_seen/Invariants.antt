use Rattle.std.proofs.Common.{◌≡◌, map, take}
use Rattle.fab_run.proofs.counts.counts_seen.Given as goal

abbrev pub invariant-loop-one : goal.invariant-loop-one
invariant-loop-one l = l.counts ≡ map (λ one. one.0) (take l.one-index l.seen)
