use Rattle.std.proofs.Common.{◌≡◌, ◌==◌, not, length}
use Rattle.std.specs.List.{filter}
use Rattle.fab_locks.proofs.indexed.Indexed.free_all.Given as goal

-- of those that are left the same stay in the end
abbrev pub invariant-loop-tid : goal.invariant-loop-tid
invariant-loop-tid l = filter (λ p. not (p.0.worker == l.worker)) l.self ≡ filter (λ p. not (p.0.worker == l.worker)) l.fn.self

abbrev pub decreases-loop-tid : goal.decreases-loop-tid
decreases-loop-tid l = length l.self
