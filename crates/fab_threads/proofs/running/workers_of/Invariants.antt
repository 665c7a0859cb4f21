use Rattle.std.specs.Prelude.{◌≡◌, ◌+◌, length, vec_len}
use Rattle.fab_threads.proofs.running.workers_of.Given as goal

abbrev pub invariant-loop-place : goal.invariant-loop-place
invariant-loop-place g l = (l.all.parts + l.place ≡ length l.nodes + 1) × (l.all.amount ≡ 0) × (vec_len l.workers ≡ l.place)
