use Rattle.std.specs.Prelude.{◌≡◌, ◌+◌, ◌≤◌, sum, vec_capacity, vec_len}
use Rattle.std.specs.Vec.Iter.{into_iter_len}
use Rattle.fab_threads.proofs.running.counts_of.Given as goal

abbrev pub invariant-loop-share : goal.invariant-loop-share
invariant-loop-share g l =
    (l.all.parts + into_iter_len l.share-iterator ≡ vec_len l.fn.rans + 1) × (l.all.amount ≡ sum l.counts.items)
    × (vec_len l.counts + into_iter_len l.share-iterator ≡ vec_len l.fn.rans) × (vec_len l.fn.rans ≤ vec_capacity l.counts)
