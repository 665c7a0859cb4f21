use Rattle.std.specs.Prelude.{◌≡◌, All}
use Rattle.std.specs.Vec.Iter.{into_iter_items}
use Rattle.fab_eval.specs.declared.done.Done.{Done}
use Rattle.fab_pauses.specs.Evaluations.{IsOf}
use Rattle.fab_threads.proofs.bench.Bench.keep_all.Given as goal

abbrev pub invariant-loop-done : goal.invariant-loop-done
invariant-loop-done l = (l.self ≡ l.initial.self) × All (λ (done : Done). IsOf l.initial.self done.job) (into_iter_items l.done-iterator)
