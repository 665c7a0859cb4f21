use Rattle.fab_threads.proofs.Keeping.{none_kept}
use Rattle.fab_threads.proofs.bench.Bench.new.Goals as goal

pub invariant_of-result : goal.invariant_of-result
invariant_of-result c = none_kept c.in_ok-evaluators.evaluators.program c.in_ok-kept.kept.items c.in_ok-kept.ensures
