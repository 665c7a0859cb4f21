use Rattle.std.proofs.Common.{◌≡◌, take, drop, vec_len}
use Rattle.fab_nested.specs.Logs.{before_all, heap_of}
use Rattle.fab_nested.proofs.log.undo_to.Given as goal

abbrev pub invariant-loop-log : goal.invariant-loop-log
invariant-loop-log l = record {
  heap : before_all (drop l.mark l.log.items) (heap_of l.objects) ≡ before_all (drop l.mark l.initial.log.items) (heap_of l.initial.objects);
  log : take l.mark l.log.items ≡ take l.mark l.initial.log.items;
}

abbrev pub decreases-loop-log : goal.decreases-loop-log
decreases-loop-log l = vec_len l.log
