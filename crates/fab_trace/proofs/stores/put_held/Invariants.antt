use Rattle.std.proofs.Common.{◌≡◌, ◌++◌, drop}
use Rattle.fab_trace.specs.Report.{held_text}
use Rattle.fab_trace.proofs.stores.put_held.Given as goal

abbrev pub invariant-loop-store : goal.invariant-loop-store
invariant-loop-store l = l.out ++ held_text l.start l.store (drop l.store l.stores) ≡ l.fn.out ++ held_text l.start 0 l.stores
