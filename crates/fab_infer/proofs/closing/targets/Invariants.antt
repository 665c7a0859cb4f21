use Rattle.std.proofs.Common.{◌≡◌, ◌<◌, ℕ, [], ◌++◌, drop, length}
use Rattle.fab_infer.specs.Spreading.{list_at, targets_of}
use Rattle.fab_infer.proofs.closing.targets.Given as goal

abbrev pub invariant-loop : goal.invariant-loop
invariant-loop l = record {
  many : length l.lists.items ≡ l.counter;
  empty : (h : ℕ) → list_at l.lists.items h ≡ [];
}

abbrev pub invariant-loop-from : goal.invariant-loop-from
invariant-loop-from l = record {
  many : length l.lists.items ≡ l.holes;
  lists : (h : ℕ) → h < l.holes → list_at l.lists.items h ++ targets_of l.count h (drop l.from-index l.flows) ≡ targets_of l.count h l.flows;
}
