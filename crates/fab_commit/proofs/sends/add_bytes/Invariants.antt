use Rattle.std.proofs.Common.{◌≡◌, ◌++◌, map, take}
use Rattle.fab_commit.proofs.sends.add_bytes.Given as goal

abbrev pub invariant-loop-store : goal.invariant-loop-store
invariant-loop-store l = l.sends ≡ l.initial.sends ++ map (λ s. (s, l.bytes)) (take l.store-index l.stores)
