use Rattle.std.proofs.Common.{None, map, drop}
use Rattle.fab_protocol.specs.Stores.{Write, item_name, reads_in, reasons_in}
use Rattle.fab_store.proofs.Reasons.{Left}
use Rattle.fab_store.proofs.store.Store.writes_refusal.Given as goal

-- what is left decides
abbrev pub invariant-loop-write : goal.invariant-loop-write
invariant-loop-write l =
    Left (reasons_in l.self.rights l.self.node l.sender l.tid l.self.shelf (map item_name (reads_in l.items)) None (map (λ w. Write w.0 w.1 w.2) l.write-items))
    (reasons_in l.self.rights l.self.node l.sender l.tid l.self.shelf (map item_name (reads_in l.items)) l.before (map (λ w. Write w.0 w.1 w.2) (drop l.write-index l.write-items)))
