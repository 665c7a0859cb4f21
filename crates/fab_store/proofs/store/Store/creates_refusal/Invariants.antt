use Rattle.std.proofs.Common.{None, ◌++◌, map, drop}
use Rattle.fab_protocol.specs.Stores.{Create, item_name, reads_in, writes_in, reasons_in}
use Rattle.fab_store.proofs.Reasons.{Left}
use Rattle.fab_store.proofs.store.Store.creates_refusal.Given as goal

-- what is left decides
abbrev pub invariant-loop-create : goal.invariant-loop-create
invariant-loop-create l =
    Left (reasons_in l.self.rights l.self.node l.sender l.tid l.self.shelf (map item_name (reads_in l.items ++ writes_in l.items)) None (map (λ c. Create c.0 c.1) l.create-items))
    (reasons_in l.self.rights l.self.node l.sender l.tid l.self.shelf (map item_name (reads_in l.items ++ writes_in l.items)) l.before (map (λ c. Create c.0 c.1) (drop l.create-index l.create-items)))
