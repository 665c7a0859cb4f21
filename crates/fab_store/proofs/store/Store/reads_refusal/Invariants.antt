use Rattle.std.proofs.Common.{None, [], map, drop}
use Rattle.fab_protocol.specs.Stores.{Read, reasons_in}
use Rattle.fab_store.proofs.Reasons.{Left}
use Rattle.fab_store.proofs.store.Store.reads_refusal.Given as goal

-- what is left decides
abbrev pub invariant-loop-read : goal.invariant-loop-read
invariant-loop-read l =
    Left (reasons_in l.self.rights l.self.node l.sender l.tid l.self.shelf [] None (map (λ r. Read r.0 r.1) l.read-items))
    (reasons_in l.self.rights l.self.node l.sender l.tid l.self.shelf [] l.before (map (λ r. Read r.0 r.1) (drop l.read-index l.read-items)))
