use Rattle.std.proofs.Common.{◌≡◌, ◌++◌, map, length, [], None}
use Rattle.fab_base.specs.declared.message.Message.TheVariants.{Inquire}
use Rattle.fab_store.proofs.store.Store.asks.Given as goal

-- what is asked of those that are left is all that is still to be asked
abbrev pub invariant-loop-transaction : goal.invariant-loop-transaction
invariant-loop-transaction l = record {
  entry : l.said.entry ≡ None;
  sends : l.said.sends ++ map (λ p. (p.0.worker, Inquire p.0)) l.rest ≡ map (λ p. (p.0.worker, Inquire p.0)) l.self.shelf.prepared;
  notes : l.said.notes ≡ [];
}

abbrev pub decreases-loop-transaction : goal.decreases-loop-transaction
decreases-loop-transaction l = length l.rest
