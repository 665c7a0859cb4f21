use Rattle.std.proofs.Common.{◌≡◌, map, take}
use Rattle.fab_base.specs.declared.message.Message.TheVariants.{Prepare}
use Rattle.fab_protocol.specs.Parts.{items_at}
use Rattle.fab_sent.specs.Messages.{all_spelled}
use Rattle.fab_parts.proofs.asking.prepares.Given as goal

abbrev pub invariant-loop-store : goal.invariant-loop-store
invariant-loop-store l = l.sends ≡ all_spelled (map (λ s. (s, Prepare l.fn.tid (items_at l.parts s))) (take l.store-index l.stores))
