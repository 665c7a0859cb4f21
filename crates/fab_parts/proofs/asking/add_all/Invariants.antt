use Rattle.std.proofs.Common.{◌≡◌, ◌++◌, take}
use Rattle.fab_sent.specs.Messages.{all_spelled}
use Rattle.fab_world.specs.Workers.{to_all}
use Rattle.fab_parts.proofs.asking.add_all.Given as goal

abbrev pub invariant-loop-store : goal.invariant-loop-store
invariant-loop-store l = l.sends ≡ l.initial.sends ++ all_spelled (to_all (take l.store-index l.stores) l.message)
