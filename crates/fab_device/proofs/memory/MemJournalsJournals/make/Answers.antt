use Rattle.std.proofs.Common.{◌≡◌, [], rules, refl}
use Rattle.fab_base.specs.Faults.{opening_calls}
use Rattle.fab_device.specs.Kept.{all_under}
use Rattle.fab_device.proofs.Under.{none_under}
use Rattle.fab_device.proofs.memory.MemJournalsJournals.make.Goals as goal

pub returns-clause-sure : goal.returns-clause-sure
returns-clause-sure c = λ never.
    let none : all_under c.args.node.now c.args.self.now.fails ≡ [] = none_under _ _ never in
    let opened : c.in_ok-journal.journal.calls ≡ opening_calls (all_under c.args.node.now c.args.self.now.fails) = search rules in
    rw (opened, none) refl
