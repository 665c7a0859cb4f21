use Rattle.fab_threads.proofs.Told.{over_told}
use Rattle.fab_threads.proofs.turning.ExchangeTurning.next.Goals as goal

pub returns-clause-over : goal.returns-clause-over
returns-clause-over g c =
    over_told c.args.node c.args.self.now c.next.new.self c.next.result c.next.ensures.given c.next.ensures.turns
