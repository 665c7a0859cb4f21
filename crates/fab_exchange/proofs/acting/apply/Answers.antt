use Rattle.fab_exchange.proofs.Owning.{event_changes}
use Rattle.fab_exchange.proofs.acting.apply.Goals as goal

pub returns-clause-journals : goal.returns-clause-journals
returns-clause-journals g c =
    event_changes c.args.core.now c.apply-applied.new.self c.apply-applied.ensures.given c.journals_are.ensures c.journals_are-2.ensures c.args.event c.requires.enabled
    c.apply-applied.ensures.cause
