use Rattle.fab_picture.specs.Moves.{most_events}
use Rattle.fab_picture.proofs.Windows.{windowed}
use Rattle.fab_picture.proofs.pictures.within.Goals as goal

pub returns-clause-events : goal.returns-clause-events
returns-clause-events c =
    windowed c.args.from c.args.to c.min.result c.saturating_sub-skipped.result c.min-2.result most_events c.min-3.result c.args.events.now
    c.min.ensures c.saturating_sub-skipped.ensures c.min-2.ensures c.min-3.ensures
