use Rattle.fab_replay.proofs.Isolating.{isolated_run}
use Rattle.fab_replay.proofs.isolated.is_isolated.Goals as goal

pub returns : goal.returns
returns g c =
    let core = c.args.core.now in
    isolated_run c.bundles_are_isolated.ensures core.given c.is_a_run.ensures.given core.moves c.is_a_run.ensures.run
