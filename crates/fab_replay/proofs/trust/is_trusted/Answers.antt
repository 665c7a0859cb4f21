use Rattle.fab_replay.proofs.Trusting.{trusted_run}
use Rattle.fab_replay.proofs.trust.is_trusted.Goals as goal

pub returns : goal.returns
returns g c =
    let core = c.args.core.now in
    trusted_run c.trusted_replay_agrees.ensures.agrees c.trusted_replay_agrees.ensures.outside c.robust_values_trusted.ensures core.given c.is_a_run.ensures.given core.moves c.is_a_run.ensures.run
