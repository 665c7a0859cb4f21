use Rattle.std.specs.List.{fold}
use Rattle.fab_language.specs.Evaluation.{map_at_start}
use Rattle.fab_rights.specs.Computed.{has_bit}
use Rattle.fab_world.specs.Serial.{within}
use Rattle.fab_serial.specs.Replays.{behind}
use Rattle.fab_serial.proofs.Steps.{walked}
use Rattle.fab_serial.proofs.replaying.replay.Goals as goal

pub returns : goal.returns
unfolding behind
returns c =
    let ex = has_bit c.args.classes in
    λ rights. walked (behind c.args.start.now ex) c.loop-commit.map (fold (behind c.args.start.now ex) (within ex (map_at_start c.args.start.now)) c.args.commits.now)
    c.loop-commit.rest.now c.in_default.ensures.cases c.loop-commit.invariant
