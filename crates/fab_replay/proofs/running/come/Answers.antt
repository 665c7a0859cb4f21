use Rattle.std.proofs.Common.{◌≡◌, true, refl, rules}
use Rattle.std.specs.Option.{option_copied}
use Rattle.fab_replay.proofs.Behind.{then_event, then_none}
use Rattle.fab_replay.proofs.Steps.{came_after, still_may, still_with}
use Rattle.fab_replay.proofs.running.come.Goals as goal

pub enact-requires-clause-may : goal.enact-requires-clause-may
enact-requires-clause-may g c =
    let may : c.in_ok-may.may ≡ true = search rules in
    still_may c.args.core.now c.enabled.new.self c.args.event c.enabled.ensures.given c.enabled.ensures.moves c.in_ok-may.may c.in_ok-may.ensures.answer may

pub enact-requires-clause-done : goal.enact-requires-clause-done
enact-requires-clause-done g c =
    let over = option_copied c.args.done in
    still_with c.args.core.now c.enabled.new.self c.args.event c.enabled.ensures.given c.enabled.ensures.moves over over refl c.requires.done

pub returns-clause-came : goal.returns-clause-came
returns-clause-came g c =
    came_after c.args.core.now c.enabled.new.self c.args.event c.enabled.ensures.given c.enabled.ensures.moves c.enact.result c.enact.new.core.moves c.enact.ensures.came

pub returns-clause-journals : goal.returns-clause-journals
returns-clause-journals g c =
    then_event c.args.event c.enact.result c.args.core.now.journals c.enabled.new.self.journals c.enact.new.core.journals c.enabled.ensures.journals c.enact.ensures.journals

pub returns-clause-still : goal.returns-clause-still
returns-clause-still g c =
    then_none c.enact.result c.args.core.now.journals c.enabled.new.self.journals c.enact.new.core.journals c.enabled.ensures.journals c.enact.ensures.still
