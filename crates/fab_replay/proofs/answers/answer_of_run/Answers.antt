use Rattle.std.proofs.Common.{◌∙◌, Some, None}
use Rattle.fab_replay.proofs.Accepted.{are_numbered}
use Rattle.fab_replay.proofs.Marks.{first_of_log}
use Rattle.fab_replay.proofs.answers.answer_of_run.Goals as goal

pub told_of-requires-clause-numbered : goal.told_of-requires-clause-numbered
told_of-requires-clause-numbered g c = are_numbered c.args.core.now.given c.is_a_run.ensures.given c.deref.result.now (c.deref.ensures ∙ c.start.ensures)

pub returns-in-Some : goal.returns-in-Some
returns-in-Some g c =
    let core = c.args.core.now in
    record { told = ((c.requires.over, first_of_log core.given core.moves c.log.result.now c.first_mark.result (Some c.in-Some.node) c.log.ensures c.first_mark.ensures c.in-Some.is), c.in_ok-report.ensures, c.requires.counted.counts) }

pub returns-in-None : goal.returns-in-None
returns-in-None g c =
    let core = c.args.core.now in
    record { told = ((c.requires.over, first_of_log core.given core.moves c.log.result.now c.first_mark.result None c.log.ensures c.first_mark.ensures c.in-None.is), c.in_ok-report.ensures, c.requires.counted.counts) }
