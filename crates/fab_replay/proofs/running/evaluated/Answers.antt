use Rattle.fab_replay.proofs.Resting.{none_evaluates, told_done}
use Rattle.fab_replay.proofs.running.evaluated.Goals as goal

pub returns-in-None-clause-done : goal.returns-in-None-clause-done
returns-in-None-clause-done g c = λ done is up busy.
    absurd (none_evaluates c.args.core.now.given c.args.core.now.moves c.args.worker c.in_ok-job.field-0 c.is_a_run.ensures.run c.in_ok-job.ensures.job c.in-None.is up busy)

pub returns-then-went-clause-done : goal.returns-then-went-clause-done
returns-then-went-clause-done g c = λ done is up busy.
    told_done c.args.core.now.given c.args.core.now.moves c.args.worker c.went_on.new.evaluators done (c.in_ok-went.ensures.last c.if-went.true) is
