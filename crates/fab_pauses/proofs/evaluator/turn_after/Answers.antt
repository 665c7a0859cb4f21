use Rattle.std.proofs.Common.{◌∙◌, ap}
use Rattle.fab_eval.specs.Answered.{Pending}
use Rattle.fab_pauses.proofs.evaluator.turn_after.Goals as goal

pub returns-in-Ok-clause-program : goal.returns-in-Ok-clause-program
returns-in-Ok-clause-program c = c.in-Ok.ensures.program ∙ c.in-Some.ensures.last c.args.program.now c.requires.last

pub returns-in-Some-clause-left : goal.returns-in-Some-clause-left
returns-in-Some-clause-left c = ap (λ (p : Pending). p.job.program.value) c.in-Err.ensures.refused ∙ c.in-Some.ensures.last c.args.program.now c.requires.last
