use Rattle.std.proofs.Common.{◌∙◌}
use Rattle.fab_threads.proofs.running.run_turning.Goals as goal

pub returns-in-Ok-finish-clause-sure : goal.returns-in-Ok-finish-clause-sure
returns-in-Ok-finish-clause-sure g c = λ n. c.in-Ok-finish.ensures.sure n ∙ c.in-Ok.ensures.sure n

pub returns-in-Err-finish-clause-back_sure : goal.returns-in-Err-finish-clause-back_sure
returns-in-Err-finish-clause-back_sure g c = λ n. c.in-Err-finish.ensures.back_sure n ∙ c.in-Ok.ensures.sure n
