use Rattle.fab_eval.proofs.whole.evaluate.Goals as goal

pub returns-in-Ok-start-clause-done : goal.returns-in-Ok-start-clause-done
returns-in-Ok-start-clause-done c = c.done_of.ensures c.args.job c.in-Ok-start.ensures.turn
