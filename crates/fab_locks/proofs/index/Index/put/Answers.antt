use Rattle.fab_locks.proofs.Agreeing.{taken_behind_part}
use Rattle.fab_locks.proofs.index.Index.put.Goals as goal

-- what was put in part is taken out
pub returns-in-Err-clause-err : goal.returns-in-Err-clause-err
returns-in-Err-clause-err c =
    taken_behind_part c.args.tid c.args.items.now c.args.number c.args.self.now c.put_in_part.new.self c.take.new.self c.in-Err.ensures.err c.take.ensures
