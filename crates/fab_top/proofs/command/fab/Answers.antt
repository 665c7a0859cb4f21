use Rattle.std.proofs.Common.{rules}
use Rattle.fab_asked.specs.Words.{asked_by}
use Rattle.fab_reply.proofs.Answered.{nothing_done, of_task}
use Rattle.fab_top.proofs.command.fab.Goals as goal

pub returns-in-Ok : goal.returns-in-Ok
returns-in-Ok g c = record { done = of_task c.in-Ok.ensures.asked c.done.ensures.done }

pub returns-in-Err : goal.returns-in-Err
returns-in-Err g c =
    let J = g.M.Journals in
    record { done = nothing_done (asked_by c.args.words.now) g.S.Source.left g.S.Source.faults c.args.source.now g.K.Sink.written g.K.Sink.faults c.args.sink.now J.seen c.args.journals.now }

-- threads go on from each start, whatever is read beside the run
pub done-requires-clause-course : goal.done-requires-clause-course
done-requires-clause-course g c κs bounds = λ x makes first start. (λ reading. (start.moves, (start.unfailed, search rules)), λ result came. search rules)
