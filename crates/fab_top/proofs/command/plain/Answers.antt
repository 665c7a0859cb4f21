use Rattle.std.proofs.Common.{sym, subst}
use Rattle.std.proofs.lemmas.Bool.{false≢true}
use Rattle.fab_asked.specs.Words.{asked_by}
use Rattle.fab_replay.specs.Replays.{is_scheduled}
use Rattle.fab_reply.specs.Replays.{CanMake}
use Rattle.fab_reply.specs.Tasks.{command_in}
use Rattle.fab_reply.proofs.Answered.{nothing_done, of_task}
use Rattle.fab_reply.proofs.Wishes.{by_hand}
use Rattle.fab_top.proofs.command.plain.Goals as goal

pub returns-in-Ok : goal.returns-in-Ok
returns-in-Ok g c = record { done = of_task c.in-Ok.ensures.asked c.done.ensures.done }

pub returns-in-Err : goal.returns-in-Err
returns-in-Err g c =
    let J = g.M.Journals in
    record { done = nothing_done (asked_by c.args.words.now) g.S.Source.left g.S.Source.faults c.args.source.now g.K.Sink.written g.K.Sink.faults c.args.sink.now J.seen c.args.journals.now }

pub done-requires-clause-made : goal.done-requires-clause-made
done-requires-clause-made g c κs bounds = subst (λ task. CanMake is_scheduled (command_in task)) (sym c.in-Ok.ensures.asked) (by_hand (command_in (asked_by c.args.words.now)) c.requires)

-- a replay's course makes no runs by itself
pub done-requires-clause-course : goal.done-requires-clause-course
done-requires-clause-course g c κs bounds = λ x makes. absurd (false≢true makes)
