use Rattle.std.proofs.Common.{◌∙◌, Some, ap, sym}
use Rattle.fab_reply.proofs.Answered.{drilled, generated, of_task}
use Rattle.fab_top.proofs.tasks.done.Goals as goal

pub returns-in-None : goal.returns-in-None
returns-in-None g c = record { done = of_task (sym c.in-None.is) c.answer.ensures.done }

pub returns-in-Some-Reply : goal.returns-in-Some-Reply
returns-in-Some-Reply g c = record { done = of_task (sym (c.in-Some-Reply.is ∙ ap Some c.in-Some-Reply.field-0-is)) c.answer-in-Some-Reply.ensures.done }

pub returns-in-Some-Generate : goal.returns-in-Some-Generate
returns-in-Some-Generate g c =
    let J = g.M.Journals in
    let e = c.generate.ensures in
    record {
      done = of_task (sym (c.in-Some-Generate.is ∙ ap Some c.in-Some-Generate.field-0-is))
          (generated c.in-Some-Generate.number c.in-Some-Generate.size c.generate.result g.S.Source.left g.S.Source.faults c.args.source.now g.K.Sink.written g.K.Sink.faults c.args.sink.now
          c.generate.new.sink J.seen c.args.journals.now e.text e.failed e.later e.unfailed);
    }

pub returns-in-Some-Drill : goal.returns-in-Some-Drill
returns-in-Some-Drill g c =
    let J = g.M.Journals in
    let e = c.drill.ensures in
    record {
      done = of_task (sym (c.in-Some-Drill.is ∙ ap Some c.in-Some-Drill.field-0-is))
          (drilled c.in-Some-Drill.number c.in-Some-Drill.size c.drill.result g.S.Source.left g.S.Source.faults c.args.source.now g.K.Sink.written g.K.Sink.faults c.args.sink.now
          c.drill.new.sink J.seen c.args.journals.now c.drill.new.journals e.answered e.read_never e.usage_never);
    }
