use Rattle.fab_reply.proofs.Answered.{answered, done_of}
use Rattle.fab_reply.proofs.command.answer.Goals as goal

pub returns : goal.returns
returns g c =
    let J = g.M.Journals in
    let e = c.run.ensures in
    record {
      done = done_of c.args.asked c.run.result g.S.Source.left g.S.Source.faults c.args.source.now c.run.new.source g.K.Sink.written g.K.Sink.faults c.args.sink.now c.run.new.sink
          J.seen c.args.journals.now c.run.new.journals e.means
          (answered (Unit {0}) c.args.asked c.run.result (g.S.Source.left c.args.source.now) (g.S.Source.left c.run.new.source) g.K.Sink.written g.K.Sink.faults c.args.sink.now c.run.new.sink
          J.seen c.args.journals.now c.run.new.journals e.means e.write e.sink_faults e.sink_unfailed e.untouched e.faulty e.told)
          e.was_asked e.unread e.taken e.read e.unwritten e.source_faults e.source_unfailed;
    }
