use Rattle.std.proofs.Common.{Some, []}
use Rattle.fab_reply.proofs.Answered.{answered}
use Rattle.fab_reply.proofs.Endings.{only_unasked}
use Rattle.fab_reply.proofs.at_hand.answer_text.Goals as goal

pub returns-clause-answered : goal.returns-clause-answered
returns-clause-answered g c =
    let J = g.M.Journals in
    let e = c.run_text.ensures in
    answered (Unit {0}) (Some c.args.command) c.run_text.result (Some c.args.text.now) (Some []) g.K.Sink.written g.K.Sink.faults c.args.sink.now c.run_text.new.sink
    J.seen c.args.journals.now c.run_text.new.journals e.means e.write e.sink_faults e.sink_unfailed e.untouched e.faulty e.told

pub returns-clause-usage_never : goal.returns-clause-usage_never
returns-clause-usage_never g c is =
    let J = g.M.Journals in
    absurd (let none = only_unasked (Some c.args.command) (Some c.args.text.now) (Some []) (g.K.Sink.written c.args.sink.now) (g.K.Sink.written c.run_text.new.sink) (J.seen c.args.journals.now) (J.seen c.run_text.new.journals)
    c.run_text.result c.run_text.ensures.means is in cc)
