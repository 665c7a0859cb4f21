use Rattle.fab_gen.specs.Generated.{generated_text}
use Rattle.fab_reply.proofs.Fronts.{none_written}
use Rattle.fab_top.proofs.tasks.generate.Goals as goal

pub returns-in-Err-clause-text : goal.returns-in-Err-clause-text
returns-in-Err-clause-text g c = none_written (g.K.Sink.written c.args.sink.now) (generated_text c.args.number c.args.size)
