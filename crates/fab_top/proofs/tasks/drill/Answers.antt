use Rattle.std.proofs.Common.{◌∙◌, [], Some}
use Rattle.fab_command.specs.declared.command.Command.TheVariants.{Run}
use Rattle.fab_command.specs.declared.command.Telling.TheVariants.{Summary}
use Rattle.fab_gen.specs.Generated.{generated_text}
use Rattle.fab_reply.proofs.Answered.{nothing_came, of_text}
use Rattle.fab_top.proofs.tasks.drill.Goals as goal

-- what is said of the text that was given is said of the one that is generated
pub returns-in-Ok-clause-answered : goal.returns-in-Ok-clause-answered
returns-in-Ok-clause-answered g c = of_text (c.as_slice.ensures ∙ c.in-Ok.ensures) c.answer_text.ensures.answered

pub returns-in-Err-clause-answered : goal.returns-in-Err-clause-answered
returns-in-Err-clause-answered g c =
    let J = g.M.Journals in
    nothing_came (Unit {0}) (Some (Run Summary)) (Some (generated_text c.args.number c.args.size)) (Some []) g.K.Sink.written g.K.Sink.faults c.args.sink.now J.seen c.args.journals.now
