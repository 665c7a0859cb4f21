use Rattle.fab_command.specs.declared.command.Command.TheVariants as asks
use Rattle.fab_front.specs.Lines.{name_line}
use Rattle.fab_front.specs.declared.status.Status.TheVariants as status
use Rattle.fab_front.proofs.Accepting.{if_told, within}
use Rattle.fab_answers.specs.Says.{IsSaid}
use Rattle.fab_answers.proofs.Saying.{name_said}
use Rattle.fab_answers.proofs.bundles.flows.Goals as goal

pub named-requires : goal.named-requires
named-requires c = within c.requires.is

pub returns-in-Err : goal.returns-in-Err
returns-in-Err c =
    let x = c.in-Err.fault in
    let p = rw c.in-Err.is at c.in_ok-resolved.ensures in
    let command = asks.Flows c.args.from.now c.args.to.now in
    if_told (IsSaid command c.args.text.now) (status.Name x.rule x.at) (name_line x.rule x.at) c.refused.result c.refused.ensures
    (name_said c.requires {command = command} tt p)
