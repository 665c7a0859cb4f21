use Rattle.fab_authority.proofs.Deciding.{flows_decided, flows_to_itself}
use Rattle.fab_check.proofs.verdicts.Verdicts.ask_flows.Goals as goal

pub returns-then-from-to : goal.returns-then-from-to
returns-then-from-to c = flows_to_itself c.args.self.now.start c.args.from c.args.to c.if-from-to.true

pub returns : goal.returns
returns c =
    flows_decided c.args.self.now.start c.flows.result c.acts.result.now c.acts.ensures c.args.from c.args.to c.label.result.now c.label-2.result.now c.label.ensures c.label-2.ensures c.flows.ensures.exact
