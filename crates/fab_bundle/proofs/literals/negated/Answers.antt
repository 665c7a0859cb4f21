use Rattle.fab_bundle.proofs.LiteralRules.{negated_read, negated_refused}
use Rattle.fab_bundle.proofs.literals.negated.Goals as goal

pub returns-in-Some : goal.returns-in-Some
returns-in-Some c = negated_read c.in-Some.ensures

pub returns-in-None : goal.returns-in-None
returns-in-None c = negated_refused c.args.tokens.now c.in-None.ensures
