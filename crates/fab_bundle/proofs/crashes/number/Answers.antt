use Rattle.fab_bundle.proofs.LiteralRules.{numeral_read, numeral_refused}
use Rattle.fab_bundle.proofs.crashes.number.Goals as goal

pub returns-in-Some : goal.returns-in-Some
returns-in-Some c = numeral_read c.in-Some.ensures

pub returns-in-None : goal.returns-in-None
returns-in-None c = numeral_refused c.args.tokens.now c.in-None.ensures
