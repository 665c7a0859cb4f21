use Rattle.fab_reading.proofs.NumberRules.{least_at, no_least_starts}
use Rattle.fab_reading.proofs.numbers.least.Goals as goal

pub returns-in-None : goal.returns-in-None
returns-in-None c = no_least_starts c.args.tokens.now c.in-None.ensures

pub returns-in-Some : goal.returns-in-Some
returns-in-Some c = let x = c.in-Some.ensures in least_at x.1 x.2
