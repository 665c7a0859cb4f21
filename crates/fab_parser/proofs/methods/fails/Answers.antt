use Rattle.fab_reading.proofs.Rules.{whole}
use Rattle.fab_parser.proofs.MethodRules.{fails_start, safe_start}
use Rattle.fab_parser.proofs.methods.fails.Goals as goal

pub returns-in-Some : goal.returns-in-Some
returns-in-Some c = whole (fails_start c.in-Some.ensures)

pub returns-in-None : goal.returns-in-None
returns-in-None c = whole (safe_start c.args.tokens.now c.in-None.ensures)
