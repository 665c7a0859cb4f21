use Rattle.fab_tree.specs.Statements.{declassify, endorse}
use Rattle.fab_parser.proofs.RightRules.{no_downgrade}
use Rattle.fab_parser.proofs.rights.downgrade.Goals as goal

pub returns-in-Some : goal.returns-in-Some
returns-in-Some c = declassify c.in-Some.ensures

pub returns-in-Some-behind : goal.returns-in-Some-behind
returns-in-Some-behind c = endorse c.in-Some-behind.ensures

pub returns-in-None : goal.returns-in-None
returns-in-None c = no_downgrade c.args.tokens.now c.in_default.ensures c.in-None.ensures
