use Rattle.fab_parser.proofs.Chains.{exit}
use Rattle.fab_parser.proofs.LabelRules.{readers_read, writers_read, aspect_stops}
use Rattle.fab_parser.proofs.labels.aspect.Goals as goal

pub returns-in-Some : goal.returns-in-Some
returns-in-Some c = readers_read c.in-Some.ensures

pub returns-in_err-rest-in-None : goal.returns-in_err-rest-in-None
returns-in_err-rest-in-None c =
    exit _ _ _ c.from_residual.result c.from_residual.ensures.1
    (aspect_stops c.args.room c.args.tokens.now c.in_err-rest-in-None.field-0.0 c.in-None.ensures c.in_err-rest-in-None.ensures)

pub returns-in_ok-rest-in-None : goal.returns-in_ok-rest-in-None
returns-in_ok-rest-in-None c = writers_read c.in_ok-rest-in-None.ensures
