use Rattle.fab_reading.specs.Reading.{begins_literal}
use Rattle.fab_bundle.specs.Firsts.{given_begins}
use Rattle.fab_reading.proofs.Rules.{here_end}
use Rattle.fab_parser.proofs.Chains.{exit}
use Rattle.fab_bundle.proofs.LiteralRules.{given_read, given_stops, given_text}
use Rattle.fab_bundle.proofs.literals.given.Goals as goal

pub returns-in-None : goal.returns-in-None
returns-in-None c = here_end begins_literal given_begins given_text c.in-None.ensures

pub returns-in_err-literal-in-Some : goal.returns-in_err-literal-in-Some
returns-in_err-literal-in-Some c =
    exit _ _ _ c.from_residual.result c.from_residual.ensures.1
    (given_stops c.args.room c.args.tokens.now c.in_err-literal-in-Some.field-0.0 c.in_err-literal-in-Some.ensures)

pub returns-in_ok-literal-in-Some : goal.returns-in_ok-literal-in-Some
returns-in_ok-literal-in-Some c = given_read c.in-Some.ensures c.in_ok-literal-in-Some.ensures
