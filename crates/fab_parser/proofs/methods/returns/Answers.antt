use Rattle.fab_reading.specs.Reading.{any}
use Rattle.fab_parser.proofs.Chains.{exit}
use Rattle.fab_parser.specs.Pieces.{after_parameters}
use Rattle.fab_parser.proofs.MethodRules.{returns_none, returns_some}
use Rattle.fab_parser.proofs.PartRules.{any_weak, last_read, last_stops}
use Rattle.fab_parser.proofs.methods.returns.Goals as goal

pub returns-in-None : goal.returns-in-None
returns-in-None c = returns_none c.args.tokens.now c.in-None.ensures

pub returns-in_err-returns-in-Some : goal.returns-in_err-returns-in-Some
returns-in_err-returns-in-Some c =
    exit _ _ _ c.from_residual.result c.from_residual.ensures.1
    (last_stops any (any_weak after_parameters) c.in_err-returns-in-Some.field-0.0 (returns_some c.in-Some.ensures) c.in_err-returns-in-Some.ensures)

pub returns-in_ok-returns-in-Some : goal.returns-in_ok-returns-in-Some
returns-in_ok-returns-in-Some c = last_read (any_weak after_parameters) (returns_some c.in-Some.ensures) c.in_ok-returns-in-Some.ensures
