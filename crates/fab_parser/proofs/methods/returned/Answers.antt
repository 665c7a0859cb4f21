use Rattle.fab_reading.specs.Reading.{any}
use Rattle.fab_reading.proofs.Rules.{whole}
use Rattle.fab_parser.proofs.Chains.{exit}
use Rattle.fab_parser.specs.Pieces.{after_body}
use Rattle.fab_parser.proofs.MethodRules.{result_none, result_some}
use Rattle.fab_parser.proofs.PartRules.{any_weak, last_read, last_stops}
use Rattle.fab_parser.proofs.methods.returned.Goals as goal

pub returns-in-None : goal.returns-in-None
returns-in-None c = whole (result_none c.args.tokens.now c.in-None.ensures)

pub returns-in_err-value-in-Some : goal.returns-in_err-value-in-Some
returns-in_err-value-in-Some c =
    exit _ _ _ c.from_residual.result c.from_residual.ensures.1
    (last_stops any (any_weak after_body) c.in_err-value-in-Some.field-0.0 (result_some c.in-Some.ensures) c.in_err-value-in-Some.ensures)

pub returns-in_ok-value-in-Some : goal.returns-in_ok-value-in-Some
returns-in_ok-value-in-Some c = rw c.place-at.ensures (last_read (any_weak after_body) (result_some c.in-Some.ensures) c.in_ok-value-in-Some.ensures)
