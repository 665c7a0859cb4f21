use Rattle.fab_reading.specs.Reading.{any}
use Rattle.fab_parser.proofs.Chains.{exit}
use Rattle.fab_parser.proofs.PartRules.{any_weak, last_read, last_stops}
use Rattle.fab_parser.proofs.RightRules.{called_start}
use Rattle.fab_parser.proofs.rights.called.Goals as goal

pub returns-in_err-arguments : goal.returns-in_err-arguments
returns-in_err-arguments c =
    exit _ _ _ c.from_residual.result c.from_residual.ensures.1
    (last_stops any (any_weak any) c.in_err-arguments.field-0.0 (called_start c.args.tokens.now) c.in_err-arguments.ensures)

pub returns : goal.returns
returns c = last_read (any_weak any) (called_start c.args.tokens.now) c.in_ok-arguments.ensures
