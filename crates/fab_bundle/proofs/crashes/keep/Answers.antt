use Rattle.fab_reading.specs.Reading.{any}
use Rattle.fab_reading.proofs.Rules.{whole}
use Rattle.fab_parser.proofs.Chains.{exit}
use Rattle.fab_parser.proofs.PartRules.{any_weak, last_read, last_stops}
use Rattle.fab_bundle.specs.Pieces.{after_number}
use Rattle.fab_bundle.proofs.PostRules.{kept_none, kept_some}
use Rattle.fab_bundle.proofs.crashes.keep.Goals as goal

pub returns-in-None : goal.returns-in-None
returns-in-None c = whole (kept_none c.args.tokens.now c.in-None.ensures)

pub returns-in_err-kept-in-Some : goal.returns-in_err-kept-in-Some
returns-in_err-kept-in-Some c =
    exit _ _ _ c.from_residual.result c.from_residual.ensures.1
    (last_stops any (any_weak after_number) c.in_err-kept-in-Some.field-0.0 (kept_some c.in-Some.ensures) c.in_err-kept-in-Some.ensures)

pub returns-in_ok-kept-in-Some : goal.returns-in_ok-kept-in-Some
returns-in_ok-kept-in-Some c = last_read (any_weak after_number) (kept_some c.in-Some.ensures) c.in_ok-kept-in-Some.ensures
