use Rattle.fab_reading.specs.Reading.{any}
use Rattle.fab_parser.proofs.Chains.{exit}
use Rattle.fab_parser.proofs.PartRules.{any_weak, last_read, last_stops}
use Rattle.fab_parser.proofs.ClassRules.{int_read, named_start}
use Rattle.fab_parser.proofs.classes.sort.Goals as goal

pub returns-in-Some : goal.returns-in-Some
returns-in-Some c = int_read c.in-Some.ensures

pub returns-in_err-class-in-None : goal.returns-in_err-class-in-None
returns-in_err-class-in-None c =
    exit _ _ _ c.from_residual.result c.from_residual.ensures.1
    (last_stops any (any_weak any) c.in_err-class-in-None.field-0.0 (named_start c.args.tokens.now c.in-None.ensures) c.in_err-class-in-None.ensures)

pub returns-in_ok-class-in-None : goal.returns-in_ok-class-in-None
returns-in_ok-class-in-None c = last_read (any_weak any) (named_start c.args.tokens.now c.in-None.ensures) c.in_ok-class-in-None.ensures
