use Rattle.fab_reading.specs.Reading.{any}
use Rattle.fab_parser.proofs.Chains.{exit}
use Rattle.fab_parser.proofs.PartRules.{any_weak, last_read, last_stops}
use Rattle.fab_parser.proofs.NodeRules.{principal_read, hostile_start, honest_start}
use Rattle.fab_parser.proofs.nodes.role.Goals as goal

pub returns-in-Some : goal.returns-in-Some
returns-in-Some c = principal_read c.in-Some.ensures

pub returns-in_err-role-in-Some-behind : goal.returns-in_err-role-in-Some-behind
returns-in_err-role-in-Some-behind c =
    exit _ _ _ c.from_residual.result c.from_residual.ensures.1
    (last_stops any (any_weak any) c.in_err-role-in-Some-behind.field-0.0 (hostile_start c.in-Some-behind.ensures) c.in_err-role-in-Some-behind.ensures)

pub returns-in_ok-role-in-Some-behind : goal.returns-in_ok-role-in-Some-behind
returns-in_ok-role-in-Some-behind c = last_read (any_weak any) (hostile_start c.in-Some-behind.ensures) c.in_ok-role-in-Some-behind.ensures

pub returns-in_err-role-in-None : goal.returns-in_err-role-in-None
returns-in_err-role-in-None c =
    exit _ _ _ c.from_residual-in_err-role-in-None.result c.from_residual-in_err-role-in-None.ensures.1
    (last_stops any (any_weak any) c.in_err-role-in-None.field-0.0 (honest_start c.args.tokens.now c.in_default.ensures c.in-None.ensures)
    c.in_err-role-in-None.ensures)

pub returns-in_ok-role-in-None : goal.returns-in_ok-role-in-None
returns-in_ok-role-in-None c =
    last_read (any_weak any) (honest_start c.args.tokens.now c.in_default.ensures c.in-None.ensures) c.in_ok-role-in-None.ensures
