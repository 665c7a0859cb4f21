use Rattle.std.proofs.Common.{refl}
use Rattle.fab_parser.specs.Pieces.{after_right}
use Rattle.fab_parser.proofs.Chains.{exit, led_last, ◌>>◌, led_last_stops, last_sign, last_sign_stops}
use Rattle.fab_parser.proofs.StatementParts.{assigned_start}
use Rattle.fab_parser.proofs.statements.assigned.Goals as goal

pub returns-in_err-right : goal.returns-in_err-right
returns-in_err-right c =
    exit _ _ _ c.from_residual.result c.from_residual.ensures.1
    (led_last_stops after_right c.in_err-right.field-0.0 (assigned_start c.args.tokens.now) c.in_err-right.ensures refl)

pub returns-in_err-rest : goal.returns-in_err-rest
returns-in_err-rest c =
    exit _ _ _ c.from_residual-in_err-rest.result c.from_residual-in_err-rest.ensures.1
    (last_sign_stops c.in_err-rest.field-0.0 (assigned_start c.args.tokens.now >> led_last c.in_ok-right.ensures refl) c.in_err-rest.ensures)

pub returns : goal.returns
returns c = last_sign (assigned_start c.args.tokens.now >> led_last c.in_ok-right.ensures refl) (c.in_ok-rest.ensures, refl)
