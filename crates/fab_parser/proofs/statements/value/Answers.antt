use Rattle.std.proofs.Common.{refl}
use Rattle.fab_expressions.specs.Pieces.{after_expression}
use Rattle.fab_parser.proofs.Chains.{exit, led_last, ◌>>◌, led_last_stops, last_sign, last_sign_stops, ended_start}
use Rattle.fab_parser.proofs.statements.value.Goals as goal

pub returns-in_err-inside : goal.returns-in_err-inside
returns-in_err-inside c =
    exit _ _ _ c.from_residual.result c.from_residual.ensures.1
    (led_last_stops after_expression c.in_err-inside.field-0.0 (ended_start c.args.tokens.now) c.in_err-inside.ensures refl)

pub returns-in_err-rest : goal.returns-in_err-rest
returns-in_err-rest c =
    exit _ _ _ c.from_residual-in_err-rest.result c.from_residual-in_err-rest.ensures.1
    (last_sign_stops c.in_err-rest.field-0.0 (ended_start c.args.tokens.now >> led_last c.in_ok-inside.ensures refl) c.in_err-rest.ensures)

pub returns : goal.returns
returns c = last_sign (ended_start c.args.tokens.now >> led_last c.in_ok-inside.ensures refl) (c.in_ok-rest.ensures, refl)
