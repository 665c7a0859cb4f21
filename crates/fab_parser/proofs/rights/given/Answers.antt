use Rattle.std.proofs.Common.{refl}
use Rattle.fab_reading.proofs.Rules.{stop_open}
use Rattle.fab_expressions.specs.Pieces.{after_arguments}
use Rattle.fab_parser.proofs.Chains.{exit, texts, led_last, ◌>>◌, ◌>|◌, inside, outside, led_last_stops, last_sign, last_sign_stops}
use Rattle.fab_parser.proofs.PartRules.{brackets_start}
use Rattle.fab_parser.proofs.rights.given.Goals as goal

pub returns-in_err-rest : goal.returns-in_err-rest
returns-in_err-rest c =
    exit _ _ _ c.from_residual.result c.from_residual.ensures.1
    (stop_open c.in_err-rest.field-0.0 (brackets_start c.args.tokens.now) c.in_err-rest.ensures refl (search texts))

pub returns-in_err-inside : goal.returns-in_err-inside
returns-in_err-inside c =
    exit _ _ _ c.from_residual-in_err-inside.result c.from_residual-in_err-inside.ensures.1
    (led_last_stops after_arguments c.in_err-inside.field-0.0 (brackets_start c.args.tokens.now >| inside c.in_ok-rest.ensures (λ r. refl)) c.in_err-inside.ensures
    refl)

pub returns-in_err-rest-2 : goal.returns-in_err-rest-2
returns-in_err-rest-2 c =
    exit _ _ _ c.from_residual-in_err-rest-2.result c.from_residual-in_err-rest-2.ensures.1
    (last_sign_stops c.in_err-rest-2.field-0.0 (brackets_start c.args.tokens.now >| inside c.in_ok-rest.ensures (λ r. refl) >> led_last c.in_ok-inside.ensures refl)
    c.in_err-rest-2.ensures)

pub returns : goal.returns
returns c =
    last_sign (brackets_start c.args.tokens.now >| inside c.in_ok-rest.ensures (λ r. refl) >> led_last c.in_ok-inside.ensures refl)
    (outside _ c.in_ok-rest-2.ensures c.in_ok-rest.ensures.1 (λ r. refl))
