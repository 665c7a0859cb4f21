use Rattle.std.proofs.Common.{refl}
use Rattle.fab_base.specs.declared.token.Mark.TheVariants as m
use Rattle.fab_reading.proofs.Rules.{stop_sign, stop_open}
use Rattle.fab_expressions.specs.Pieces.{after_expression}
use Rattle.fab_parser.proofs.Chains.{exit, texts, free, led, ◌>>◌, ◌>|◌, inside, outside, mark_text, free_stops, led_stops, last_sign, last_sign_stops}
use Rattle.fab_parser.proofs.RightRules.{expression_text, lowered_start}
use Rattle.fab_parser.proofs.rights.lowered.Goals as goal

pub returns-in_err-rest : goal.returns-in_err-rest
returns-in_err-rest c =
    exit _ _ _ c.from_residual.result c.from_residual.ensures.1
    (stop_open c.in_err-rest.field-0.0 (lowered_start c.args.tokens.now) c.in_err-rest.ensures refl (search (texts, expression_text) depth 6))

pub returns-in_err-value : goal.returns-in_err-value
returns-in_err-value c =
    exit _ _ _ c.from_residual-in_err-value.result c.from_residual-in_err-value.ensures.1
    (led_stops after_expression c.in_err-value.field-0.0 (lowered_start c.args.tokens.now >| inside c.in_ok-rest.ensures (λ r. refl)) c.in_err-value.ensures refl
    (search texts))

pub returns-in_err-rest-2 : goal.returns-in_err-rest-2
returns-in_err-rest-2 c =
    exit _ _ _ c.from_residual-in_err-rest-2.result c.from_residual-in_err-rest-2.ensures.1
    (stop_sign c.in_err-rest-2.field-0.0 (lowered_start c.args.tokens.now >| inside c.in_ok-rest.ensures (λ r. refl) >> led c.in_ok-value.ensures refl)
    c.in_err-rest-2.ensures (search texts))

pub returns-in_err-from : goal.returns-in_err-from
returns-in_err-from c =
    exit _ _ _ c.from_residual-in_err-from.result c.from_residual-in_err-from.ensures.1
    (free_stops c.in_err-from.field-0.0 (lowered_start c.args.tokens.now >| inside c.in_ok-rest.ensures (λ r. refl) >> led c.in_ok-value.ensures refl
    >| (c.in_ok-rest-2.ensures, refl)) c.in_err-from.ensures (search texts))

pub returns-in_err-rest-3 : goal.returns-in_err-rest-3
returns-in_err-rest-3 c =
    exit _ _ _ c.from_residual-in_err-rest-3.result c.from_residual-in_err-rest-3.ensures.1
    (stop_sign c.in_err-rest-3.field-0.0 (lowered_start c.args.tokens.now >| inside c.in_ok-rest.ensures (λ r. refl) >> led c.in_ok-value.ensures refl
    >| (c.in_ok-rest-2.ensures, refl) >> free c.in_ok-from.ensures) c.in_err-rest-3.ensures (search texts))

pub returns-in_err-to : goal.returns-in_err-to
returns-in_err-to c =
    exit _ _ _ c.from_residual-in_err-to.result c.from_residual-in_err-to.ensures.1
    (free_stops c.in_err-to.field-0.0 (lowered_start c.args.tokens.now >| inside c.in_ok-rest.ensures (λ r. refl) >> led c.in_ok-value.ensures refl
    >| (c.in_ok-rest-2.ensures, refl) >> free c.in_ok-from.ensures >| (c.in_ok-rest-3.ensures, refl)) c.in_err-to.ensures (mark_text m.RightParen))

pub returns-in_err-rest-4 : goal.returns-in_err-rest-4
returns-in_err-rest-4 c =
    exit _ _ _ c.from_residual-in_err-rest-4.result c.from_residual-in_err-rest-4.ensures.1
    (last_sign_stops c.in_err-rest-4.field-0.0 (lowered_start c.args.tokens.now >| inside c.in_ok-rest.ensures (λ r. refl) >> led c.in_ok-value.ensures refl
    >| (c.in_ok-rest-2.ensures, refl) >> free c.in_ok-from.ensures >| (c.in_ok-rest-3.ensures, refl) >> free c.in_ok-to.ensures) c.in_err-rest-4.ensures)

pub returns : goal.returns
returns c =
    last_sign (lowered_start c.args.tokens.now >| inside c.in_ok-rest.ensures (λ r. refl) >> led c.in_ok-value.ensures refl >| (c.in_ok-rest-2.ensures, refl)
    >> free c.in_ok-from.ensures >| (c.in_ok-rest-3.ensures, refl) >> free c.in_ok-to.ensures) (outside _ c.in_ok-rest-4.ensures c.in_ok-rest.ensures.1 (λ r. refl))
