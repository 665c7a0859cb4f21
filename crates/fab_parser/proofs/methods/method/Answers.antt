use Rattle.std.proofs.Common.{refl}
use Rattle.fab_reading.proofs.Rules.{stop_part, stop_sign, stop_open}
use Rattle.fab_parser.specs.Pieces.{after_authority, after_body, after_head, after_parameters, behind_parameters, behind_statements}
use Rattle.fab_parser.proofs.Chains.{exit, fitting, free, led, led_last, ◌>>◌, ◌>|◌, inside, outside, free_stops, led_stops, led_last_stops, last_sign, last_sign_stops}
use Rattle.fab_parser.proofs.MethodRules.{method_texts, fails_meet, body_meets, method_start}
use Rattle.fab_parser.proofs.methods.method.Goals as goal

pub returns-in_err-rest : goal.returns-in_err-rest
returns-in_err-rest c =
    exit _ _ _ c.from_residual.result c.from_residual.ensures.1
    (stop_sign c.in_err-rest.field-0.0 (method_start c.args.tokens.now) c.in_err-rest.ensures (search method_texts depth 13))

pub returns-in_err-method : goal.returns-in_err-method
returns-in_err-method c =
    exit _ _ _ c.from_residual-in_err-method.result c.from_residual-in_err-method.ensures.1
    (free_stops c.in_err-method.field-0.0 (method_start c.args.tokens.now >| (c.in_ok-rest.ensures, refl)) c.in_err-method.ensures (search method_texts depth 12))

pub returns-in_err-rest-2 : goal.returns-in_err-rest-2
returns-in_err-rest-2 c =
    exit _ _ _ c.from_residual-in_err-rest-2.result c.from_residual-in_err-rest-2.ensures.1
    (stop_open c.in_err-rest-2.field-0.0 (method_start c.args.tokens.now >| (c.in_ok-rest.ensures, refl) >> free c.in_ok-method.ensures) c.in_err-rest-2.ensures refl
    (search method_texts depth 11))

pub returns-in_err-parameters : goal.returns-in_err-parameters
returns-in_err-parameters c =
    exit _ _ _ c.from_residual-in_err-parameters.result c.from_residual-in_err-parameters.ensures.1
    (led_stops behind_parameters c.in_err-parameters.field-0.0 (method_start c.args.tokens.now >| (c.in_ok-rest.ensures, refl) >> free c.in_ok-method.ensures
    >| inside c.in_ok-rest-2.ensures (λ r. refl)) c.in_err-parameters.ensures refl (search method_texts depth 9))

pub returns-in_err-rest-3 : goal.returns-in_err-rest-3
returns-in_err-rest-3 c =
    exit _ _ _ c.from_residual-in_err-rest-3.result c.from_residual-in_err-rest-3.ensures.1
    (stop_sign c.in_err-rest-3.field-0.0 (method_start c.args.tokens.now >| (c.in_ok-rest.ensures, refl) >> free c.in_ok-method.ensures
    >| inside c.in_ok-rest-2.ensures (λ r. refl) >> led c.in_ok-parameters.ensures refl) c.in_err-rest-3.ensures (search method_texts depth 9))

pub returns-in_err-returns : goal.returns-in_err-returns
returns-in_err-returns c =
    exit _ _ _ c.from_residual-in_err-returns.result c.from_residual-in_err-returns.ensures.1
    (led_stops after_parameters c.in_err-returns.field-0.0 (method_start c.args.tokens.now >| (c.in_ok-rest.ensures, refl) >> free c.in_ok-method.ensures
    >| inside c.in_ok-rest-2.ensures (λ r. refl) >> led c.in_ok-parameters.ensures refl >| outside _ c.in_ok-rest-3.ensures c.in_ok-rest-2.ensures.1 (λ r. refl))
    c.in_err-returns.ensures refl (search method_texts depth 7))

pub returns-in_err-rest-4 : goal.returns-in_err-rest-4
returns-in_err-rest-4 c =
    exit _ _ _ c.from_residual-in_err-rest-4.result c.from_residual-in_err-rest-4.ensures.1
    (stop_sign c.in_err-rest-4.field-0.0 (method_start c.args.tokens.now >| (c.in_ok-rest.ensures, refl) >> free c.in_ok-method.ensures
    >| inside c.in_ok-rest-2.ensures (λ r. refl) >> led c.in_ok-parameters.ensures refl >| outside _ c.in_ok-rest-3.ensures c.in_ok-rest-2.ensures.1 (λ r. refl)
    >> led c.in_ok-returns.ensures refl) c.in_err-rest-4.ensures (search method_texts depth 7))

pub returns-in_err-begin : goal.returns-in_err-begin
returns-in_err-begin c =
    exit _ _ _ c.from_residual-in_err-begin.result c.from_residual-in_err-begin.ensures.1
    (free_stops c.in_err-begin.field-0.0 (method_start c.args.tokens.now >| (c.in_ok-rest.ensures, refl) >> free c.in_ok-method.ensures
    >| inside c.in_ok-rest-2.ensures (λ r. refl) >> led c.in_ok-parameters.ensures refl >| outside _ c.in_ok-rest-3.ensures c.in_ok-rest-2.ensures.1 (λ r. refl)
    >> led c.in_ok-returns.ensures refl >| (c.in_ok-rest-4.ensures, refl)) c.in_err-begin.ensures (search method_texts depth 6))

pub returns-in_err-fails : goal.returns-in_err-fails
returns-in_err-fails c =
    exit _ _ _ c.from_residual-in_err-fails.result c.from_residual-in_err-fails.ensures.1
    (stop_part after_head c.in_err-fails.field-0.0 (method_start c.args.tokens.now >| (c.in_ok-rest.ensures, refl) >> free c.in_ok-method.ensures
    >| inside c.in_ok-rest-2.ensures (λ r. refl) >> led c.in_ok-parameters.ensures refl >| outside _ c.in_ok-rest-3.ensures c.in_ok-rest-2.ensures.1 (λ r. refl)
    >> led c.in_ok-returns.ensures refl >| (c.in_ok-rest-4.ensures, refl) >> free c.in_ok-begin.ensures) c.in_err-fails.ensures fails_meet (search method_texts))

pub returns-in_err-authority : goal.returns-in_err-authority
returns-in_err-authority c =
    exit _ _ _ c.from_residual-in_err-authority.result c.from_residual-in_err-authority.ensures.1
    (led_stops after_authority c.in_err-authority.field-0.0 (method_start c.args.tokens.now >| (c.in_ok-rest.ensures, refl) >> free c.in_ok-method.ensures
    >| inside c.in_ok-rest-2.ensures (λ r. refl) >> led c.in_ok-parameters.ensures refl >| outside _ c.in_ok-rest-3.ensures c.in_ok-rest-2.ensures.1 (λ r. refl)
    >> led c.in_ok-returns.ensures refl >| (c.in_ok-rest-4.ensures, refl) >> free c.in_ok-begin.ensures >> fitting c.in_ok-fails.ensures fails_meet)
    c.in_err-authority.ensures refl (search method_texts))

pub returns-in_err-rest-5 : goal.returns-in_err-rest-5
returns-in_err-rest-5 c =
    exit _ _ _ c.from_residual-in_err-rest-5.result c.from_residual-in_err-rest-5.ensures.1
    (stop_open c.in_err-rest-5.field-0.0 (method_start c.args.tokens.now >| (c.in_ok-rest.ensures, refl) >> free c.in_ok-method.ensures
    >| inside c.in_ok-rest-2.ensures (λ r. refl) >> led c.in_ok-parameters.ensures refl >| outside _ c.in_ok-rest-3.ensures c.in_ok-rest-2.ensures.1 (λ r. refl)
    >> led c.in_ok-returns.ensures refl >| (c.in_ok-rest-4.ensures, refl) >> free c.in_ok-begin.ensures >> fitting c.in_ok-fails.ensures fails_meet
    >> led c.in_ok-authority.ensures refl) c.in_err-rest-5.ensures refl (search method_texts))

pub returns-in_err-body : goal.returns-in_err-body
returns-in_err-body c =
    exit _ _ _ c.from_residual-in_err-body.result c.from_residual-in_err-body.ensures.1
    (stop_part behind_statements c.in_err-body.field-0.0 (method_start c.args.tokens.now >| (c.in_ok-rest.ensures, refl) >> free c.in_ok-method.ensures
    >| inside c.in_ok-rest-2.ensures (λ r. refl) >> led c.in_ok-parameters.ensures refl >| outside _ c.in_ok-rest-3.ensures c.in_ok-rest-2.ensures.1 (λ r. refl)
    >> led c.in_ok-returns.ensures refl >| (c.in_ok-rest-4.ensures, refl) >> free c.in_ok-begin.ensures >> fitting c.in_ok-fails.ensures fails_meet
    >> led c.in_ok-authority.ensures refl >| inside c.in_ok-rest-5.ensures (λ r. refl)) c.in_err-body.ensures body_meets (search method_texts))

pub returns-in_err-returned : goal.returns-in_err-returned
returns-in_err-returned c =
    exit _ _ _ c.from_residual-in_err-returned.result c.from_residual-in_err-returned.ensures.1
    (led_last_stops after_body c.in_err-returned.field-0.0 (method_start c.args.tokens.now >| (c.in_ok-rest.ensures, refl) >> free c.in_ok-method.ensures
    >| inside c.in_ok-rest-2.ensures (λ r. refl) >> led c.in_ok-parameters.ensures refl >| outside _ c.in_ok-rest-3.ensures c.in_ok-rest-2.ensures.1 (λ r. refl)
    >> led c.in_ok-returns.ensures refl >| (c.in_ok-rest-4.ensures, refl) >> free c.in_ok-begin.ensures >> fitting c.in_ok-fails.ensures fails_meet
    >> led c.in_ok-authority.ensures refl >| inside c.in_ok-rest-5.ensures (λ r. refl) >> fitting c.in_ok-body.ensures body_meets) c.in_err-returned.ensures refl)

pub returns-in_err-rest-6 : goal.returns-in_err-rest-6
returns-in_err-rest-6 c =
    exit _ _ _ c.from_residual-in_err-rest-6.result c.from_residual-in_err-rest-6.ensures.1
    (last_sign_stops c.in_err-rest-6.field-0.0 (method_start c.args.tokens.now >| (c.in_ok-rest.ensures, refl) >> free c.in_ok-method.ensures
    >| inside c.in_ok-rest-2.ensures (λ r. refl) >> led c.in_ok-parameters.ensures refl >| outside _ c.in_ok-rest-3.ensures c.in_ok-rest-2.ensures.1 (λ r. refl)
    >> led c.in_ok-returns.ensures refl >| (c.in_ok-rest-4.ensures, refl) >> free c.in_ok-begin.ensures >> fitting c.in_ok-fails.ensures fails_meet
    >> led c.in_ok-authority.ensures refl >| inside c.in_ok-rest-5.ensures (λ r. refl) >> fitting c.in_ok-body.ensures body_meets
    >> led_last c.in_ok-returned.ensures refl) c.in_err-rest-6.ensures)

pub returns : goal.returns
returns c =
    last_sign (method_start c.args.tokens.now >| (c.in_ok-rest.ensures, refl) >> free c.in_ok-method.ensures >| inside c.in_ok-rest-2.ensures (λ r. refl)
    >> led c.in_ok-parameters.ensures refl >| outside _ c.in_ok-rest-3.ensures c.in_ok-rest-2.ensures.1 (λ r. refl) >> led c.in_ok-returns.ensures refl
    >| (c.in_ok-rest-4.ensures, refl) >> free c.in_ok-begin.ensures >> fitting c.in_ok-fails.ensures fails_meet >> led c.in_ok-authority.ensures refl
    >| inside c.in_ok-rest-5.ensures (λ r. refl) >> fitting c.in_ok-body.ensures body_meets >> led_last c.in_ok-returned.ensures refl)
    (outside _ c.in_ok-rest-6.ensures c.in_ok-rest-5.ensures.1 (λ r. refl))
