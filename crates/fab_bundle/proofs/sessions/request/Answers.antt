use Rattle.std.proofs.Common.{refl}
use Rattle.fab_base.specs.declared.token.Mark.TheVariants as m
use Rattle.fab_reading.specs.Reading.{behind_literals}
use Rattle.fab_reading.proofs.Rules.{stop_sign, stop_open}
use Rattle.fab_parser.proofs.Chains.{exit, texts, free, led, ◌>>◌, ◌>|◌, inside, outside, mark_text, free_stops, led_stops, last_sign, last_sign_stops}
use Rattle.fab_bundle.proofs.RootRules.{request_start}
use Rattle.fab_bundle.proofs.sessions.request.Goals as goal

pub returns-in_err-method : goal.returns-in_err-method
returns-in_err-method c =
    exit _ _ _ c.from_residual.result c.from_residual.ensures.1
    (free_stops c.in_err-method.field-0.0 (request_start c.args.tokens.now) c.in_err-method.ensures (search texts))

pub returns-in_err-rest : goal.returns-in_err-rest
returns-in_err-rest c =
    exit _ _ _ c.from_residual-in_err-rest.result c.from_residual-in_err-rest.ensures.1
    (stop_open c.in_err-rest.field-0.0 (request_start c.args.tokens.now >> free c.in_ok-method.ensures) c.in_err-rest.ensures refl (search texts))

pub returns-in_err-arguments : goal.returns-in_err-arguments
returns-in_err-arguments c =
    exit _ _ _ c.from_residual-in_err-arguments.result c.from_residual-in_err-arguments.ensures.1
    (led_stops behind_literals c.in_err-arguments.field-0.0 (request_start c.args.tokens.now >> free c.in_ok-method.ensures >| inside c.in_ok-rest.ensures (λ r. refl))
    c.in_err-arguments.ensures refl (mark_text m.Semicolon))

pub returns-in_err-rest-2 : goal.returns-in_err-rest-2
returns-in_err-rest-2 c =
    exit _ _ _ c.from_residual-in_err-rest-2.result c.from_residual-in_err-rest-2.ensures.1
    (stop_sign c.in_err-rest-2.field-0.0 (request_start c.args.tokens.now >> free c.in_ok-method.ensures >| inside c.in_ok-rest.ensures (λ r. refl)
    >> led c.in_ok-arguments.ensures refl) c.in_err-rest-2.ensures (mark_text m.Semicolon))

pub returns-in_err-rest-3 : goal.returns-in_err-rest-3
returns-in_err-rest-3 c =
    exit _ _ _ c.from_residual-in_err-rest-3.result c.from_residual-in_err-rest-3.ensures.1
    (last_sign_stops c.in_err-rest-3.field-0.0 (request_start c.args.tokens.now >> free c.in_ok-method.ensures >| inside c.in_ok-rest.ensures (λ r. refl)
    >> led c.in_ok-arguments.ensures refl >| outside _ c.in_ok-rest-2.ensures c.in_ok-rest.ensures.1 (λ r. refl)) c.in_err-rest-3.ensures)

pub returns : goal.returns
returns c =
    last_sign (request_start c.args.tokens.now >> free c.in_ok-method.ensures >| inside c.in_ok-rest.ensures (λ r. refl) >> led c.in_ok-arguments.ensures refl
    >| outside _ c.in_ok-rest-2.ensures c.in_ok-rest.ensures.1 (λ r. refl)) (c.in_ok-rest-3.ensures, refl)
