use Rattle.std.proofs.Common.{refl}
use Rattle.fab_reading.specs.Reading.{any, begins_name, behind_list}
use Rattle.fab_reading.proofs.Rules.{stop_sign, stop_open}
use Rattle.fab_parser.proofs.Chains.{exit, texts, free, led_last, ◌>>◌, ◌>|◌, inside, outside, free_stops, led_last_stops, last_sign, last_sign_stops}
use Rattle.fab_bundle.proofs.RootRules.{session_start}
use Rattle.fab_bundle.proofs.sessions.session.Goals as goal

pub returns-in_err-rest : goal.returns-in_err-rest
returns-in_err-rest c =
    exit _ _ _ c.from_residual.result c.from_residual.ensures.1 (stop_sign c.in_err-rest.field-0.0 (session_start c.args.tokens.now) c.in_err-rest.ensures (search texts))

pub returns-in_err-worker : goal.returns-in_err-worker
returns-in_err-worker c =
    exit _ _ _ c.from_residual-in_err-worker.result c.from_residual-in_err-worker.ensures.1
    (free_stops c.in_err-worker.field-0.0 (session_start c.args.tokens.now >| (c.in_ok-rest.ensures, refl)) c.in_err-worker.ensures (search texts))

pub returns-in_err-rest-2 : goal.returns-in_err-rest-2
returns-in_err-rest-2 c =
    exit _ _ _ c.from_residual-in_err-rest-2.result c.from_residual-in_err-rest-2.ensures.1
    (stop_open c.in_err-rest-2.field-0.0 (session_start c.args.tokens.now >| (c.in_ok-rest.ensures, refl) >> free c.in_ok-worker.ensures) c.in_err-rest-2.ensures refl
    (search texts))

pub returns-in_err-requests : goal.returns-in_err-requests
returns-in_err-requests c =
    exit _ _ _ c.from_residual-in_err-requests.result c.from_residual-in_err-requests.ensures.1
    (led_last_stops (behind_list begins_name any) c.in_err-requests.field-0.0 (session_start c.args.tokens.now >| (c.in_ok-rest.ensures, refl)
    >> free c.in_ok-worker.ensures >| inside c.in_ok-rest-2.ensures (λ r. refl)) c.in_err-requests.ensures refl)

pub returns-in_err-rest-3 : goal.returns-in_err-rest-3
returns-in_err-rest-3 c =
    exit _ _ _ c.from_residual-in_err-rest-3.result c.from_residual-in_err-rest-3.ensures.1
    (last_sign_stops c.in_err-rest-3.field-0.0 (session_start c.args.tokens.now >| (c.in_ok-rest.ensures, refl) >> free c.in_ok-worker.ensures
    >| inside c.in_ok-rest-2.ensures (λ r. refl) >> led_last c.in_ok-requests.ensures refl) c.in_err-rest-3.ensures)

pub returns : goal.returns
returns c =
    last_sign (session_start c.args.tokens.now >| (c.in_ok-rest.ensures, refl) >> free c.in_ok-worker.ensures >| inside c.in_ok-rest-2.ensures (λ r. refl)
    >> led_last c.in_ok-requests.ensures refl) (outside _ c.in_ok-rest-3.ensures c.in_ok-rest-2.ensures.1 (λ r. refl))
