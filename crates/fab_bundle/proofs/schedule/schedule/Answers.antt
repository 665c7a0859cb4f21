use Rattle.std.proofs.Common.{refl}
use Rattle.fab_reading.specs.Reading.{any, behind_list}
use Rattle.fab_reading.proofs.Rules.{stop_open, whole}
use Rattle.fab_parser.proofs.Chains.{exit, texts, led_last, ◌>>◌, ◌>|◌, inside, outside, led_last_stops, last_sign, last_sign_stops}
use Rattle.fab_bundle.specs.Pieces.{begins_event}
use Rattle.fab_bundle.proofs.EventRules.{schedule_start, schedule_none}
use Rattle.fab_bundle.proofs.schedule.schedule.Goals as goal

pub returns-in-None : goal.returns-in-None
returns-in-None c = rw c.new.ensures (whole (schedule_none c.args.tokens.now c.in-None.ensures))

pub returns-in_err-rest-in-Some : goal.returns-in_err-rest-in-Some
returns-in_err-rest-in-Some c =
    exit _ _ _ c.from_residual.result c.from_residual.ensures.1
    (stop_open c.in_err-rest-in-Some.field-0.0 (schedule_start c.in-Some.ensures) c.in_err-rest-in-Some.ensures refl (search texts))

pub returns-in_err-events-in-Some : goal.returns-in_err-events-in-Some
returns-in_err-events-in-Some c =
    exit _ _ _ c.from_residual-in_err-events-in-Some.result c.from_residual-in_err-events-in-Some.ensures.1
    (led_last_stops (behind_list begins_event any) c.in_err-events-in-Some.field-0.0 (schedule_start c.in-Some.ensures
    >| inside c.in_ok-rest-in-Some.ensures (λ r. refl)) c.in_err-events-in-Some.ensures refl)

pub returns-in_err-rest-in-Some-2 : goal.returns-in_err-rest-in-Some-2
returns-in_err-rest-in-Some-2 c =
    exit _ _ _ c.from_residual-in_err-rest-in-Some-2.result c.from_residual-in_err-rest-in-Some-2.ensures.1
    (last_sign_stops c.in_err-rest-in-Some-2.field-0.0 (schedule_start c.in-Some.ensures >| inside c.in_ok-rest-in-Some.ensures (λ r. refl)
    >> led_last c.in_ok-events-in-Some.ensures refl) c.in_err-rest-in-Some-2.ensures)

pub returns-in_ok-rest-in-Some-2 : goal.returns-in_ok-rest-in-Some-2
returns-in_ok-rest-in-Some-2 c =
    last_sign (schedule_start c.in-Some.ensures >| inside c.in_ok-rest-in-Some.ensures (λ r. refl) >> led_last c.in_ok-events-in-Some.ensures refl)
    (outside _ c.in_ok-rest-in-Some-2.ensures c.in_ok-rest-in-Some.ensures.1 (λ r. refl))
