use Rattle.std.proofs.Common.{refl}
use Rattle.fab_reading.specs.Reading.{behind_fields}
use Rattle.fab_reading.proofs.Rules.{stop_sign, stop_open}
use Rattle.fab_parser.proofs.Chains.{exit, texts, free, led_last, ◌>>◌, ◌>|◌, inside, outside, free_stops, led_last_stops, last_sign, last_sign_stops}
use Rattle.fab_parser.proofs.ClassRules.{class_start}
use Rattle.fab_parser.proofs.classes.class.Goals as goal

pub returns-in_err-rest : goal.returns-in_err-rest
returns-in_err-rest c =
    exit _ _ _ c.from_residual.result c.from_residual.ensures.1
    (stop_sign c.in_err-rest.field-0.0 (class_start c.args.tokens.now) c.in_err-rest.ensures (search texts depth 8))

pub returns-in_err-class : goal.returns-in_err-class
returns-in_err-class c =
    exit _ _ _ c.from_residual-in_err-class.result c.from_residual-in_err-class.ensures.1
    (free_stops c.in_err-class.field-0.0 (class_start c.args.tokens.now >| (c.in_ok-rest.ensures, refl)) c.in_err-class.ensures (search texts depth 7))

pub returns-in_err-rest-2 : goal.returns-in_err-rest-2
returns-in_err-rest-2 c =
    exit _ _ _ c.from_residual-in_err-rest-2.result c.from_residual-in_err-rest-2.ensures.1
    (stop_sign c.in_err-rest-2.field-0.0 (class_start c.args.tokens.now >| (c.in_ok-rest.ensures, refl) >> free c.in_ok-class.ensures) c.in_err-rest-2.ensures
    (search texts depth 6))

pub returns-in_err-label : goal.returns-in_err-label
returns-in_err-label c =
    exit _ _ _ c.from_residual-in_err-label.result c.from_residual-in_err-label.ensures.1
    (free_stops c.in_err-label.field-0.0 (class_start c.args.tokens.now >| (c.in_ok-rest.ensures, refl) >> free c.in_ok-class.ensures >| (c.in_ok-rest-2.ensures, refl))
    c.in_err-label.ensures (search texts))

pub returns-in_err-rest-3 : goal.returns-in_err-rest-3
returns-in_err-rest-3 c =
    exit _ _ _ c.from_residual-in_err-rest-3.result c.from_residual-in_err-rest-3.ensures.1
    (stop_sign c.in_err-rest-3.field-0.0 (class_start c.args.tokens.now >| (c.in_ok-rest.ensures, refl) >> free c.in_ok-class.ensures >| (c.in_ok-rest-2.ensures, refl)
    >> free c.in_ok-label.ensures) c.in_err-rest-3.ensures (search texts))

pub returns-in_err-access : goal.returns-in_err-access
returns-in_err-access c =
    exit _ _ _ c.from_residual-in_err-access.result c.from_residual-in_err-access.ensures.1
    (free_stops c.in_err-access.field-0.0 (class_start c.args.tokens.now >| (c.in_ok-rest.ensures, refl) >> free c.in_ok-class.ensures >| (c.in_ok-rest-2.ensures, refl)
    >> free c.in_ok-label.ensures >| (c.in_ok-rest-3.ensures, refl)) c.in_err-access.ensures (search texts))

pub returns-in_err-rest-4 : goal.returns-in_err-rest-4
returns-in_err-rest-4 c =
    exit _ _ _ c.from_residual-in_err-rest-4.result c.from_residual-in_err-rest-4.ensures.1
    (stop_open c.in_err-rest-4.field-0.0 (class_start c.args.tokens.now >| (c.in_ok-rest.ensures, refl) >> free c.in_ok-class.ensures >| (c.in_ok-rest-2.ensures, refl)
    >> free c.in_ok-label.ensures >| (c.in_ok-rest-3.ensures, refl) >> free c.in_ok-access.ensures) c.in_err-rest-4.ensures refl (search texts))

pub returns-in_err-fields : goal.returns-in_err-fields
returns-in_err-fields c =
    exit _ _ _ c.from_residual-in_err-fields.result c.from_residual-in_err-fields.ensures.1
    (led_last_stops behind_fields c.in_err-fields.field-0.0 (class_start c.args.tokens.now >| (c.in_ok-rest.ensures, refl) >> free c.in_ok-class.ensures
    >| (c.in_ok-rest-2.ensures, refl) >> free c.in_ok-label.ensures >| (c.in_ok-rest-3.ensures, refl) >> free c.in_ok-access.ensures
    >| inside c.in_ok-rest-4.ensures (λ r. refl)) c.in_err-fields.ensures refl)

pub returns-in_err-rest-5 : goal.returns-in_err-rest-5
returns-in_err-rest-5 c =
    exit _ _ _ c.from_residual-in_err-rest-5.result c.from_residual-in_err-rest-5.ensures.1
    (last_sign_stops c.in_err-rest-5.field-0.0 (class_start c.args.tokens.now >| (c.in_ok-rest.ensures, refl) >> free c.in_ok-class.ensures
    >| (c.in_ok-rest-2.ensures, refl) >> free c.in_ok-label.ensures >| (c.in_ok-rest-3.ensures, refl) >> free c.in_ok-access.ensures
    >| inside c.in_ok-rest-4.ensures (λ r. refl) >> led_last c.in_ok-fields.ensures refl) c.in_err-rest-5.ensures)

pub returns : goal.returns
returns c =
    last_sign (class_start c.args.tokens.now >| (c.in_ok-rest.ensures, refl) >> free c.in_ok-class.ensures >| (c.in_ok-rest-2.ensures, refl)
    >> free c.in_ok-label.ensures >| (c.in_ok-rest-3.ensures, refl) >> free c.in_ok-access.ensures >| inside c.in_ok-rest-4.ensures (λ r. refl)
    >> led_last c.in_ok-fields.ensures refl) (outside _ c.in_ok-rest-5.ensures c.in_ok-rest-4.ensures.1 (λ r. refl))
