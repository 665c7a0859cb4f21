use Rattle.std.proofs.Common.{refl}
use Rattle.fab_base.specs.declared.token.Mark.TheVariants as m
use Rattle.fab_reading.proofs.Rules.{stop_sign, stop_open}
use Rattle.fab_parser.proofs.Chains.{exit, texts, free, led, ◌>>◌, ◌>|◌, inside, outside, mark_text, free_stops, led_stops, last_sign, last_sign_stops}
use Rattle.fab_parser.proofs.LabelRules.{label_start, behind_policies}
use Rattle.fab_parser.proofs.labels.label.Goals as goal

pub returns-in_err-rest : goal.returns-in_err-rest
returns-in_err-rest c =
    exit _ _ _ c.from_residual.result c.from_residual.ensures.1
    (stop_sign c.in_err-rest.field-0.0 (label_start c.args.tokens.now) c.in_err-rest.ensures (search texts depth 6))

pub returns-in_err-name : goal.returns-in_err-name
returns-in_err-name c =
    exit _ _ _ c.from_residual-in_err-name.result c.from_residual-in_err-name.ensures.1
    (free_stops c.in_err-name.field-0.0 (label_start c.args.tokens.now >| (c.in_ok-rest.ensures, refl)) c.in_err-name.ensures (search texts))

pub returns-in_err-rest-2 : goal.returns-in_err-rest-2
returns-in_err-rest-2 c =
    exit _ _ _ c.from_residual-in_err-rest-2.result c.from_residual-in_err-rest-2.ensures.1
    (stop_sign c.in_err-rest-2.field-0.0 (label_start c.args.tokens.now >| (c.in_ok-rest.ensures, refl) >> free c.in_ok-name.ensures) c.in_err-rest-2.ensures
    (search texts))

pub returns-in_err-rest-3 : goal.returns-in_err-rest-3
returns-in_err-rest-3 c =
    exit _ _ _ c.from_residual-in_err-rest-3.result c.from_residual-in_err-rest-3.ensures.1
    (stop_open c.in_err-rest-3.field-0.0 (label_start c.args.tokens.now >| (c.in_ok-rest.ensures, refl) >> free c.in_ok-name.ensures >| (c.in_ok-rest-2.ensures, refl))
    c.in_err-rest-3.ensures refl (search texts))

pub returns-in_err-policies : goal.returns-in_err-policies
returns-in_err-policies c =
    exit _ _ _ c.from_residual-in_err-policies.result c.from_residual-in_err-policies.ensures.1
    (led_stops behind_policies c.in_err-policies.field-0.0 (label_start c.args.tokens.now >| (c.in_ok-rest.ensures, refl) >> free c.in_ok-name.ensures
    >| (c.in_ok-rest-2.ensures, refl) >| inside c.in_ok-rest-3.ensures (λ r. refl)) c.in_err-policies.ensures refl (mark_text m.Semicolon))

pub returns-in_err-rest-4 : goal.returns-in_err-rest-4
returns-in_err-rest-4 c =
    exit _ _ _ c.from_residual-in_err-rest-4.result c.from_residual-in_err-rest-4.ensures.1
    (stop_sign c.in_err-rest-4.field-0.0 (label_start c.args.tokens.now >| (c.in_ok-rest.ensures, refl) >> free c.in_ok-name.ensures >| (c.in_ok-rest-2.ensures, refl)
    >| inside c.in_ok-rest-3.ensures (λ r. refl) >> led c.in_ok-policies.ensures refl) c.in_err-rest-4.ensures (mark_text m.Semicolon))

pub returns-in_err-rest-5 : goal.returns-in_err-rest-5
returns-in_err-rest-5 c =
    exit _ _ _ c.from_residual-in_err-rest-5.result c.from_residual-in_err-rest-5.ensures.1
    (last_sign_stops c.in_err-rest-5.field-0.0 (label_start c.args.tokens.now >| (c.in_ok-rest.ensures, refl) >> free c.in_ok-name.ensures
    >| (c.in_ok-rest-2.ensures, refl) >| inside c.in_ok-rest-3.ensures (λ r. refl) >> led c.in_ok-policies.ensures refl
    >| outside _ c.in_ok-rest-4.ensures c.in_ok-rest-3.ensures.1 (λ r. refl)) c.in_err-rest-5.ensures)

pub returns : goal.returns
returns c =
    last_sign (label_start c.args.tokens.now >| (c.in_ok-rest.ensures, refl) >> free c.in_ok-name.ensures >| (c.in_ok-rest-2.ensures, refl)
    >| inside c.in_ok-rest-3.ensures (λ r. refl) >> led c.in_ok-policies.ensures refl >| outside _ c.in_ok-rest-4.ensures c.in_ok-rest-3.ensures.1 (λ r. refl))
    (c.in_ok-rest-5.ensures, refl)
