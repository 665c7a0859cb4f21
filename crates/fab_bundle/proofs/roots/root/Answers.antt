use Rattle.std.proofs.Common.{refl}
use Rattle.fab_base.specs.declared.token.Mark.TheVariants as m
use Rattle.fab_reading.specs.Reading.{behind_literals}
use Rattle.fab_reading.proofs.Rules.{stop_sign, stop_open}
use Rattle.fab_parser.proofs.Chains.{exit, texts, free, led, ◌>>◌, ◌>|◌, inside, outside, mark_text, free_stops, led_stops, last_sign, last_sign_stops}
use Rattle.fab_bundle.proofs.RootRules.{root_start}
use Rattle.fab_bundle.proofs.roots.root.Goals as goal

pub returns-in_err-rest : goal.returns-in_err-rest
returns-in_err-rest c =
    exit _ _ _ c.from_residual.result c.from_residual.ensures.1
    (stop_sign c.in_err-rest.field-0.0 (root_start c.args.tokens.now) c.in_err-rest.ensures (search texts depth 9))

pub returns-in_err-root : goal.returns-in_err-root
returns-in_err-root c =
    exit _ _ _ c.from_residual-in_err-root.result c.from_residual-in_err-root.ensures.1
    (free_stops c.in_err-root.field-0.0 (root_start c.args.tokens.now >| (c.in_ok-rest.ensures, refl)) c.in_err-root.ensures (search texts depth 8))

pub returns-in_err-rest-2 : goal.returns-in_err-rest-2
returns-in_err-rest-2 c =
    exit _ _ _ c.from_residual-in_err-rest-2.result c.from_residual-in_err-rest-2.ensures.1
    (stop_sign c.in_err-rest-2.field-0.0 (root_start c.args.tokens.now >| (c.in_ok-rest.ensures, refl) >> free c.in_ok-root.ensures) c.in_err-rest-2.ensures
    (search texts depth 7))

pub returns-in_err-class : goal.returns-in_err-class
returns-in_err-class c =
    exit _ _ _ c.from_residual-in_err-class.result c.from_residual-in_err-class.ensures.1
    (free_stops c.in_err-class.field-0.0 (root_start c.args.tokens.now >| (c.in_ok-rest.ensures, refl) >> free c.in_ok-root.ensures >| (c.in_ok-rest-2.ensures, refl))
    c.in_err-class.ensures (search texts depth 6))

pub returns-in_err-rest-3 : goal.returns-in_err-rest-3
returns-in_err-rest-3 c =
    exit _ _ _ c.from_residual-in_err-rest-3.result c.from_residual-in_err-rest-3.ensures.1
    (stop_sign c.in_err-rest-3.field-0.0 (root_start c.args.tokens.now >| (c.in_ok-rest.ensures, refl) >> free c.in_ok-root.ensures >| (c.in_ok-rest-2.ensures, refl)
    >> free c.in_ok-class.ensures) c.in_err-rest-3.ensures (search texts))

pub returns-in_err-store : goal.returns-in_err-store
returns-in_err-store c =
    exit _ _ _ c.from_residual-in_err-store.result c.from_residual-in_err-store.ensures.1
    (free_stops c.in_err-store.field-0.0 (root_start c.args.tokens.now >| (c.in_ok-rest.ensures, refl) >> free c.in_ok-root.ensures >| (c.in_ok-rest-2.ensures, refl)
    >> free c.in_ok-class.ensures >| (c.in_ok-rest-3.ensures, refl)) c.in_err-store.ensures (search texts))

pub returns-in_err-rest-4 : goal.returns-in_err-rest-4
returns-in_err-rest-4 c =
    exit _ _ _ c.from_residual-in_err-rest-4.result c.from_residual-in_err-rest-4.ensures.1
    (stop_open c.in_err-rest-4.field-0.0 (root_start c.args.tokens.now >| (c.in_ok-rest.ensures, refl) >> free c.in_ok-root.ensures >| (c.in_ok-rest-2.ensures, refl)
    >> free c.in_ok-class.ensures >| (c.in_ok-rest-3.ensures, refl) >> free c.in_ok-store.ensures) c.in_err-rest-4.ensures refl (search texts))

pub returns-in_err-values : goal.returns-in_err-values
returns-in_err-values c =
    exit _ _ _ c.from_residual-in_err-values.result c.from_residual-in_err-values.ensures.1
    (led_stops behind_literals c.in_err-values.field-0.0 (root_start c.args.tokens.now >| (c.in_ok-rest.ensures, refl) >> free c.in_ok-root.ensures
    >| (c.in_ok-rest-2.ensures, refl) >> free c.in_ok-class.ensures >| (c.in_ok-rest-3.ensures, refl) >> free c.in_ok-store.ensures
    >| inside c.in_ok-rest-4.ensures (λ r. refl)) c.in_err-values.ensures refl (mark_text m.Semicolon))

pub returns-in_err-rest-5 : goal.returns-in_err-rest-5
returns-in_err-rest-5 c =
    exit _ _ _ c.from_residual-in_err-rest-5.result c.from_residual-in_err-rest-5.ensures.1
    (stop_sign c.in_err-rest-5.field-0.0 (root_start c.args.tokens.now >| (c.in_ok-rest.ensures, refl) >> free c.in_ok-root.ensures >| (c.in_ok-rest-2.ensures, refl)
    >> free c.in_ok-class.ensures >| (c.in_ok-rest-3.ensures, refl) >> free c.in_ok-store.ensures >| inside c.in_ok-rest-4.ensures (λ r. refl)
    >> led c.in_ok-values.ensures refl) c.in_err-rest-5.ensures (mark_text m.Semicolon))

pub returns-in_err-rest-6 : goal.returns-in_err-rest-6
returns-in_err-rest-6 c =
    exit _ _ _ c.from_residual-in_err-rest-6.result c.from_residual-in_err-rest-6.ensures.1
    (last_sign_stops c.in_err-rest-6.field-0.0 (root_start c.args.tokens.now >| (c.in_ok-rest.ensures, refl) >> free c.in_ok-root.ensures
    >| (c.in_ok-rest-2.ensures, refl) >> free c.in_ok-class.ensures >| (c.in_ok-rest-3.ensures, refl) >> free c.in_ok-store.ensures
    >| inside c.in_ok-rest-4.ensures (λ r. refl) >> led c.in_ok-values.ensures refl >| outside _ c.in_ok-rest-5.ensures c.in_ok-rest-4.ensures.1 (λ r. refl))
    c.in_err-rest-6.ensures)

pub returns : goal.returns
returns c =
    last_sign (root_start c.args.tokens.now >| (c.in_ok-rest.ensures, refl) >> free c.in_ok-root.ensures >| (c.in_ok-rest-2.ensures, refl) >> free c.in_ok-class.ensures
    >| (c.in_ok-rest-3.ensures, refl) >> free c.in_ok-store.ensures >| inside c.in_ok-rest-4.ensures (λ r. refl) >> led c.in_ok-values.ensures refl
    >| outside _ c.in_ok-rest-5.ensures c.in_ok-rest-4.ensures.1 (λ r. refl)) (c.in_ok-rest-6.ensures, refl)
