use Rattle.std.proofs.Common.{refl}
use Rattle.fab_reading.proofs.Rules.{stop_sign}
use Rattle.fab_parser.proofs.Chains.{exit, texts, free, led_last, ◌>>◌, ◌>|◌, free_stops, led_last_stops, last_sign, last_sign_stops}
use Rattle.fab_bundle.specs.Pieces.{after_number}
use Rattle.fab_bundle.proofs.LiteralRules.{numeral_text}
use Rattle.fab_bundle.proofs.PostRules.{crash_start}
use Rattle.fab_bundle.proofs.crashes.crash.Goals as goal

pub returns-in_err-rest : goal.returns-in_err-rest
returns-in_err-rest c =
    exit _ _ _ c.from_residual.result c.from_residual.ensures.1
    (stop_sign c.in_err-rest.field-0.0 (crash_start c.args.tokens.now) c.in_err-rest.ensures (search (texts, numeral_text)))

pub returns-in_err-node : goal.returns-in_err-node
returns-in_err-node c =
    exit _ _ _ c.from_residual-in_err-node.result c.from_residual-in_err-node.ensures.1
    (free_stops c.in_err-node.field-0.0 (crash_start c.args.tokens.now >| (c.in_ok-rest.ensures, refl)) c.in_err-node.ensures (search (texts, numeral_text)))

pub returns-in_err-rest-2 : goal.returns-in_err-rest-2
returns-in_err-rest-2 c =
    exit _ _ _ c.from_residual-in_err-rest-2.result c.from_residual-in_err-rest-2.ensures.1
    (stop_sign c.in_err-rest-2.field-0.0 (crash_start c.args.tokens.now >| (c.in_ok-rest.ensures, refl) >> free c.in_ok-node.ensures) c.in_err-rest-2.ensures
    (search (texts, numeral_text)))

pub returns-in_err-count : goal.returns-in_err-count
returns-in_err-count c =
    exit _ _ _ c.from_residual-in_err-count.result c.from_residual-in_err-count.ensures.1
    (free_stops c.in_err-count.field-0.0 (crash_start c.args.tokens.now >| (c.in_ok-rest.ensures, refl) >> free c.in_ok-node.ensures >| (c.in_ok-rest-2.ensures, refl))
    c.in_err-count.ensures (search texts))

pub returns-in_err-kept : goal.returns-in_err-kept
returns-in_err-kept c =
    exit _ _ _ c.from_residual-in_err-kept.result c.from_residual-in_err-kept.ensures.1
    (led_last_stops after_number c.in_err-kept.field-0.0 (crash_start c.args.tokens.now >| (c.in_ok-rest.ensures, refl) >> free c.in_ok-node.ensures
    >| (c.in_ok-rest-2.ensures, refl) >> free c.in_ok-count.ensures) c.in_err-kept.ensures refl)

pub returns-in_err-rest-3 : goal.returns-in_err-rest-3
returns-in_err-rest-3 c =
    exit _ _ _ c.from_residual-in_err-rest-3.result c.from_residual-in_err-rest-3.ensures.1
    (last_sign_stops c.in_err-rest-3.field-0.0 (crash_start c.args.tokens.now >| (c.in_ok-rest.ensures, refl) >> free c.in_ok-node.ensures
    >| (c.in_ok-rest-2.ensures, refl) >> free c.in_ok-count.ensures >> led_last c.in_ok-kept.ensures refl) c.in_err-rest-3.ensures)

pub returns : goal.returns
returns c =
    last_sign (crash_start c.args.tokens.now >| (c.in_ok-rest.ensures, refl) >> free c.in_ok-node.ensures >| (c.in_ok-rest-2.ensures, refl)
    >> free c.in_ok-count.ensures >> led_last c.in_ok-kept.ensures refl) (c.in_ok-rest-3.ensures, refl)
