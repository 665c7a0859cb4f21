use Rattle.std.proofs.Common.{refl}
use Rattle.fab_base.specs.declared.token.Mark.TheVariants as m
use Rattle.fab_reading.proofs.Rules.{whole}
use Rattle.fab_parser.proofs.Chains.{exit, free, ◌>>◌, mark_text, free_stops, last_sign, last_sign_stops}
use Rattle.fab_bundle.proofs.PostRules.{cache_start, cache_none}
use Rattle.fab_bundle.proofs.crashes.cache.Goals as goal

pub returns-in-None : goal.returns-in-None
returns-in-None c = whole (cache_none c.args.tokens.now c.in-None.ensures)

pub returns-in_err-kept-in-Some : goal.returns-in_err-kept-in-Some
returns-in_err-kept-in-Some c =
    exit _ _ _ c.from_residual.result c.from_residual.ensures.1
    (free_stops c.in_err-kept-in-Some.field-0.0 (cache_start c.in-Some.ensures) c.in_err-kept-in-Some.ensures (mark_text m.Semicolon))

pub returns-in_err-rest-in-Some : goal.returns-in_err-rest-in-Some
returns-in_err-rest-in-Some c =
    exit _ _ _ c.from_residual-in_err-rest-in-Some.result c.from_residual-in_err-rest-in-Some.ensures.1
    (last_sign_stops c.in_err-rest-in-Some.field-0.0 (cache_start c.in-Some.ensures >> free c.in_ok-kept-in-Some.ensures) c.in_err-rest-in-Some.ensures)

pub returns-in_ok-rest-in-Some : goal.returns-in_ok-rest-in-Some
returns-in_ok-rest-in-Some c = last_sign (cache_start c.in-Some.ensures >> free c.in_ok-kept-in-Some.ensures) (c.in_ok-rest-in-Some.ensures, refl)
