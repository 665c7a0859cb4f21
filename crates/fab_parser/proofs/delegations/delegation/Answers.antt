use Rattle.std.proofs.Common.{refl}
use Rattle.fab_base.specs.declared.token.Mark.TheVariants as m
use Rattle.fab_reading.proofs.Rules.{stop_sign}
use Rattle.fab_parser.proofs.Chains.{exit, texts, free, ◌>>◌, ◌>|◌, mark_text, free_stops, last_sign, last_sign_stops}
use Rattle.fab_parser.proofs.DelegationRules.{delegation_start}
use Rattle.fab_parser.proofs.delegations.delegation.Goals as goal

pub returns-in_err-actor : goal.returns-in_err-actor
returns-in_err-actor c =
    exit _ _ _ c.from_residual.result c.from_residual.ensures.1
    (free_stops c.in_err-actor.field-0.0 (delegation_start c.args.tokens.now) c.in_err-actor.ensures (search texts))

pub returns-in_err-rest : goal.returns-in_err-rest
returns-in_err-rest c =
    exit _ _ _ c.from_residual-in_err-rest.result c.from_residual-in_err-rest.ensures.1
    (stop_sign c.in_err-rest.field-0.0 (delegation_start c.args.tokens.now >> free c.in_ok-actor.ensures) c.in_err-rest.ensures (search texts))

pub returns-in_err-principal : goal.returns-in_err-principal
returns-in_err-principal c =
    exit _ _ _ c.from_residual-in_err-principal.result c.from_residual-in_err-principal.ensures.1
    (free_stops c.in_err-principal.field-0.0 (delegation_start c.args.tokens.now >> free c.in_ok-actor.ensures >| (c.in_ok-rest.ensures, refl))
    c.in_err-principal.ensures (mark_text m.Semicolon))

pub returns-in_err-rest-2 : goal.returns-in_err-rest-2
returns-in_err-rest-2 c =
    exit _ _ _ c.from_residual-in_err-rest-2.result c.from_residual-in_err-rest-2.ensures.1
    (last_sign_stops c.in_err-rest-2.field-0.0 (delegation_start c.args.tokens.now >> free c.in_ok-actor.ensures >| (c.in_ok-rest.ensures, refl)
    >> free c.in_ok-principal.ensures) c.in_err-rest-2.ensures)

pub returns : goal.returns
returns c =
    last_sign (delegation_start c.args.tokens.now >> free c.in_ok-actor.ensures >| (c.in_ok-rest.ensures, refl) >> free c.in_ok-principal.ensures)
    (c.in_ok-rest-2.ensures, refl)
