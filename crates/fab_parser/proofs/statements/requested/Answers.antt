use Rattle.std.proofs.Common.{refl}
use Rattle.fab_base.specs.declared.token.Mark.TheVariants as m
use Rattle.fab_parser.proofs.Chains.{exit, free, ◌>>◌, mark_text, free_stops, last_sign, last_sign_stops}
use Rattle.fab_parser.proofs.StatementParts.{requested_start}
use Rattle.fab_parser.proofs.statements.requested.Goals as goal

pub returns-in_err-arguments : goal.returns-in_err-arguments
returns-in_err-arguments c =
    exit _ _ _ c.from_residual.result c.from_residual.ensures.1
    (free_stops c.in_err-arguments.field-0.0 (requested_start c.args.tokens.now) c.in_err-arguments.ensures (mark_text m.Semicolon))

pub returns-in_err-rest : goal.returns-in_err-rest
returns-in_err-rest c =
    exit _ _ _ c.from_residual-in_err-rest.result c.from_residual-in_err-rest.ensures.1
    (last_sign_stops c.in_err-rest.field-0.0 (requested_start c.args.tokens.now >> free c.in_ok-arguments.ensures) c.in_err-rest.ensures)

pub returns : goal.returns
returns c = last_sign (requested_start c.args.tokens.now >> free c.in_ok-arguments.ensures) (c.in_ok-rest.ensures, refl)
