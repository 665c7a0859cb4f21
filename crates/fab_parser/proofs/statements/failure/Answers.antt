use Rattle.std.proofs.Common.{refl}
use Rattle.fab_parser.proofs.Chains.{exit, last_sign, last_sign_stops}
use Rattle.fab_parser.proofs.StatementParts.{failure_start}
use Rattle.fab_parser.proofs.statements.failure.Goals as goal

pub returns-in_err-rest : goal.returns-in_err-rest
returns-in_err-rest c =
    exit _ _ _ c.from_residual.result c.from_residual.ensures.1 (last_sign_stops c.in_err-rest.field-0.0 (failure_start c.args.tokens.now) c.in_err-rest.ensures)

pub returns : goal.returns
returns c = last_sign (failure_start c.args.tokens.now) (c.in_ok-rest.ensures, refl)
