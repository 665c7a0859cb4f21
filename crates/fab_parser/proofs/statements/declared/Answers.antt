use Rattle.std.proofs.Common.{refl}
use Rattle.fab_reading.specs.Reading.{any}
use Rattle.fab_reading.proofs.Rules.{stop_sign}
use Rattle.fab_parser.proofs.Chains.{exit, texts, free, ◌>>◌, ◌>|◌, free_stops}
use Rattle.fab_parser.proofs.PartRules.{any_weak, last_read, last_stops}
use Rattle.fab_parser.proofs.StatementParts.{value_text, declared_start}
use Rattle.fab_parser.proofs.statements.declared.Goals as goal

pub returns-in_err-local : goal.returns-in_err-local
returns-in_err-local c =
    exit _ _ _ c.from_residual.result c.from_residual.ensures.1
    (free_stops c.in_err-local.field-0.0 (declared_start c.args.tokens.now) c.in_err-local.ensures (search (texts, value_text)))

pub returns-in_err-rest : goal.returns-in_err-rest
returns-in_err-rest c =
    exit _ _ _ c.from_residual-in_err-rest.result c.from_residual-in_err-rest.ensures.1
    (stop_sign c.in_err-rest.field-0.0 (declared_start c.args.tokens.now >> free c.in_ok-local.ensures) c.in_err-rest.ensures (search (texts, value_text)))

pub returns-in_err-label : goal.returns-in_err-label
returns-in_err-label c =
    exit _ _ _ c.from_residual-in_err-label.result c.from_residual-in_err-label.ensures.1
    (free_stops c.in_err-label.field-0.0 (declared_start c.args.tokens.now >> free c.in_ok-local.ensures >| (c.in_ok-rest.ensures, refl)) c.in_err-label.ensures
    (search (texts, value_text)))

pub returns-in_err-rest-2 : goal.returns-in_err-rest-2
returns-in_err-rest-2 c =
    exit _ _ _ c.from_residual-in_err-rest-2.result c.from_residual-in_err-rest-2.ensures.1
    (stop_sign c.in_err-rest-2.field-0.0 (declared_start c.args.tokens.now >> free c.in_ok-local.ensures >| (c.in_ok-rest.ensures, refl) >> free c.in_ok-label.ensures)
    c.in_err-rest-2.ensures value_text)

pub returns-in_err-value : goal.returns-in_err-value
returns-in_err-value c =
    exit _ _ _ c.from_residual-in_err-value.result c.from_residual-in_err-value.ensures.1
    (last_stops any (any_weak any) c.in_err-value.field-0.0 (declared_start c.args.tokens.now >> free c.in_ok-local.ensures >| (c.in_ok-rest.ensures, refl)
    >> free c.in_ok-label.ensures >| (c.in_ok-rest-2.ensures, refl)) c.in_err-value.ensures)

pub returns : goal.returns
returns c =
    last_read (any_weak any) (declared_start c.args.tokens.now >> free c.in_ok-local.ensures >| (c.in_ok-rest.ensures, refl) >> free c.in_ok-label.ensures
    >| (c.in_ok-rest-2.ensures, refl)) c.in_ok-value.ensures
