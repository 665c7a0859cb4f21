use Rattle.std.proofs.Common.{refl}
use Rattle.fab_reading.specs.Reading.{any}
use Rattle.fab_reading.proofs.Rules.{stop_sign}
use Rattle.fab_parser.proofs.Chains.{exit, texts, free, ◌>>◌, ◌>|◌, free_stops}
use Rattle.fab_parser.proofs.PartRules.{any_weak, last_read, last_stops}
use Rattle.fab_parser.proofs.StatementParts.{value_text, written_start}
use Rattle.fab_parser.proofs.statements.written.Goals as goal

pub returns-in_err-field : goal.returns-in_err-field
returns-in_err-field c =
    exit _ _ _ c.from_residual.result c.from_residual.ensures.1
    (free_stops c.in_err-field.field-0.0 (written_start c.args.tokens.now) c.in_err-field.ensures (search (texts, value_text)))

pub returns-in_err-rest : goal.returns-in_err-rest
returns-in_err-rest c =
    exit _ _ _ c.from_residual-in_err-rest.result c.from_residual-in_err-rest.ensures.1
    (stop_sign c.in_err-rest.field-0.0 (written_start c.args.tokens.now >> free c.in_ok-field.ensures) c.in_err-rest.ensures value_text)

pub returns-in_err-value : goal.returns-in_err-value
returns-in_err-value c =
    exit _ _ _ c.from_residual-in_err-value.result c.from_residual-in_err-value.ensures.1
    (last_stops any (any_weak any) c.in_err-value.field-0.0 (written_start c.args.tokens.now >> free c.in_ok-field.ensures >| (c.in_ok-rest.ensures, refl))
    c.in_err-value.ensures)

pub returns : goal.returns
returns c =
    last_read (any_weak any) (written_start c.args.tokens.now >> free c.in_ok-field.ensures >| (c.in_ok-rest.ensures, refl)) c.in_ok-value.ensures
