use Rattle.std.proofs.Common.{refl}
use Rattle.fab_base.specs.declared.token.Mark.TheVariants as m
use Rattle.fab_parser.proofs.Chains.{exit, texts, free, ◌>>◌, mark_text, free_stops, last_sign, last_sign_stops}
use Rattle.fab_parser.proofs.ClassRules.{field_start}
use Rattle.fab_parser.proofs.classes.field.Goals as goal

pub returns-in_err-sort : goal.returns-in_err-sort
returns-in_err-sort c =
    exit _ _ _ c.from_residual.result c.from_residual.ensures.1 (free_stops c.in_err-sort.field-0.0 (field_start c.args.tokens.now) c.in_err-sort.ensures (search texts))

pub returns-in_err-name : goal.returns-in_err-name
returns-in_err-name c =
    exit _ _ _ c.from_residual-in_err-name.result c.from_residual-in_err-name.ensures.1
    (free_stops c.in_err-name.field-0.0 (field_start c.args.tokens.now >> free c.in_ok-sort.ensures) c.in_err-name.ensures (mark_text m.Semicolon))

pub returns-in_err-rest : goal.returns-in_err-rest
returns-in_err-rest c =
    exit _ _ _ c.from_residual-in_err-rest.result c.from_residual-in_err-rest.ensures.1
    (last_sign_stops c.in_err-rest.field-0.0 (field_start c.args.tokens.now >> free c.in_ok-sort.ensures >> free c.in_ok-name.ensures) c.in_err-rest.ensures)

pub returns : goal.returns
returns c = last_sign (field_start c.args.tokens.now >> free c.in_ok-sort.ensures >> free c.in_ok-name.ensures) (c.in_ok-rest.ensures, refl)
