use Rattle.std.proofs.Common.{refl}
use Rattle.std.proofs.lemmas.Result.{err_from_is_err_and}
use Rattle.fab_reading.specs.Reading.{any}
use Rattle.fab_reading.proofs.Rules.{sign, part, any_follows, ending, end_text, stop_part, whole, never}
use Rattle.fab_reading.proofs.ChoiceRules.{perhaps_none, perhaps_some, perhaps_text}
use Rattle.fab_expressions.specs.Pieces.{after_primary}
use Rattle.fab_expressions.proofs.PrimaryRules.{variable_start}
use Rattle.fab_expressions.proofs.expressions.variable.Goals as goal

pub returns-in_err-object : goal.returns-in_err-object
returns-in_err-object c =
    let p = err_from_is_err_and c.from_residual.result c.from_residual.ensures.1 in
    rw (p.1, p.2) (stop_part any c.in_err-object.field-0.0 (variable_start c.args.tokens.now c.requires) c.in_err-object.ensures (λ more v after q h. any_follows more) perhaps_text)

pub returns-in_err-field-in-Some : goal.returns-in_err-field-in-Some
returns-in_err-field-in-Some c =
    let p = err_from_is_err_and c.from_residual-in_err-field-in-Some.result c.from_residual-in_err-field-in-Some.ensures.1 in
    rw (p.1, p.2) (stop_part any c.in_err-field-in-Some.field-0.0 (ending (sign (perhaps_some after_primary never (part (variable_start c.args.tokens.now c.requires) c.in_ok-object.ensures (λ more v after q h. any_follows more)) c.in-Some.ensures) c.in-Some.ensures refl)) c.in_err-field-in-Some.ensures (λ more v after q h. any_follows more) end_text)

pub returns-in_ok-field-in-Some : goal.returns-in_ok-field-in-Some
returns-in_ok-field-in-Some c =
    whole (part (ending (sign (perhaps_some after_primary never (part (variable_start c.args.tokens.now c.requires) c.in_ok-object.ensures (λ more v after q h. any_follows more)) c.in-Some.ensures) c.in-Some.ensures refl)) c.in_ok-field-in-Some.ensures (λ more v after q h. any_follows more))

pub returns-in-None : goal.returns-in-None
returns-in-None c =
    whole (perhaps_none (part (variable_start c.args.tokens.now c.requires) c.in_ok-object.ensures (λ more v after q h. any_follows more)) c.in-None.ensures)
