use Rattle.fab_tree.specs.Statements.{IsRight}
use Rattle.fab_reading.specs.Reading.{any}
use Rattle.fab_reading.proofs.Rules.{not_true}
use Rattle.fab_parser.proofs.Chains.{exit}
use Rattle.fab_parser.specs.Pieces.{after_right}
use Rattle.fab_parser.proofs.PartRules.{any_weak, handed, name_stops}
use Rattle.fab_parser.proofs.RightRules.{call_name, right_called, right_created, right_lowered, right_plain, right_stops}
use Rattle.fab_parser.proofs.rights.right.Goals as goal

pub returns-in-Some : goal.returns-in-Some
returns-in-Some c = handed c.created.result (λ x. x.0) (λ x. x.1.now) any (any_weak after_right) (right_created c.place-at.ensures c.in-Some.ensures) c.created.ensures

pub returns-in-Some-downgrade : goal.returns-in-Some-downgrade
returns-in-Some-downgrade c = handed c.lowered.result (λ x. x.0) (λ x. x.1.now) any (any_weak after_right) (right_lowered c.place-at.ensures c.in-Some-downgrade.ensures) c.lowered.ensures

pub returns-in_err-method : goal.returns-in_err-method
returns-in_err-method c =
    exit _ _ _ c.from_residual.result c.from_residual.ensures.1 (name_stops IsRight after_right c.args.room c.args.tokens.now
    (call_name c.args.tokens.now (c.begins_call.ensures.0 c.if-begins_call.true)) c.in_err-method.field-0.0 c.in_err-method.ensures)

pub returns-then-begins_call : goal.returns-then-begins_call
returns-then-begins_call c = handed c.called.result (λ x. x.0) (λ x. x.1.now) any (any_weak after_right) (right_called c.in_ok-method.ensures (c.begins_call.ensures.0 c.if-begins_call.true)) c.called.ensures

pub returns-in_err-value : goal.returns-in_err-value
returns-in_err-value c =
    exit _ _ _ c.from_residual-in_err-value.result c.from_residual-in_err-value.ensures.1 (right_stops c.args.room c.args.tokens.now c.in_default.ensures
    c.in_default-downgrade.ensures (λ b. not_true c.if-begins_call.false (c.begins_call.ensures.1 b)) c.in_err-value.field-0.0 c.in_err-value.ensures)

pub returns : goal.returns
returns c = right_plain c.args.tokens.now c.in_default.ensures c.in_default-downgrade.ensures (λ b. not_true c.if-begins_call.false (c.begins_call.ensures.1 b)) c.in_ok-value.ensures
