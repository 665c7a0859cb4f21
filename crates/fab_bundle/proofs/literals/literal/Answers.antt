use Rattle.fab_reading.specs.Reading.{any}
use Rattle.fab_reading.proofs.Rules.{not_true}
use Rattle.fab_parser.proofs.Chains.{exit}
use Rattle.fab_parser.proofs.PartRules.{any_weak, last_read, last_stops}
use Rattle.fab_bundle.proofs.LiteralRules.{number_read, negated_start, null_read, named_start, literal_refused}
use Rattle.fab_bundle.proofs.literals.literal.Goals as goal

pub returns-in-Some : goal.returns-in-Some
returns-in-Some c = number_read c.in-Some.ensures

pub returns-in_err-number : goal.returns-in_err-number
returns-in_err-number c =
    exit _ _ _ c.from_residual.result c.from_residual.ensures.1
    (last_stops any (any_weak any) c.in_err-number.field-0.0 (negated_start c.in-Some-behind.ensures) c.in_err-number.ensures)

pub returns-in-Some-behind : goal.returns-in-Some-behind
returns-in-Some-behind c = last_read (any_weak any) (negated_start c.in-Some-behind.ensures) c.in_ok-number.ensures

pub returns-in-Some-behind-2 : goal.returns-in-Some-behind-2
returns-in-Some-behind-2 c = null_read c.in-Some-behind-2.ensures

pub returns-in_err-root : goal.returns-in_err-root
returns-in_err-root c =
    exit _ _ _ c.from_residual-in_err-root.result c.from_residual-in_err-root.ensures.1
    (last_stops any (any_weak any) c.in_err-root.field-0.0 (named_start c.args.tokens.now (c.starts_name.ensures.0 c.if-starts_name.true)) c.in_err-root.ensures)

pub returns-then-starts_name : goal.returns-then-starts_name
returns-then-starts_name c =
    last_read (any_weak any) (named_start c.args.tokens.now (c.starts_name.ensures.0 c.if-starts_name.true)) c.in_ok-root.ensures

pub returns : goal.returns
returns c =
    literal_refused c.args.tokens.now c.in_default.ensures c.in_default-behind.ensures c.in_default-behind-2.ensures
    (λ s. not_true c.if-starts_name.false (c.starts_name.ensures.1 s))
