use Rattle.fab_tree.specs.Statements.{IsStatement}
use Rattle.fab_reading.specs.Reading.{any}
use Rattle.fab_parser.proofs.Chains.{exit}
use Rattle.fab_parser.specs.Pieces.{after_statement}
use Rattle.fab_parser.proofs.PartRules.{any_weak, handed, name_stops}
use Rattle.fab_parser.proofs.StatementRules.{assigns_start, declares_start, named_start, requests_start, writes_start}
use Rattle.fab_parser.proofs.statements.named.Goals as goal

pub returns-in_err-first : goal.returns-in_err-first
returns-in_err-first c =
    exit _ _ _ c.from_residual.result c.from_residual.ensures.1
    (name_stops IsStatement after_statement c.args.room c.args.tokens.now c.requires c.in_err-first.field-0.0 c.in_err-first.ensures)

pub returns-in-Some : goal.returns-in-Some
returns-in-Some c = handed c.assigned.result (λ x. x.0) (λ x. x.1.now) any (any_weak after_statement) (assigns_start (named_start c.in_ok-first.ensures) c.in-Some.ensures) c.assigned.ensures

pub returns-in-Some-behind : goal.returns-in-Some-behind
returns-in-Some-behind c = handed c.written.result (λ x. x.0) (λ x. x.1.now) any (any_weak after_statement) (writes_start (named_start c.in_ok-first.ensures) c.in-Some-behind.ensures) c.written.ensures

pub returns-in-Some-behind-2 : goal.returns-in-Some-behind-2
returns-in-Some-behind-2 c = handed c.requested.result (λ x. x.0) (λ x. x.1.now) any (any_weak after_statement) (requests_start (named_start c.in_ok-first.ensures) c.in-Some-behind-2.ensures) c.requested.ensures

pub returns : goal.returns
returns c = handed c.declared.result (λ x. x.0) (λ x. x.1.now) any (any_weak after_statement) (declares_start (named_start c.in_ok-first.ensures) c.in_default.ensures c.in_default-behind.ensures c.in_default-behind-2.ensures) c.declared.ensures
