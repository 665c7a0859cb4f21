use Rattle.std.proofs.Common.{append-nil, refl}
use Rattle.fab_reading.specs.Reading.{any}
use Rattle.fab_reading.proofs.Rules.{alike, part, stop_part, stop_sign, stop_open, whole, not_true, one_more, takes_some}
use Rattle.fab_reading.proofs.ListRules.{list_end, list_more, repeated_text}
use Rattle.fab_parser.specs.Pieces.{after_statement, begins_statement, behind_statements}
use Rattle.fab_parser.proofs.Chains.{exit, texts, free, led_last, ◌>>◌, ◌>|◌, inside, outside, free_stops, led_last_stops, last_sign, last_sign_stops}
use Rattle.fab_parser.proofs.PartRules.{any_weak, handed, last_read, last_stops}
use Rattle.fab_parser.proofs.StatementParts.{block_text, otherwise_text, choice_start, loop_start, attempt_start, block_start, else_block, else_lacks}
use Rattle.fab_parser.proofs.StatementRules.{atomic_start, fail_start, if_start, int_start, statement_begins, statement_refused, statements_meet, while_start}
use Rattle.fab_parser.proofs.statements.+statement.Goals as goal

pub choice-returns-in_err-condition : goal.choice-returns-in_err-condition
choice-returns-in_err-condition t c =
    exit _ _ _ c.from_residual.result c.from_residual.ensures.1
    (free_stops c.in_err-condition.field-0.0 (choice_start c.args.tokens.now) c.in_err-condition.ensures (search (texts, block_text, otherwise_text)))

pub choice-returns-in_err-first : goal.choice-returns-in_err-first
choice-returns-in_err-first t c =
    exit _ _ _ c.from_residual-in_err-first.result c.from_residual-in_err-first.ensures.1
    (free_stops c.in_err-first.field-0.0 (choice_start c.args.tokens.now >> free c.in_ok-condition.ensures) c.in_err-first.ensures otherwise_text)

pub choice-returns-in_err-second : goal.choice-returns-in_err-second
choice-returns-in_err-second t c =
    exit _ _ _ c.from_residual-in_err-second.result c.from_residual-in_err-second.ensures.1
    (last_stops after_statement (λ x h. h) c.in_err-second.field-0.0 (choice_start c.args.tokens.now >> free c.in_ok-condition.ensures >> free c.in_ok-first.ensures)
    c.in_err-second.ensures)

pub choice-returns : goal.choice-returns
choice-returns t c =
    last_read (λ x h. h) (choice_start c.args.tokens.now >> free c.in_ok-condition.ensures >> free c.in_ok-first.ensures) c.in_ok-second.ensures

pub repetition-returns-in_err-condition : goal.repetition-returns-in_err-condition
repetition-returns-in_err-condition t c =
    exit _ _ _ c.from_residual.result c.from_residual.ensures.1
    (free_stops c.in_err-condition.field-0.0 (loop_start c.args.tokens.now) c.in_err-condition.ensures block_text)

pub repetition-returns-in_err-inside : goal.repetition-returns-in_err-inside
repetition-returns-in_err-inside t c =
    exit _ _ _ c.from_residual-in_err-inside.result c.from_residual-in_err-inside.ensures.1
    (last_stops any (any_weak any) c.in_err-inside.field-0.0 (loop_start c.args.tokens.now >> free c.in_ok-condition.ensures) c.in_err-inside.ensures)

pub repetition-returns : goal.repetition-returns
repetition-returns t c = last_read (any_weak any) (loop_start c.args.tokens.now >> free c.in_ok-condition.ensures) c.in_ok-inside.ensures

pub attempt-returns-in_err-label : goal.attempt-returns-in_err-label
attempt-returns-in_err-label t c =
    exit _ _ _ c.from_residual.result c.from_residual.ensures.1
    (free_stops c.in_err-label.field-0.0 (attempt_start c.args.tokens.now) c.in_err-label.ensures (search (texts, block_text)))

pub attempt-returns-in_err-first : goal.attempt-returns-in_err-first
attempt-returns-in_err-first t c =
    exit _ _ _ c.from_residual-in_err-first.result c.from_residual-in_err-first.ensures.1
    (free_stops c.in_err-first.field-0.0 (attempt_start c.args.tokens.now >> free c.in_ok-label.ensures) c.in_err-first.ensures (search (texts, block_text)))

pub attempt-returns-in_err-rest : goal.attempt-returns-in_err-rest
attempt-returns-in_err-rest t c =
    exit _ _ _ c.from_residual-in_err-rest.result c.from_residual-in_err-rest.ensures.1
    (stop_sign c.in_err-rest.field-0.0 (attempt_start c.args.tokens.now >> free c.in_ok-label.ensures >> free c.in_ok-first.ensures) c.in_err-rest.ensures block_text)

pub attempt-returns-in_err-second : goal.attempt-returns-in_err-second
attempt-returns-in_err-second t c =
    exit _ _ _ c.from_residual-in_err-second.result c.from_residual-in_err-second.ensures.1
    (last_stops any (any_weak any) c.in_err-second.field-0.0 (attempt_start c.args.tokens.now >> free c.in_ok-label.ensures >> free c.in_ok-first.ensures
    >| (c.in_ok-rest.ensures, refl)) c.in_err-second.ensures)

pub attempt-returns : goal.attempt-returns
attempt-returns t c =
    last_read (any_weak any) (attempt_start c.args.tokens.now >> free c.in_ok-label.ensures >> free c.in_ok-first.ensures >| (c.in_ok-rest.ensures, refl))
    c.in_ok-second.ensures

pub block-returns-in_err-rest : goal.block-returns-in_err-rest
block-returns-in_err-rest t c =
    exit _ _ _ c.from_residual.result c.from_residual.ensures.1
    (stop_open c.in_err-rest.field-0.0 (block_start c.args.tokens.now) c.in_err-rest.ensures refl (search texts))

pub block-returns-in_err-inside : goal.block-returns-in_err-inside
block-returns-in_err-inside t c =
    exit _ _ _ c.from_residual-in_err-inside.result c.from_residual-in_err-inside.ensures.1
    (led_last_stops behind_statements c.in_err-inside.field-0.0 (block_start c.args.tokens.now >| inside c.in_ok-rest.ensures (λ r. refl)) c.in_err-inside.ensures refl)

pub block-returns-in_err-rest-2 : goal.block-returns-in_err-rest-2
block-returns-in_err-rest-2 t c =
    exit _ _ _ c.from_residual-in_err-rest-2.result c.from_residual-in_err-rest-2.ensures.1
    (last_sign_stops c.in_err-rest-2.field-0.0 (block_start c.args.tokens.now >| inside c.in_ok-rest.ensures (λ r. refl) >> led_last c.in_ok-inside.ensures refl)
    c.in_err-rest-2.ensures)

pub block-returns : goal.block-returns
block-returns t c =
    last_sign (block_start c.args.tokens.now >| inside c.in_ok-rest.ensures (λ r. refl) >> led_last c.in_ok-inside.ensures refl)
    (outside _ c.in_ok-rest-2.ensures c.in_ok-rest.ensures.1 (λ r. refl))

pub otherwise-returns-in-None : goal.otherwise-returns-in-None
otherwise-returns-in-None t c = whole (else_lacks c.args.tokens.now c.in-None.ensures)

pub otherwise-returns-in_err-second-in-Some : goal.otherwise-returns-in_err-second-in-Some
otherwise-returns-in_err-second-in-Some t c =
    exit _ _ _ c.from_residual.result c.from_residual.ensures.1
    (last_stops any (any_weak after_statement) c.in_err-second-in-Some.field-0.0 (else_block c.in-Some.ensures) c.in_err-second-in-Some.ensures)

pub otherwise-returns-in_ok-second-in-Some : goal.otherwise-returns-in_ok-second-in-Some
otherwise-returns-in_ok-second-in-Some t c = last_read (any_weak after_statement) (else_block c.in-Some.ensures) c.in_ok-second-in-Some.ensures

pub statements-returns-in_err-item : goal.statements-returns-in_err-item
statements-returns-in_err-item t c =
    exit _ _ _ c.from_residual.result c.from_residual.ensures.1
    (stop_part after_statement c.in_err-item.field-0.0 (list_more begins_statement after_statement c.list.invariant (c.starts_statement.ensures.0 c.list-test.true))
    c.in_err-item.ensures statements_meet repeated_text)

pub statements-list-preserved : goal.statements-list-preserved
statements-list-preserved t c =
    alike _ (part (list_more begins_statement after_statement c.list.invariant (c.starts_statement.ensures.0 c.list-test.true)) c.in_ok-item.ensures statements_meet) (one_more _ _ _ c.in_ok-found.ensures)

pub statements-list-smaller : goal.statements-list-smaller
statements-list-smaller t c =
    takes_some begins_statement statement_begins c.in_ok-item.ensures

pub statements-returns : goal.statements-returns
statements-returns t c =
    rw c.fitted.ensures (whole (alike _ (list_end begins_statement statement_begins c.list.invariant (λ s. not_true c.list-test.false (c.starts_statement.ensures.1 s))) (λ v. append-nil _)))

pub statement-returns-in-Some : goal.statement-returns-in-Some
statement-returns-in-Some t c = handed c.declared.result (λ x. x.0) (λ x. x.1.now) any (any_weak after_statement) (int_start c.place-at.ensures c.in-Some.ensures) c.declared.ensures

pub statement-returns-in-Some-behind : goal.statement-returns-in-Some-behind
statement-returns-in-Some-behind t c = handed c.choice.result (λ x. x.0) (λ x. x.1.now) after_statement (λ x h. h) (if_start c.place-at.ensures c.in-Some-behind.ensures) c.choice.ensures

pub statement-returns-in-Some-behind-2 : goal.statement-returns-in-Some-behind-2
statement-returns-in-Some-behind-2 t c = handed c.repetition.result (λ x. x.0) (λ x. x.1.now) any (any_weak after_statement) (while_start c.place-at.ensures c.in-Some-behind-2.ensures) c.repetition.ensures

pub statement-returns-in-Some-behind-3 : goal.statement-returns-in-Some-behind-3
statement-returns-in-Some-behind-3 t c = handed c.attempt.result (λ x. x.0) (λ x. x.1.now) any (any_weak after_statement) (atomic_start c.place-at.ensures c.in-Some-behind-3.ensures) c.attempt.ensures

pub statement-returns-in-Some-behind-4 : goal.statement-returns-in-Some-behind-4
statement-returns-in-Some-behind-4 t c = handed c.failure.result (λ x. x.0) (λ x. x.1.now) any (any_weak after_statement) (fail_start c.place-at.ensures c.in-Some-behind-4.ensures) c.failure.ensures

pub statement-returns-in-None : goal.statement-returns-in-None
statement-returns-in-None t c =
    statement_refused c.args.tokens.now (λ s. not_true c.if-starts_name.false (c.starts_name.ensures.1 s)) c.in_default.ensures c.in_default-behind.ensures c.in_default-behind-2.ensures c.in_default-behind-3.ensures c.in-None.ensures
