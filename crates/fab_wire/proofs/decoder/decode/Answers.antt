use Rattle.std.proofs.Common.{◌≤◌, length, arith}
use Rattle.fab_base.specs.MessageSpelling.{byte_limit}
use Rattle.fab_wire.proofs.WholeLaws.{whole_found, whole_again, whole_place, never_read, bad_place, is_read, is_unread}
use Rattle.fab_wire.proofs.decoder.decode.Goals as goal

pub overflow_sub-result : goal.overflow_sub-result
overflow_sub-result c = (whole_place c.args.bytes.now c.in-Err-Bad.left (λ i. omega (arith, c.type_inv.bytes i)) (rw c.in-Err-Bad.field-0-is at c.in-Err-Bad.ensures)).0

pub returns-in-Ok-clause-found : goal.returns-in-Ok-clause-found
returns-in-Ok-clause-found c = record { short = omega arith; spelled = whole_found c.args.bytes.now _ (λ i. omega (arith, c.type_inv.bytes i)) c.in-Ok.ensures }

pub returns-in-Ok-clause-only : goal.returns-in-Ok-clause-only
returns-in-Ok-clause-only c = λ m read. let e = whole_again c.args.bytes.now m read.spelled in cc (e, c.in-Ok.ensures)

pub returns-in-Err-Bad-clause-only : goal.returns-in-Err-Bad-clause-only
returns-in-Err-Bad-clause-only c = λ m read. never_read c.args.bytes.now c.in-Err-Bad.left (rw c.in-Err-Bad.field-0-is at c.in-Err-Bad.ensures) m read.spelled

pub returns-in-Err-Bad-clause-bad : goal.returns-in-Err-Bad-clause-bad
returns-in-Err-Bad-clause-bad c =
    bad_place c.args.bytes.now c.in-Err-Bad.left (λ i. omega (arith, c.type_inv.bytes i)) (rw c.in-Err-Bad.field-0-is at c.in-Err-Bad.ensures) (let le : length c.args.bytes.now ≤ byte_limit = omega arith in le)

pub returns-then-bytes-gt-BYTE_LIMIT-clause-read : goal.returns-then-bytes-gt-BYTE_LIMIT-clause-read
returns-then-bytes-gt-BYTE_LIMIT-clause-read c = is_unread c.args.bytes.now (λ m read. omega (arith, read.short, c.if-bytes-gt-BYTE_LIMIT.true))

pub returns-in-Ok-clause-read : goal.returns-in-Ok-clause-read
returns-in-Ok-clause-read c = is_read c.args.bytes.now _ (returns-in-Ok-clause-found c)

pub returns-in-Err-Bad-clause-read : goal.returns-in-Err-Bad-clause-read
returns-in-Err-Bad-clause-read c = is_unread c.args.bytes.now (returns-in-Err-Bad-clause-bad c).unread
