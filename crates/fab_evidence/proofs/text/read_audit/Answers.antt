use Rattle.std.proofs.Common.{sym}
use Rattle.fab_evidence.proofs.text.read_audit.Goals as goal

pub overflow_sub-result : goal.overflow_sub-result
overflow_sub-result c = (rw c.in-Err-Bad.field-0-is at c.in-Err-Bad.ensures).0

pub returns-in-Ok-clause-found : goal.returns-in-Ok-clause-found
returns-in-Ok-clause-found c = c.in-Ok.ensures.0

pub returns-in-Ok-clause-only : goal.returns-in-Ok-clause-only
returns-in-Ok-clause-only c = λ lines journals h. let e = c.in-Ok.ensures.1 lines journals h in (sym e.0, sym e.1)

pub returns-in-Err-Bad-clause-only : goal.returns-in-Err-Bad-clause-only
returns-in-Err-Bad-clause-only c = λ lines journals h. (rw c.in-Err-Bad.field-0-is at c.in-Err-Bad.ensures).1.unread lines journals h

pub returns-in-Err-Bad-clause-bad : goal.returns-in-Err-Bad-clause-bad
returns-in-Err-Bad-clause-bad c = (rw c.in-Err-Bad.field-0-is at c.in-Err-Bad.ensures).1
