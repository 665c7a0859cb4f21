use Rattle.std.proofs.Common.{rules}
use Rattle.fab_audit.proofs.Statuses.{one_of_long_audit}
use Rattle.fab_audit.proofs.reply.audited.Goals as goal

pub returns-then-text-gt-BYTES : goal.returns-then-text-gt-BYTES
returns-then-text-gt-BYTES c = rw c.in_ok-reply.ensures (one_of_long_audit (search rules))
