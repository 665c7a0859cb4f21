use Rattle.std.proofs.Common.{arith}
use Rattle.fab_audit.proofs.Kept.{are_bytes}
use Rattle.fab_audit.proofs.keeping.put_line.Goals as goal

pub returns-clause-bytes : goal.returns-clause-bytes
returns-clause-bytes c = are_bytes c.args.bytes.now (λ i. omega (arith, c.type_inv.bytes i))
