use Rattle.std.proofs.Common.{length}
use Rattle.fab_audit.proofs.Kept.{IsPut}
use Rattle.fab_audit.proofs.keeping.put_all_kept.Given as goal

abbrev pub invariant-journals : goal.invariant-journals
invariant-journals l = IsPut l.core l.program l.journals l.rest l.fn.out l.out

abbrev pub decreases-journals : goal.decreases-journals
decreases-journals l = length l.rest
