use Rattle.std.proofs.Common.{subst, sym}
use Rattle.fab_stack.proofs.Making.{IsOwn, over_own}
use Rattle.fab_stack.proofs.state.State.owning.Goals as goal

pub invariant_of-result : goal.invariant_of-result
invariant_of-result c = subst IsOwn (sym c.owning.ensures) (over_own c.args.known)
