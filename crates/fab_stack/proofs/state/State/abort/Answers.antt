use Rattle.std.proofs.Common.{subst, sym}
use Rattle.fab_stack.proofs.Making.{IsOwn, aborted_own}
use Rattle.fab_stack.proofs.state.State.abort.Goals as goal

pub invariant_of-self : goal.invariant_of-self
invariant_of-self c = subst IsOwn (sym c.abort.ensures) (aborted_own c.self.inside.frames c.self.invariant)
