use Rattle.std.proofs.Common.{subst, sym}
use Rattle.fab_stack.proofs.Making.{IsOwn, begun_own}
use Rattle.fab_stack.proofs.state.State.begin.Goals as goal

pub invariant_of-result : goal.invariant_of-result
invariant_of-result c = subst IsOwn (sym c.in_ok-make.ensures) (begun_own c.args.answers.now)
