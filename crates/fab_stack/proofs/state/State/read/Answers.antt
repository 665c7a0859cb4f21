use Rattle.fab_stack.proofs.Making.{own_after, read_own}
use Rattle.fab_stack.proofs.state.State.read.Goals as goal

pub invariant_of-self : goal.invariant_of-self
invariant_of-self c = own_after c.read.result c.self.inside.frames c.read.new.self _ c.self.invariant (read_own c.args.site _ c.args.field c.self.inside.frames c.self.invariant) c.read.ensures
