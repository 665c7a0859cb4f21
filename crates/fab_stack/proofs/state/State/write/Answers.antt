use Rattle.fab_stack.proofs.Making.{own_after, write_own}
use Rattle.fab_stack.proofs.state.State.write.Goals as goal

pub invariant_of-self : goal.invariant_of-self
invariant_of-self c = own_after c.write.result c.self.inside.frames c.write.new.self _ c.self.invariant (write_own c.args.site _ c.args.field c.args.value c.self.inside.frames c.self.invariant) c.write.ensures
