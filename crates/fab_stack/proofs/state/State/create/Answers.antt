use Rattle.fab_stack.proofs.Making.{own_after, create_own, next_is_new}
use Rattle.fab_stack.proofs.state.State.create.Goals as goal

pub create-requires : goal.create-requires
create-requires c = next_is_new _ c.self.inside.frames.now c.self.invariant.0 c.made_at.ensures

pub invariant_of-self : goal.invariant_of-self
invariant_of-self c = own_after c.create.result c.self.inside.frames c.create.new.self _ c.self.invariant (create_own _ _ c.self.inside.frames c.self.invariant c.made_at.ensures) c.create.ensures
