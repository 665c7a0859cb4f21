use Rattle.fab_stack.proofs.Making.{merged_own, own_or_kept}
use Rattle.fab_stack.proofs.state.State.merge.Goals as goal

pub invariant_of-self : goal.invariant_of-self
invariant_of-self c = own_or_kept c.merge.result c.self.inside.frames c.merge.new.self _ c.self.invariant (merged_own c.self.inside.frames c.self.invariant) c.merge.ensures.ok c.merge.ensures.err
