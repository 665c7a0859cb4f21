use Rattle.fab_nested.specs.Logs.{heap_of}
use Rattle.fab_nested.proofs.Undoing.{popped_logged}
use Rattle.fab_nested.proofs.frames.Frames.merge.Goals as goal

pub invariant_of-self-else-is_empty : goal.invariant_of-self-else-is_empty
invariant_of-self-else-is_empty c = record {
  below = c.self.invariant.below;
  above = popped_logged c.self.inside.log.items (heap_of c.self.inside.objects) c.self.inside.marks.items c.pop.new.self.items c.pop.result c.self.invariant.above c.pop.ensures.items;
}
