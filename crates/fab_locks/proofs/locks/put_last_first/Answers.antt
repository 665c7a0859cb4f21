use Rattle.std.proofs.Common.{subst, sym}
use Rattle.fab_locks.specs.Conflicts.{AreDistinct}
use Rattle.fab_locks.proofs.Joining.{next_is_new}
use Rattle.fab_locks.proofs.locks.put_last_first.Goals as goal

-- no tid stands twice in both lists, so the next isn't among the indexed ones
pub add-requires : goal.add-requires
add-requires c = record {
  absent =
      next_is_new c.each.indexed c.each.list.items c.pop.new.self.items (c.in-Some.tid, c.in-Some.items)
      (subst AreDistinct (sym c.each.invariant.0) c.requires.distinct) c.in-Some.ensures.items;
}
