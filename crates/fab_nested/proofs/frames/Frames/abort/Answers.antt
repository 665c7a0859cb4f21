use Rattle.fab_nested.specs.Logs.{heap_of}
use Rattle.fab_nested.specs.Overlay.{rows_of}
use Rattle.fab_nested.proofs.Undoing.{aborted_logged, aborted_is}
use Rattle.fab_nested.proofs.frames.Frames.abort.Goals as goal

pub invariant_of-self : goal.invariant_of-self
invariant_of-self c = record {
  below = c.self.invariant.below;
  above = aborted_logged c.self.inside.log.items (heap_of c.self.inside.objects) c.self.inside.marks.items c.pop.new.self.items c.in-Some.mark c.self.invariant.above c.in-Some.ensures.items
      c.undo_to.new.log.items (heap_of c.undo_to.new.objects) c.undo_to.ensures.heap c.undo_to.ensures.log;
}

pub returns-in-Some : goal.returns-in-Some
returns-in-Some c =
    aborted_is c.self.inside.log.items (heap_of c.self.inside.objects) c.self.inside.marks.items c.pop.new.self.items c.in-Some.mark c.self.invariant.above c.in-Some.ensures.items
    c.undo_to.new.log.items (heap_of c.undo_to.new.objects) c.undo_to.ensures.heap c.undo_to.ensures.log c.self.inside.versions.entries (rows_of c.self.inside.known) c.self.inside.touches c.args.self.now c.self.view_is
