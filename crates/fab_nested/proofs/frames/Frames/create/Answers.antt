use Rattle.std.proofs.Common.{ap, ◌∙◌}
use Rattle.fab_language.specs.Heaps.{is_among}
use Rattle.fab_nested.specs.Logs.{heap_of}
use Rattle.fab_nested.specs.Nested.{Nested}
use Rattle.fab_nested.specs.Overlay.{rows_of}
use Rattle.fab_nested.proofs.Stepping.{sound_made}
use Rattle.fab_nested.proofs.Undoing.{later_logged, later_saved}
use Rattle.fab_nested.proofs.Calling.{create_gives}
use Rattle.fab_nested.proofs.frames.Frames.create.Goals as goal

pub make-requires-clause-unmade : goal.make-requires-clause-unmade
make-requires-clause-unmade c = ap (λ (n : Nested). is_among c.args.oid n.now.made) c.self.view_is ∙ c.requires

pub invariant_of-self-2 : goal.invariant_of-self-2
invariant_of-self-2 c =
    let steps = rw c.in-Some.is at c.in_ok-change.ensures.ok in
    record {
      below = c.self.invariant.below;
      above = later_logged c.self.inside.log.items c.note.new.log.items c.make_room.new.log.items c.in-Some.change (heap_of c.self.inside.objects) (heap_of c.make.new.self) c.self.inside.marks.items c.deref.result.now
          c.self.invariant.above steps.1 c.note.ensures c.deref.ensures.value c.make_room.ensures.items
          (sound_made c.args.oid c.args.object (heap_of c.self.inside.objects) (heap_of c.make.new.self) c.self.invariant.above.now steps.0);
    }

pub returns : goal.returns
returns c =
    let steps = rw c.in-Some.is at c.in_ok-change.ensures.ok in
    create_gives c.self.inside.versions.entries (rows_of c.self.inside.known) c.self.inside.log.items (heap_of c.self.inside.objects) c.self.inside.marks.items c.self.inside.touches c.args.self.now c.self.view_is
    c.self.invariant c.args.oid c.args.object c.note.new.log.items (heap_of c.make.new.self) steps.0
    (later_saved c.self.inside.log.items c.note.new.log.items c.make_room.new.log.items c.in-Some.change (heap_of c.self.inside.objects) (heap_of c.make.new.self) c.self.inside.marks.items c.deref.result.now
    c.self.invariant.above steps.1 c.note.ensures c.deref.ensures.value c.make_room.ensures.items)
