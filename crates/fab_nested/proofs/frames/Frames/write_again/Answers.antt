use Rattle.std.proofs.Common.{◌≡◌, true, Some, ap, ◌∙◌}
use Rattle.fab_base.specs.declared.object.Stop.TheVariants.{Reads}
use Rattle.fab_base.specs.FlatMap.{get, put_all}
use Rattle.fab_language.specs.Heaps.{Heap, is_changed, reach_in}
use Rattle.fab_language.specs.Meaning.{with_field}
use Rattle.fab_nested.specs.Logs.{heap_of, IsSound}
use Rattle.fab_nested.specs.Nested.{Nested, stops}
use Rattle.fab_nested.specs.Overlay.{rows_of}
use Rattle.fab_nested.proofs.Over.{found_changed}
use Rattle.fab_nested.proofs.Stepping.{sound_written}
use Rattle.fab_nested.proofs.Undoing.{later_logged, later_saved}
use Rattle.fab_nested.proofs.Calling.{changed_there, found_from, full_from, on_false, same_left, write_full, write_gives}
use Rattle.fab_nested.proofs.frames.Frames.write_again.Goals as goal

pub returns-then-not-branch : goal.returns-then-not-branch
returns-then-not-branch c =
    let h : Heap = heap_of c.self.inside.objects in
    let sound : IsSound h = c.self.invariant.above.now in
    let changed : is_changed c.args.oid h ≡ true = ap (λ (n : Nested). is_changed c.args.oid n.now) c.self.view_is ∙ c.requires in
    let x = changed_there h c.args.oid sound changed in
    let there : get (put_all h.rows (rows_of c.self.inside.known)) c.args.oid ≡ Some x.0 = found_changed h.rows (rows_of c.self.inside.known) c.args.oid x.0 sound.ascending x.1 in
    write_full c.self.inside.versions.entries (rows_of c.self.inside.known) c.self.inside.log.items (heap_of c.self.inside.objects) c.self.inside.marks.items c.self.inside.touches c.args.self.now c.self.view_is
    c.args.site c.args.oid c.args.field c.args.value x.0 there (full_from c.in_ok-touch.field-0 (reach_in c.args.site c.args.oid (Some x.0) h.made c.self.inside.touches) x.0 c.touch.new.touches c.if-not-branch.true (c.in_ok-touch.ensures.fits x.0))
    ∙ ap (stops Reads) (same_left c.self.inside.versions.entries (rows_of c.self.inside.known) c.self.inside.log.items c.make_room.new.log.items h c.self.inside.marks.items c.self.inside.touches c.touch.new.touches c.args.self.now c.self.view_is
    c.make_room.ensures.items (on_false c.in_ok-touch.field-0 _ c.if-not-branch.true c.in_ok-touch.ensures.full))

pub invariant_of-self-2 : goal.invariant_of-self-2
invariant_of-self-2 c =
    let h : Heap = heap_of c.self.inside.objects in
    let sound : IsSound h = c.self.invariant.above.now in
    let changed : is_changed c.args.oid h ≡ true = ap (λ (n : Nested). is_changed c.args.oid n.now) c.self.view_is ∙ c.requires in
    let x = changed_there h c.args.oid sound changed in
    let steps = c.write_field-change.ensures x.0 x.1 in
    record {
      below = c.self.invariant.below;
      above = later_logged c.self.inside.log.items c.note.new.log.items c.make_room.new.log.items c.write_field-change.result h (heap_of c.write_field-change.new.self) c.self.inside.marks.items c.deref.result.now
          c.self.invariant.above steps.1 c.note.ensures c.deref.ensures.value c.make_room.ensures.items
          (sound_written c.args.oid (with_field c.args.field c.args.value x.0) h (heap_of c.write_field-change.new.self) sound steps.0);
    }

pub returns : goal.returns
returns c =
    let h : Heap = heap_of c.self.inside.objects in
    let sound : IsSound h = c.self.invariant.above.now in
    let changed : is_changed c.args.oid h ≡ true = ap (λ (n : Nested). is_changed c.args.oid n.now) c.self.view_is ∙ c.requires in
    let x = changed_there h c.args.oid sound changed in
    let there : get (put_all h.rows (rows_of c.self.inside.known)) c.args.oid ≡ Some x.0 = found_changed h.rows (rows_of c.self.inside.known) c.args.oid x.0 sound.ascending x.1 in
    let steps = c.write_field-change.ensures x.0 x.1 in
    write_gives c.self.inside.versions.entries (rows_of c.self.inside.known) c.self.inside.log.items (heap_of c.self.inside.objects) c.self.inside.marks.items c.self.inside.touches c.args.self.now c.self.view_is
    c.args.site c.args.oid c.args.field c.args.value c.self.invariant x.0 c.touch.new.touches there
    (found_from c.in_ok-touch.field-0 (reach_in c.args.site c.args.oid (Some x.0) h.made c.self.inside.touches) x.0 c.touch.new.touches c.if-not-branch.false (c.in_ok-touch.ensures.fits x.0))
    c.note.new.log.items (heap_of c.write_field-change.new.self) steps.0
    (later_saved c.self.inside.log.items c.note.new.log.items c.make_room.new.log.items c.write_field-change.result h (heap_of c.write_field-change.new.self) c.self.inside.marks.items c.deref.result.now
    c.self.invariant.above steps.1 c.note.ensures c.deref.ensures.value c.make_room.ensures.items)
