use Rattle.std.proofs.Common.{◌≡◌, false, if◌then◌else◌, Some, None, option_copied, refl, ap, sym, ◌∙◌}
use Rattle.fab_base.specs.declared.object.Object.{Object}
use Rattle.fab_base.specs.declared.object.Stop.TheVariants.{Reads, Writes}
use Rattle.fab_base.specs.FlatMap.{FlatMap, get, put_all}
use Rattle.fab_language.specs.Heaps.{Heap, found, full, is_changed, reach_in, replaced}
use Rattle.fab_language.specs.Meaning.{with_field}
use Rattle.fab_nested.specs.Logs.{heap_of, IsSound}
use Rattle.fab_nested.specs.Nested.{Nested, stops}
use Rattle.fab_nested.specs.Overlay.{framed, rows_of}
use Rattle.fab_nested.proofs.Over.{found_known}
use Rattle.fab_nested.proofs.Stepping.{sound_written}
use Rattle.fab_nested.proofs.Undoing.{later_logged, later_saved}
use Rattle.fab_nested.proofs.Calling.{unchanged_absent, reach_unchanged, found_from, full_from, same_left, write_needs, write_full, write_stops, write_gives}
use Rattle.fab_nested.proofs.frames.Frames.write_first.Goals as goal

pub returns-in_default : goal.returns-in_default
returns-in_default c =
    let h : Heap = heap_of c.self.inside.objects in
    let sound : IsSound h = c.self.invariant.above.now in
    let unchanged : is_changed c.args.oid h ≡ false = ap (λ (n : Nested). is_changed c.args.oid n.now) c.self.view_is ∙ c.requires in
    let none : get h.rows c.args.oid ≡ None = unchanged_absent h c.args.oid sound unchanged in
    write_needs c.self.inside.versions.entries (rows_of c.self.inside.known) c.self.inside.log.items (heap_of c.self.inside.objects) c.self.inside.marks.items c.self.inside.touches c.args.self.now c.self.view_is
    c.args.site c.args.oid c.args.field c.args.value
    (found_known h.rows (rows_of c.self.inside.known) c.args.oid sound.ascending none ∙ ap (λ (m : FlatMap). get m c.args.oid) (sym c.map.ensures) ∙ sym c.get.ensures ∙ ap option_copied c.in_default.is)

pub returns-then-not-branch : goal.returns-then-not-branch
returns-then-not-branch c =
    let h : Heap = heap_of c.self.inside.objects in
    let sound : IsSound h = c.self.invariant.above.now in
    let unchanged : is_changed c.args.oid h ≡ false = ap (λ (n : Nested). is_changed c.args.oid n.now) c.self.view_is ∙ c.requires in
    let none : get h.rows c.args.oid ≡ None = unchanged_absent h c.args.oid sound unchanged in
    let there : get (put_all h.rows (rows_of c.self.inside.known)) c.args.oid ≡ Some c.in-Some.object.now = found_known h.rows (rows_of c.self.inside.known) c.args.oid sound.ascending none ∙ ap (λ (m : FlatMap). get m c.args.oid) (sym c.map.ensures) ∙ sym c.get.ensures ∙ ap option_copied c.in-Some.is in
    let reaches : reach_in c.args.site c.args.oid (Some c.in-Some.object.now) h.made c.self.inside.touches ≡ (if c.in_ok-reach.field-0 then found c.in-Some.object.now c.reach.new.self else full) =
    reach_unchanged c.in_ok-reach.field-0 c.args.site c.args.oid c.in-Some.object.now h c.self.inside.touches c.reach.new.self unchanged c.in_ok-reach.ensures.fits c.in_ok-reach.ensures.noted in
    write_full c.self.inside.versions.entries (rows_of c.self.inside.known) c.self.inside.log.items (heap_of c.self.inside.objects) c.self.inside.marks.items c.self.inside.touches c.args.self.now c.self.view_is
    c.args.site c.args.oid c.args.field c.args.value c.in-Some.object.now there (full_from c.in_ok-reach.field-0 (reach_in c.args.site c.args.oid (Some c.in-Some.object.now) h.made c.self.inside.touches) c.in-Some.object.now c.reach.new.self c.if-not-branch.true reaches)
    ∙ ap (stops Reads) (same_left c.self.inside.versions.entries (rows_of c.self.inside.known) c.self.inside.log.items c.make_room.new.log.items h c.self.inside.marks.items c.self.inside.touches c.reach.new.self c.args.self.now c.self.view_is
    c.make_room.ensures.items (c.in_ok-reach.ensures.noted ∙ rw c.if-not-branch.true refl))

pub invariant_of-self-in-Ok-Some : goal.invariant_of-self-in-Ok-Some
invariant_of-self-in-Ok-Some c =
    let h : Heap = heap_of c.self.inside.objects in
    let sound : IsSound h = c.self.invariant.above.now in
    let unchanged : is_changed c.args.oid h ≡ false = ap (λ (n : Nested). is_changed c.args.oid n.now) c.self.view_is ∙ c.requires in
    let none : get h.rows c.args.oid ≡ None = unchanged_absent h c.args.oid sound unchanged in
    let steps = rw c.in-Ok-Some.field-0-is at c.in-Ok-Some.ensures.ok in
    record {
      below = c.self.invariant.below;
      above = later_logged c.self.inside.log.items c.note.new.log.items c.make_room.new.log.items c.in-Ok-Some.change h (heap_of c.join.new.self) c.self.inside.marks.items c.deref.result.now
          c.self.invariant.above steps.1 c.note.ensures c.deref.ensures.value c.make_room.ensures.items
          (sound_written c.args.oid c.with_field-object.result h (heap_of c.join.new.self) sound steps.0);
    }

pub returns-in-Ok-Some : goal.returns-in-Ok-Some
returns-in-Ok-Some c =
    let h : Heap = heap_of c.self.inside.objects in
    let sound : IsSound h = c.self.invariant.above.now in
    let unchanged : is_changed c.args.oid h ≡ false = ap (λ (n : Nested). is_changed c.args.oid n.now) c.self.view_is ∙ c.requires in
    let none : get h.rows c.args.oid ≡ None = unchanged_absent h c.args.oid sound unchanged in
    let there : get (put_all h.rows (rows_of c.self.inside.known)) c.args.oid ≡ Some c.in-Some.object.now = found_known h.rows (rows_of c.self.inside.known) c.args.oid sound.ascending none ∙ ap (λ (m : FlatMap). get m c.args.oid) (sym c.map.ensures) ∙ sym c.get.ensures ∙ ap option_copied c.in-Some.is in
    let reaches : reach_in c.args.site c.args.oid (Some c.in-Some.object.now) h.made c.self.inside.touches ≡ (if c.in_ok-reach.field-0 then found c.in-Some.object.now c.reach.new.self else full) =
    reach_unchanged c.in_ok-reach.field-0 c.args.site c.args.oid c.in-Some.object.now h c.self.inside.touches c.reach.new.self unchanged c.in_ok-reach.ensures.fits c.in_ok-reach.ensures.noted in
    let written : c.with_field-object.result ≡ with_field c.args.field c.args.value c.in-Some.object.now = c.with_field-object.ensures ∙ ap (with_field c.args.field c.args.value) c.in_ok-copy.ensures in
    let steps = rw c.in-Ok-Some.field-0-is at c.in-Ok-Some.ensures.ok in
    write_gives c.self.inside.versions.entries (rows_of c.self.inside.known) c.self.inside.log.items (heap_of c.self.inside.objects) c.self.inside.marks.items c.self.inside.touches c.args.self.now c.self.view_is
    c.args.site c.args.oid c.args.field c.args.value c.self.invariant c.in-Some.object.now c.reach.new.self there
    (found_from c.in_ok-reach.field-0 (reach_in c.args.site c.args.oid (Some c.in-Some.object.now) h.made c.self.inside.touches) c.in-Some.object.now c.reach.new.self c.if-not-branch.false reaches)
    c.note.new.log.items (heap_of c.join.new.self) (ap (λ (x : Object). replaced c.args.oid x h) (sym written) ∙ steps.0)
    (later_saved c.self.inside.log.items c.note.new.log.items c.make_room.new.log.items c.in-Ok-Some.change h (heap_of c.join.new.self) c.self.inside.marks.items c.deref.result.now
    c.self.invariant.above steps.1 c.note.ensures c.deref.ensures.value c.make_room.ensures.items)

pub returns-in-Ok-None : goal.returns-in-Ok-None
returns-in-Ok-None c =
    let h : Heap = heap_of c.self.inside.objects in
    let sound : IsSound h = c.self.invariant.above.now in
    let unchanged : is_changed c.args.oid h ≡ false = ap (λ (n : Nested). is_changed c.args.oid n.now) c.self.view_is ∙ c.requires in
    let none : get h.rows c.args.oid ≡ None = unchanged_absent h c.args.oid sound unchanged in
    let there : get (put_all h.rows (rows_of c.self.inside.known)) c.args.oid ≡ Some c.in-Some.object.now = found_known h.rows (rows_of c.self.inside.known) c.args.oid sound.ascending none ∙ ap (λ (m : FlatMap). get m c.args.oid) (sym c.map.ensures) ∙ sym c.get.ensures ∙ ap option_copied c.in-Some.is in
    let reaches : reach_in c.args.site c.args.oid (Some c.in-Some.object.now) h.made c.self.inside.touches ≡ (if c.in_ok-reach.field-0 then found c.in-Some.object.now c.reach.new.self else full) =
    reach_unchanged c.in_ok-reach.field-0 c.args.site c.args.oid c.in-Some.object.now h c.self.inside.touches c.reach.new.self unchanged c.in_ok-reach.ensures.fits c.in_ok-reach.ensures.noted in
    let written : c.with_field-object.result ≡ with_field c.args.field c.args.value c.in-Some.object.now = c.with_field-object.ensures ∙ ap (with_field c.args.field c.args.value) c.in_ok-copy.ensures in
    let steps = rw c.in-Ok-None.field-0-is at c.in-Ok-None.ensures.ok in
    write_stops c.self.inside.versions.entries (rows_of c.self.inside.known) c.self.inside.log.items (heap_of c.self.inside.objects) c.self.inside.marks.items c.self.inside.touches c.args.self.now c.self.view_is
    c.args.site c.args.oid c.args.field c.args.value c.self.invariant c.in-Some.object.now c.reach.new.self there
    (found_from c.in_ok-reach.field-0 (reach_in c.args.site c.args.oid (Some c.in-Some.object.now) h.made c.self.inside.touches) c.in-Some.object.now c.reach.new.self c.if-not-branch.false reaches)
    (ap (λ (x : Object). replaced c.args.oid x h) (sym written) ∙ steps.0)
    ∙ (λ i. stops Writes (framed c.self.inside.versions.entries (rows_of c.self.inside.known) (sym c.make_room.ensures.items i) (sym steps.1 i) c.self.inside.marks.items c.reach.new.self))
