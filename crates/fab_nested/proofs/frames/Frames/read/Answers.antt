use Rattle.std.proofs.Common.{Some, option_map, refl, ap, ◌∙◌}
use Rattle.fab_base.specs.declared.object.Stop.TheVariants.{Reads}
use Rattle.fab_base.specs.declared.object.Value.{Value}
use Rattle.fab_base.specs.FlatMap.{FlatMap, get, put_all}
use Rattle.fab_language.specs.Heaps.{Heap, reach_in}
use Rattle.fab_language.specs.Meaning.{field_of}
use Rattle.fab_nested.specs.Logs.{heap_of}
use Rattle.fab_nested.specs.Nested.{gives, stops}
use Rattle.fab_nested.specs.Overlay.{framed, rows_of}
use Rattle.fab_nested.proofs.Calling.{field_had, field_lacked, found_from, full_from, on_false, same_left, read_needs, read_full, read_gives}
use Rattle.fab_nested.proofs.frames.Frames.read.Goals as goal

pub returns-in_default : goal.returns-in_default
returns-in_default c =
    let h : Heap = heap_of c.self.inside.objects in
    read_needs c.self.inside.versions.entries (rows_of c.self.inside.known) c.self.inside.log.items (heap_of c.self.inside.objects) c.self.inside.marks.items c.self.inside.touches c.args.self.now c.self.view_is c.args.site c.args.oid c.args.field
    (field_lacked c.args.field (get (put_all h.rows (rows_of c.self.inside.known)) c.args.oid) c.field_at.result
    (c.field_at.ensures ∙ ap (λ (m : FlatMap). option_map (field_of c.args.field) (get (put_all h.rows m) c.args.oid)) c.map.ensures) c.in_default.is)

pub returns-then-not-branch : goal.returns-then-not-branch
returns-then-not-branch c =
    let h : Heap = heap_of c.self.inside.objects in
    let x = field_had c.args.field (get (put_all h.rows (rows_of c.self.inside.known)) c.args.oid) c.field_at.result c.in-Some.value
    (c.field_at.ensures ∙ ap (λ (m : FlatMap). option_map (field_of c.args.field) (get (put_all h.rows m) c.args.oid)) c.map.ensures) c.in-Some.is in
    read_full c.self.inside.versions.entries (rows_of c.self.inside.known) c.self.inside.log.items (heap_of c.self.inside.objects) c.self.inside.marks.items c.self.inside.touches c.args.self.now c.self.view_is c.args.site c.args.oid c.args.field x.0 x.1
    (full_from c.in_ok-touch.field-0 (reach_in c.args.site c.args.oid (Some x.0) h.made c.self.inside.touches) x.0 c.touch.new.touches c.if-not-branch.true (c.in_ok-touch.ensures.fits x.0))
    ∙ ap (stops Reads) (same_left c.self.inside.versions.entries (rows_of c.self.inside.known) c.self.inside.log.items c.self.inside.log.items h c.self.inside.marks.items c.self.inside.touches c.touch.new.touches c.args.self.now c.self.view_is
    refl (on_false c.in_ok-touch.field-0 _ c.if-not-branch.true c.in_ok-touch.ensures.full))

pub returns : goal.returns
returns c =
    let h : Heap = heap_of c.self.inside.objects in
    let x = field_had c.args.field (get (put_all h.rows (rows_of c.self.inside.known)) c.args.oid) c.field_at.result c.in-Some.value
    (c.field_at.ensures ∙ ap (λ (m : FlatMap). option_map (field_of c.args.field) (get (put_all h.rows m) c.args.oid)) c.map.ensures) c.in-Some.is in
    read_gives c.self.inside.versions.entries (rows_of c.self.inside.known) c.self.inside.log.items (heap_of c.self.inside.objects) c.self.inside.marks.items c.self.inside.touches c.args.self.now c.self.view_is c.args.site c.args.oid c.args.field x.0 c.touch.new.touches x.1
    (found_from c.in_ok-touch.field-0 (reach_in c.args.site c.args.oid (Some x.0) h.made c.self.inside.touches) x.0 c.touch.new.touches c.if-not-branch.false (c.in_ok-touch.ensures.fits x.0))
    ∙ ap (λ (v : Value). gives v (framed c.self.inside.versions.entries (rows_of c.self.inside.known) c.self.inside.log.items h c.self.inside.marks.items c.touch.new.touches)) x.2
