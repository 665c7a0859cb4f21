use Rattle.std.proofs.Common.{true, false, ap, sym, ◌∙◌}
use Rattle.fab_language.specs.Heaps.{is_changed}
use Rattle.fab_nested.specs.Logs.{heap_of}
use Rattle.fab_nested.specs.Nested.{Nested}
use Rattle.fab_nested.proofs.Calling.{changed_if}
use Rattle.fab_nested.proofs.frames.Frames.write.Goals as goal

pub write_again-requires : goal.write_again-requires
write_again-requires c =
    ap (λ (n : Nested). is_changed c.args.oid n.now) (sym c.self.view_is)
    ∙ changed_if true c.get.result (heap_of c.self.inside.objects) c.args.oid c.self.invariant.above.now c.get.ensures (sym c.is_some.ensures ∙ c.if-is_some.true)

pub write_first-requires : goal.write_first-requires
write_first-requires c =
    ap (λ (n : Nested). is_changed c.args.oid n.now) (sym c.self.view_is)
    ∙ changed_if false c.get.result (heap_of c.self.inside.objects) c.args.oid c.self.invariant.above.now c.get.ensures (sym c.is_some.ensures ∙ c.if-is_some.false)
