use Rattle.std.proofs.Common.{◌++◌, ap, sym, ◌∙◌}
use Rattle.fab_base.specs.FlatMap.{FlatMap, ascends}
use Rattle.fab_map.proofs.Rows.{ascends-put_all}
use Rattle.fab_nested.specs.Effects.{objects_at}
use Rattle.fab_nested.specs.Logs.{heap_of}
use Rattle.fab_nested.specs.Nested.{Nested}
use Rattle.fab_nested.specs.Overlay.{rows_of}
use Rattle.fab_nested.proofs.Rows.{changes_same}
use Rattle.fab_nested.proofs.frames.Frames.changes.Goals as goal

pub returns-in_err-put_all_found-clause-ascends : goal.returns-in_err-put_all_found-clause-ascends
returns-in_err-put_all_found-clause-ascends c =
    ap (λ (n : Nested). ascends n.now.rows) (sym c.self.view_is) ∙ ascends-put_all c.self.inside.objects.changed (rows_of c.self.inside.known) c.self.invariant.below.ascending

pub returns-in_err-put_all_found-2-clause-ascends : goal.returns-in_err-put_all_found-2-clause-ascends
returns-in_err-put_all_found-2-clause-ascends c =
    ap (λ (n : Nested). ascends n.now.rows) (sym c.self.view_is) ∙ ascends-put_all c.self.inside.objects.changed (rows_of c.self.inside.known) c.self.invariant.below.ascending

pub returns-clause-rows : goal.returns-clause-rows
returns-clause-rows c =
    let rows : FlatMap = c.self.inside.objects.changed in
    let first = c.in_ok-put_all_found.ensures ∙ (λ i. c.new-rows.ensures i ++ objects_at rows (c.as_slice.ensures i)) in
    c.in_ok-put_all_found-2.ensures
    ∙ (λ i. first i ++ objects_at rows (c.as_slice-2.ensures i))
    ∙ changes_same (rows_of c.self.inside.known) (heap_of c.self.inside.objects) c.self.invariant.above.now
    ∙ ap (λ (n : Nested). objects_at n.now.rows (n.now.written ++ n.now.made)) c.self.view_is

pub returns-clause-ascends : goal.returns-clause-ascends
returns-clause-ascends c =
    ap (λ (n : Nested). ascends n.now.rows) (sym c.self.view_is) ∙ ascends-put_all c.self.inside.objects.changed (rows_of c.self.inside.known) c.self.invariant.below.ascending
