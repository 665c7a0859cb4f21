use Rattle.std.proofs.Common.{List, ap, ◌∙◌}
use Rattle.std.specs.List.{flat_map}
use Rattle.fab_downgrades.specs.declared.rows.Downgraded.{Downgraded}
use Rattle.fab_tree.specs.declared.resolved.Method.{Method}
use Rattle.fab_tree.specs.declared.resolved.Use.{Use}
use Rattle.fab_trust.specs.Noted.{kind_guards, method_guards, noted}
use Rattle.fab_trust.proofs.Least.{step}
use Rattle.fab_trust.proofs.guards.note_methods.Goals as goal

pub loop-method-preserved : goal.loop-method-preserved
loop-method-preserved c =
    let r = c.args.scope.now.start.now in
    let pcs = c.args.scope.now.pcs.now in
    let found = c.loop-method.found in
    step r (method_guards pcs) c.args.methods.now c.loop-method.method-index c.method-item.result found c.note_rows-found.result _
    c.loop-method-test.true
    (c.note_rows-found.ensures
    ∙ ap (λ (us : List Use). noted r found (flat_map (kind_guards pcs us) c.as_slice.result.now)) c.as_slice-in-loop-method.ensures
    ∙ ap (λ (ds : List Downgraded). noted r found (flat_map (kind_guards pcs c.method-item.result.authority) ds)) (c.as_slice.ensures ∙ c.in_ok-rows.ensures)
    ∙ ap (λ (m : Method). noted r found (method_guards pcs m)) c.method-item.is)
    c.loop-method.invariant
