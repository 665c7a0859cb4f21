use Rattle.std.proofs.Common.{ℕ, ◌-◌, [], ◌∷◌, ◌++◌, map, take, ap, ◌∙◌, arith}
use Rattle.fab_tree.specs.declared.resolved.Local.{Local}
use Rattle.fab_check.proofs.Parts.{one_taken}
use Rattle.fab_infer.proofs.flows.parameter_labels.Goals as goal

pub loop-local-preserved : goal.loop-local-preserved
loop-local-preserved c =
    let items = c.locals-local-items.result.now in
    one_taken (λ (x : Local). x.label.number) c.loop-local.labels c.push.new.self (map (λ (x : Local). x.label.number) (take c.parameters-left.result items)) items c.loop-local.local-index c.loop-local.left (c.loop-local.left - 1) c.local-item.result
    c.loop-local-test.true c.local-item.is (omega arith) (c.in_ok-push.ensures.ok ∙ ap (λ (n : ℕ). c.loop-local.labels ++ n ∷ []) c.label.ensures) c.loop-local.invariant
