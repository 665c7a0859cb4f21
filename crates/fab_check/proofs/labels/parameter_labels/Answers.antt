use Rattle.std.proofs.Common.{◌-◌, map, take, arith}
use Rattle.fab_tree.specs.declared.resolved.Local.{Local}
use Rattle.fab_check.proofs.Parts.{one_taken}
use Rattle.fab_check.proofs.labels.parameter_labels.Goals as goal

pub loop-local-preserved : goal.loop-local-preserved
loop-local-preserved c =
    let items = c.as_slice-local-items.result.now in
    one_taken (λ (x : Local). x.label.number) c.loop-local.labels c.push.new.self (map (λ (x : Local). x.label.number) (take c.args.method.now.parameters items)) items c.loop-local.local-index c.loop-local.left (c.loop-local.left - 1) c.local-item.result
    c.loop-local-test.true c.local-item.is (omega arith) c.in_ok-push.ensures.ok c.loop-local.invariant
