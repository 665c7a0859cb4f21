use Rattle.std.proofs.Common.{arith, refl, ap, ◌∙◌, List}
use Rattle.std.specs.List.{flat_map}
use Rattle.fab_tree.specs.declared.resolved.Method.{Method}
use Rattle.fab_labelling.specs.Obligations.{method_owes}
use Rattle.fab_check.specs.Noted.{all_noted}
use Rattle.fab_check.proofs.Parts.{one_more, at_end}
use Rattle.fab_check.proofs.methods.note_methods.Goals as goal

pub loop-method-preserved : goal.loop-method-preserved
loop-method-preserved c =
    let r = c.args.start.now in
    let owes = method_owes r.classes r.methods in
    let items = c.as_slice-method-items.result.now in
    one_more (flat_map owes) owes (λ _ _. refl) c.loop-method.verdicts c.note_method.new.verdicts (all_noted c.args.verdicts.now (flat_map owes items)) items c.loop-method.method-index c.method-item.result
    c.loop-method-test.true c.method-item.is c.in_ok-note_method.ensures c.loop-method.invariant

pub returns : goal.returns
returns c =
    let r = c.args.start.now in
    let owes = method_owes r.classes r.methods in
    let items = c.as_slice-method-items.result.now in
    at_end (flat_map owes) c.loop-method.verdicts (all_noted c.args.verdicts.now (flat_map owes items)) items c.loop-method.method-index refl (omega arith) c.loop-method.invariant
    ∙ ap (λ (ms : List Method). all_noted c.args.verdicts.now (flat_map owes ms)) c.as_slice-method-items.ensures
