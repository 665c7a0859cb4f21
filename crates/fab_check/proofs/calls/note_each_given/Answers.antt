use Rattle.std.proofs.Common.{arith, refl, List}
use Rattle.fab_tree.specs.declared.resolved.Expression.{Expression}
use Rattle.fab_labelling.specs.Obligations.{for_each}
use Rattle.fab_check.specs.Noted.{all_noted}
use Rattle.fab_check.specs.Shown.{all_given, given}
use Rattle.fab_check.proofs.Parts.{one_more, at_end}
use Rattle.fab_check.proofs.calls.note_each_given.Goals as goal

pub loop-value-preserved : goal.loop-value-preserved
loop-value-preserved c =
    let n = c.args.names.now in
    let u = c.args.under.now in
    let owes = λ (es : List Expression). all_given n u es (for_each c.args.to es) in
    one_more owes (λ (e : Expression). given n u e c.args.to) (λ _ _. refl) c.loop-value.verdicts c.note_given.new.verdicts (all_noted c.args.verdicts.now (owes c.args.values.now)) c.args.values.now c.loop-value.value-index c.value-item.result
    c.loop-value-test.true c.value-item.is c.in_ok-note_given.ensures c.loop-value.invariant

pub returns : goal.returns
returns c =
    let n = c.args.names.now in
    let u = c.args.under.now in
    let owes = λ (es : List Expression). all_given n u es (for_each c.args.to es) in
    at_end owes c.loop-value.verdicts (all_noted c.args.verdicts.now (owes c.args.values.now)) c.args.values.now c.loop-value.value-index refl (omega arith) c.loop-value.invariant
