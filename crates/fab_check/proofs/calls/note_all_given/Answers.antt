use Rattle.std.proofs.Common.{List, ◌+◌, refl, arith, drop}
use Rattle.fab_tree.specs.declared.resolved.Expression.{Expression}
use Rattle.fab_check.specs.Noted.{all_noted}
use Rattle.fab_check.specs.Shown.{all_given}
use Rattle.fab_check.proofs.Given.{to_next, to_nothing}
use Rattle.fab_check.proofs.Parts.{at_end}
use Rattle.fab_check.proofs.calls.note_all_given.Goals as goal
use Rattle.fab_check.proofs.calls.note_all_given.Goals.{in-None+in_ok-note_expression-in-None, in-Some+in_ok-note_given-in-Some}

pub loop-value-preserved : goal.loop-value-preserved
loop-value-preserved c =
    let n = c.args.names.now in
    let u = c.args.under.now in
    let whole = all_noted c.args.verdicts.now (all_given n u c.args.values.now c.args.to.now) in
    let rest = drop (c.loop-value.value-index + 1) c.args.values.now in
    elim c.match-split_first.branch [
      | in-None+in_ok-note_expression-in-None w ↦
          rw (w.verdicts-is, w.to-is)
          (to_nothing n u c.loop-value.verdicts w.note_expression.new.verdicts whole c.args.values.now c.loop-value.value-index c.value-item.result c.loop-value-test.true c.value-item.is c.loop-value.to.now w.in-None.ensures.cases w.in_ok-note_expression-in-None.ensures c.loop-value.invariant)
      | in-Some+in_ok-note_given-in-Some w ↦
          rw (w.verdicts-is, w.to-is)
          (to_next n u c.loop-value.verdicts w.note_given.new.verdicts whole c.args.values.now c.loop-value.value-index c.value-item.result c.loop-value-test.true c.value-item.is w.in-Some.label.now c.loop-value.to.now w.in-Some.after.now w.in-Some.ensures.cases.0 w.in_ok-note_given-in-Some.ensures c.loop-value.invariant)
    ]

pub returns : goal.returns
returns c =
    let n = c.args.names.now in
    let u = c.args.under.now in
    at_end (λ (ys : List Expression). all_given n u ys c.loop-value.to.now) c.loop-value.verdicts (all_noted c.args.verdicts.now (all_given n u c.args.values.now c.args.to.now)) c.args.values.now c.loop-value.value-index refl (omega arith) c.loop-value.invariant
