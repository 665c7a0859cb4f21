use Rattle.std.proofs.Common.{List, [], ◌∷◌, sym, ap, ◌∙◌}
use Rattle.std.proofs.lemmas.Result.{on_ok_weaker}
use Rattle.fab_tree.specs.declared.resolved.Expression.{Expression}
use Rattle.fab_labelling.specs.declared.rule.LabelRule.TheVariants.{Placement}
use Rattle.fab_labelling.specs.Obligations.{holds, owe}
use Rattle.fab_check.specs.Shown.{making, right_owes}
use Rattle.fab_check.proofs.Parts.{in_two}
use Rattle.fab_check.proofs.assignments.note_right.Goals as goal

pub returns-in-New : goal.returns-in-New
returns-in-New c =
    let s = c.args.scope.now in
    let u = c.args.under.now in
    let n = c.in-New in
    let placed = owe Placement n.at (holds n.store.number n.class.number) in
    on_ok_weaker c.note_making.result
    (in_two c.args.verdicts.now c.note_placement.new.verdicts c.note_making.new.verdicts (placed ∷ []) (making s u n.at c.as_slice-in-New.result.now n.class) (right_owes s u c.args.right.now)
    (ap (right_owes s u) n.is ∙ ap (λ (es : List Expression). placed ∷ making s u n.at es n.class) (sym c.as_slice-in-New.ensures))
    c.note_placement.ensures)
    c.note_making.ensures
