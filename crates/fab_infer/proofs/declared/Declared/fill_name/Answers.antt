use Rattle.std.proofs.Common.{sym, ◌∙◌}
use Rattle.fab_infer.specs.Fill.{of_labels}
use Rattle.fab_infer.proofs.Fills.{hole_none, hole_some}
use Rattle.fab_infer.proofs.declared.Declared.fill_name.Goals as goal

pub returns-in-None : goal.returns-in-None
returns-in-None c = hole_none (of_labels c.args.self.now.labels.now) c.args.name c.args.choice.now (sym c.is_hole.ensures ∙ c.if-not-is_hole.false) c.in-None.ensures.cases

pub returns-in_ok-name-in-Some : goal.returns-in_ok-name-in-Some
returns-in_ok-name-in-Some c =
    hole_some (of_labels c.args.self.now.labels.now) c.args.name c.in_ok-name-in-Some.name c.args.choice.now c.in-Some.left.now c.in-Some.label.now (sym c.is_hole.ensures ∙ c.if-not-is_hole.false) c.in-Some.ensures.cases.0 c.in_ok-name-in-Some.ensures
