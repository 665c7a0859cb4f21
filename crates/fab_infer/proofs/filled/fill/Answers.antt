use Rattle.std.proofs.Common.{List, map, ap, ◌∙◌}
use Rattle.fab_tree.specs.declared.declaration.LabelText.{LabelText}
use Rattle.fab_tree.specs.declared.program.Method.{Method}
use Rattle.fab_language.specs.MethodNumbers.{in_turn}
use Rattle.fab_holes.specs.Holes.{filled_method}
use Rattle.fab_infer.specs.Fill.{of_labels}
use Rattle.fab_infer.proofs.filled.fill.Goals as goal

pub returns : goal.returns
returns c =
    let s = c.args.start in
    let made = λ (labels : List LabelText) (methods : List Method). (in_turn (map (filled_method (of_labels labels) c.args.choice.now) methods) 0).0 in
    let declared = c.of-declared.ensures ∙ c.as_slice.ensures in
    ap (λ (ms : List Method). record s { program = record s.program { methods = ms } })
    (c.in_ok-start.ensures ∙ (λ i. made (declared i) (c.replace-methods.ensures.value i)))
