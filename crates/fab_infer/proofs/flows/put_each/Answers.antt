use Rattle.std.proofs.Common.{List, ℕ, [], ◌∷◌, sym, ap, ◌∙◌}
use Rattle.fab_holes.specs.Flowing.{all_to}
use Rattle.fab_infer.proofs.Gathering.{from_none, in_parts, with_flows}
use Rattle.fab_infer.proofs.flows.put_each.Goals as goal

pub labels-preserved : goal.labels-preserved
labels-preserved c =
    let n = c.args.count in
    let rest = all_to c.in-Some.after.now c.args.to in
    ap (λ (z : List (ℕ × ℕ)). with_flows n z rest) c.in_ok-put.ensures
    ∙ sym (in_parts n c.labels.flows ((c.in-Some.label.now, c.args.to) ∷ []) rest)
    ∙ ap (λ (ls : List ℕ). with_flows n c.labels.flows (all_to ls c.args.to)) (sym c.in-Some.ensures.cases.0)
    ∙ c.labels.invariant

pub returns : goal.returns
returns c = from_none c.args.count c.labels.flows c.labels.rest.now c.args.to c.in_default.ensures.cases ∙ c.labels.invariant
