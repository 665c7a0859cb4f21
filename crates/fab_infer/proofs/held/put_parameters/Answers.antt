use Rattle.std.proofs.Common.{List, ℕ, ◌++◌, refl, arith}
use Rattle.fab_tree.specs.declared.program.Parameter.{Parameter}
use Rattle.fab_authority.proofs.Walks.{end, step}
use Rattle.fab_infer.specs.Fill.{hole_at, of_labels, places_among}
use Rattle.fab_infer.proofs.HoldingPlaces.{in_none, in_parts, places_cons}
use Rattle.fab_infer.proofs.held.put_parameters.Goals as goal

pub loop-parameter-preserved : goal.loop-parameter-preserved
loop-parameter-preserved c =
    let s = of_labels c.args.declared.now.labels.now in
    let put = λ (out : List ℕ) (xs : List ℕ). out ++ xs in
    step put in_parts (places_among s) (λ (p : Parameter). hole_at s p.label) (places_cons s) c.loop-parameter.out c.put_hole.new.out (c.args.out.now ++ places_among s c.args.parameters.now) c.args.parameters.now c.loop-parameter.parameter-index c.parameter-item.result
    c.loop-parameter-test.true c.parameter-item.is c.in_ok-put_hole.ensures c.loop-parameter.invariant

pub returns : goal.returns
returns c =
    let s = of_labels c.args.declared.now.labels.now in
    let put = λ (out : List ℕ) (xs : List ℕ). out ++ xs in
    end put in_parts (places_among s) refl in_none c.loop-parameter.out (c.args.out.now ++ places_among s c.args.parameters.now) c.args.parameters.now c.loop-parameter.parameter-index (omega arith) c.loop-parameter.invariant
