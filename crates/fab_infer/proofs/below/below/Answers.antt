use Rattle.std.proofs.Common.{◌≡◌, ◌≤◌, ℕ, List, map, length, sym, subst, ap, ◌∙◌, All}
use Rattle.std.specs.List.{flat_map}
use Rattle.std.proofs.lemmas.Result.{IfOk-weaker}
use Rattle.fab_tree.specs.declared.resolved.Method.{Method}
use Rattle.fab_tree.specs.declared.start.Start.{Start}
use Rattle.fab_language.specs.Numbers.{resolved}
use Rattle.fab_language.specs.MethodNumbers.{in_turn}
use Rattle.fab_holes.specs.Chosen.{places_of}
use Rattle.fab_holes.specs.Holes.{IsNamed}
use Rattle.fab_holes.specs.Flowing.{method_flows, only}
use Rattle.fab_holes.specs.Open.{opened_method}
use Rattle.fab_infer.specs.Masks.{AreBelow}
use Rattle.fab_infer.specs.Spreading.{AreClosed}
use Rattle.fab_infer.proofs.Answered.{below_all}
use Rattle.fab_infer.proofs.Gathering.{all_to_holes}
use Rattle.fab_infer.proofs.Holding.{holes_counted, methods_opened}
use Rattle.fab_infer.proofs.below.below.Goals as goal

pub closed-requires-clause-to_holes : goal.closed-requires-clause-to_holes
closed-requires-clause-to_holes c =
    subst (All (λ p. c.len-count.result ≤ p.1)) (sym (c.as_slice-3.ensures ∙ c.in_ok-flows.ensures))
    (all_to_holes c.len-count.result (flat_map (method_flows c.as_slice-2.result.now c.deref.result.now) c.deref.result.now))

pub returns-clause-many : goal.returns-clause-many
returns-clause-many c =
    let r = c.args.start.now in
    let n = c.len-count.result in
    let made = c.in_ok-methods.ensures ∙ ap (λ (ms : List Method). in_turn (map (opened_method n) ms) 0) c.as_slice.ensures in
    let holes = holes_counted r n c.in_ok-methods.holes c.in_ok-methods.methods.items c.len-count.ensures made in
    IfOk-weaker c.closed.result (AreClosed n c.in_ok-methods.holes c.as_slice-3.result.now) (λ masks. length masks ≡ length (places_of r)) (λ masks h. h.many ∙ holes) c.closed.ensures

pub returns-clause-masks : goal.returns-clause-masks
returns-clause-masks c =
    let r = c.args.start.now in
    let n = c.len-count.result in
    let ms = c.in_ok-methods.methods.items in
    let made = c.in_ok-methods.ensures ∙ ap (λ (ms : List Method). in_turn (map (opened_method n) ms) 0) c.as_slice.ensures in
    let holes = holes_counted r n c.in_ok-methods.holes ms c.len-count.ensures made in
    let opened = methods_opened r n c.in_ok-methods.holes ms c.len-count.ensures made in
    let flows_are : c.as_slice-3.result.now ≡ only (length r.labels) (flat_map (method_flows r.classes ms) ms) =
    c.as_slice-3.ensures
    ∙ c.in_ok-flows.ensures
    ∙ (λ i. only (c.len-count.ensures i) (flat_map (method_flows (c.as_slice-2.ensures i) (c.deref.ensures.value i)) (c.deref.ensures.value i))) in
    IfOk-weaker c.closed.result (AreClosed n c.in_ok-methods.holes c.as_slice-3.result.now) (λ masks. (s : Start) → IsNamed s → r ≡ resolved s → AreBelow r 0 masks)
    (λ masks h s named is. below_all s r named is masks ms opened
    (subst (λ (t : (ℕ × ℕ) × List (ℕ × ℕ)). AreClosed t.0.0 t.0.1 t.1 masks) (λ i. ((c.len-count.ensures i, holes i), flows_are i)) h))
    c.closed.ensures
