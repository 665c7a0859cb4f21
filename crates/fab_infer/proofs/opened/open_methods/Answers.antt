use Rattle.std.proofs.Common.{◌≤◌, ℕ, List, map, length, sym, subst, ap, ◌∙◌, arith}
use Rattle.std.proofs.lemmas.List.Elements.{All-get_or}
use Rattle.fab_tree.specs.declared.resolved.Local.{Local}
use Rattle.fab_tree.specs.declared.resolved.Method.{Method}
use Rattle.fab_language.specs.MethodNumbers.{in_turn}
use Rattle.fab_holes.specs.Open.{opened_local, opened_method}
use Rattle.fab_infer.proofs.Turns.{one_more}
use Rattle.fab_infer.proofs.opened.open_methods.Goals as goal

pub loop-method-preserved : goal.loop-method-preserved
loop-method-preserved c =
    let n = c.args.count in
    let m = c.method-item.result in
    let ms = c.args.methods.now in
    let i = c.loop-method.method-index in
    let few : length m.locals ≤ 256 = subst (λ (x : Method). length x.locals ≤ 256) (sym c.method-item.is) (All-get_or (λ (x : Method). length x.locals ≤ 256) ms i m c.loop-method-test.true c.requires.few_locals) in
    let long = ap (λ (ls : List Local). length ls) c.as_slice.ensures in
    let next = c.in_ok-locals.ensures.bound in
    let so_far = c.loop-method.invariant.bound in
    record {
      made = one_more (opened_method n) c.loop-method.out.items c.push.new.self.items (record m { locals = c.in_ok-locals.locals.items }) c.loop-method.hole c.in_ok-locals.next ms i m (in_turn (map (opened_method n) ms) 0)
          c.loop-method-test.true c.method-item.is
          (ap (λ (a : List Local × ℕ). (record m { locals = a.0 }, a.1)) (c.in_ok-locals.ensures.made ∙ ap (λ (ls : List Local). in_turn (map (opened_local n) ls) c.loop-method.hole) c.as_slice.ensures))
          c.in_ok-push.ensures.items c.loop-method.invariant.made;
      bound = omega (arith, few, long, next, so_far);
    }
