use Rattle.std.proofs.Common.{◌≡◌, ◌+◌, List, [], ◌∷◌, ◌++◌, sym, ap, ◌∙◌, subst, take}
use Rattle.std.proofs.lemmas.List.{take_more}
use Rattle.fab_tree.specs.declared.resolved.Method.{Method}
use Rattle.fab_tree.specs.declared.resolved.Use.{Use}
use Rattle.fab_authority.specs.Authority.{AreOwn, IsMask}
use Rattle.fab_authority.specs.Authority.{numbers_of}
use Rattle.fab_authority.proofs.Callings.{own_more, own_none}
use Rattle.fab_authority.proofs.authority.own_sets.Goals as goal

pub loop-method-init : goal.loop-method-init
loop-method-init c = subst (AreOwn []) (sym c.new-sets.ensures.items) own_none

pub loop-method-preserved : goal.loop-method-preserved
loop-method-preserved c =
    let ms = c.args.methods.now in
    let i = c.loop-method.method-index in
    let m = c.method-item.result in
    let more = own_more (take i ms) c.loop-method.sets.items m c.set_of.result c.loop-method.invariant (subst (λ (xs : List Use). IsMask (numbers_of xs) c.set_of.result) c.as_slice.ensures c.set_of.ensures) in
    let front : take (i + 1) ms ≡ take i ms ++ m ∷ [] = take_more ms i m c.loop-method-test.true ∙ ap (λ (x : Method). take i ms ++ x ∷ []) (sym c.method-item.is) in
    subst (λ (xs : List Method). AreOwn xs c.push.new.self.items) (sym front) (subst (AreOwn (take i ms ++ m ∷ [])) (sym c.in_ok-push.ensures.items) more)
