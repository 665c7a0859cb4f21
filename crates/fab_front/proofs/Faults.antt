-- There is one first fault, or none.
use Rattle.std.proofs.Common.{◌≡◌, inl, inr, List, [], refl, sym, subst, arith}
use Rattle.std.specs.Prelude.{Contains}
use Rattle.std.proofs.lemmas.List.Elements.{All-contains}
use Rattle.fab_language.specs.declared.rule.Fault.{Fault}
use Rattle.fab_language.specs.declared.rule.NameRule.{NameRule}
use Rattle.fab_language.specs.declared.rule.NameRule.TheVariants as rule
use Rattle.fab_language.specs.Faults.{IsFirst, IsNoLater, rank}

one_rule : (x y : NameRule) → rank x ≡ rank y → x ≡ y
one_rule rule.Unknown rule.Unknown e = refl
one_rule rule.Unknown _ e = absurd (omega (arith, e))
one_rule rule.Doubled rule.Doubled e = refl
one_rule rule.Doubled _ e = absurd (omega (arith, e))
one_rule rule.Node rule.Node e = refl
one_rule rule.Node _ e = absurd (omega (arith, e))
one_rule rule.Arity rule.Arity e = refl
one_rule rule.Arity _ e = absurd (omega (arith, e))
one_rule rule.Typing rule.Typing e = refl
one_rule rule.Typing _ e = absurd (omega (arith, e))

one_fault : (x y : Fault) → IsNoLater x y → IsNoLater y x → x ≡ y
one_fault x y (inl p) (inl q) = absurd (omega (arith, p, q))
one_fault x y (inl p) (inr q) = let a = q.0 in absurd (omega (arith, p, a))
one_fault x y (inr p) (inl q) = let a = p.0 in absurd (omega (arith, a, q))
one_fault x y (inr p) (inr q) =
    let a = p.1 in
    let b = q.1 in
    let r : x.rule ≡ y.rule = one_rule x.rule y.rule (omega (arith, a, b)) in
    λ i. record { rule = r i; at = p.0 i }

-- the first of some faults is one
pub one_first : (xs ys : List Fault) (x y : Fault) → xs ≡ ys → IsFirst xs x → IsFirst ys y → x ≡ y
one_first xs ys x y e f g =
    one_fault x y
    (All-contains (λ v. IsNoLater x v) xs y f.first (subst (λ l. Contains l y) (sym e) g.is_one))
    (All-contains (λ v. IsNoLater y v) ys x g.first (subst (λ l. Contains l x) e f.is_one))

pub none_first : {xs : List Fault} {x : Fault} {A : Type 0} → xs ≡ [] → IsFirst xs x → A
none_first {xs} {x} {A} e f = let c = subst (λ ys. Contains ys x) e f.is_one in let l = c.1 in absurd (omega (arith, l))
