use Rattle.std.proofs.Common.{◌≡◌, ◌++◌, [], ◌∷◌, ℕ, inl, inr, List, sym, subst, arith, Contains}
use Rattle.std.proofs.lemmas.Bool.{cases_lt}
use Rattle.std.proofs.lemmas.List.Elements.{Contains-append_left, Contains-push}
use Rattle.fab_infer.proofs.closing.numbers.Goals as goal

pub loop-hole-preserved : goal.loop-hole-preserved
loop-hole-preserved c = λ h within.
    let k = c.loop-hole.hole in
    let all = c.loop-hole.all.items in
    subst (λ (l : List ℕ). Contains l h) (sym c.in_ok-push.ensures.items) (elim (cases_lt h k) [
      | inl before ↦ Contains-append_left all (k ∷ []) h (c.loop-hole.invariant h before)
      | inr past ↦ let same : k ≡ h = omega (arith, within, past) in subst (λ (z : ℕ). Contains (all ++ k ∷ []) z) same (Contains-push all k)
    ])
