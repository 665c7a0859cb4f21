use Rattle.std.proofs.Common.{◌≡◌, ℕ, inl, inr, sym, ◌∙◌, subst, arith}
use Rattle.std.proofs.lemmas.Bool.{cases_lt, false≢true}
use Rattle.fab_holes.specs.Least.{IsLowest}
use Rattle.fab_infer.proofs.Tabled.{fitting_is, none_least}
use Rattle.fab_infer.proofs.least.least.Goals as goal

pub returns-then-is_lowest : goal.returns-then-is_lowest
returns-then-is_lowest c = λ r h table below. (
  (c.is_lowest.ensures r h table (fitting_is r c.args.rows.now c.args.below c.fitting-fitting.result h table below c.fitting-fitting.ensures)).0 c.if-is_lowest.true,
  λ j less low. c.loop-k.invariant r h table below j less low,
)

pub loop-k-preserved : goal.loop-k-preserved
loop-k-preserved c = λ r h table below j less low. elim (cases_lt j c.loop-k.k) [
  | inl before ↦ c.loop-k.invariant r h table below j before low
  | inr behind ↦
      let same : j ≡ c.loop-k.k = omega (arith, less, behind) in
      let found = (c.is_lowest.ensures r h table (fitting_is r c.args.rows.now c.args.below c.fitting-fitting.result h table below c.fitting-fitting.ensures)).1 (subst (λ (i : ℕ). IsLowest r h i) same low) in
      absurd (false≢true (sym c.if-is_lowest.false ∙ found))
]

pub returns : goal.returns
returns c = λ r h table below k is. none_least r c.args.rows.now h table (λ j within low. c.loop-k.invariant r h table below j (omega arith) low) k is
