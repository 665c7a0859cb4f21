-- Who acts for one of a covering policy acts for one of the covered one.
use Rattle.std.proofs.Common.{ℕ, List, ◌∷◌, get_or, inl, inr, subst, All, Any}
use Rattle.fab_base.specs.declared.label.Policy.{Policy}
use Rattle.fab_base.specs.Principals.{Delegations, ActsFor}
use Rattle.fab_base.specs.Labels.{ActsForOne, Covers}
use Rattle.fab_principals.proofs.ChainLemmas.{ActsFor-trans}
use Rattle.fab_labels.proofs.Searches.{Any-head, Any-cases}

-- a principal acts for the owner of each policy or for one of those that it names
abbrev pub WithinAll : Delegations → ℕ → List Policy → Type 0
WithinAll d p policies = All (λ policy. ActsForOne d p (policy.owner ∷ policy.others)) policies

within_covered : (d : Delegations) (j i : Policy) (p : ℕ) → Covers d j i → ActsForOne d p (j.owner ∷ j.others) → ActsForOne d p (i.owner ∷ i.others)
within_covered d j i p covers one = elim (Any-cases (λ q. ActsFor d p q) j.owner j.others one) [
  | inl owner ↦ Any-head (λ q. ActsFor d p q) i.owner i.others (ActsFor-trans d p j.owner i.owner owner covers.owner)
  | inr (k, q, within, is, acts) ↦
      let member : ActsForOne d q (i.owner ∷ i.others) = subst (λ (w : ℕ). ActsForOne d w (i.owner ∷ i.others)) is (covers.members k q within) in
      (member.0, member.1, member.2, member.3, ActsFor-trans d p q member.1 acts member.4)
]

-- where each policy is covered by one of the others
pub within_all_covered : (d : Delegations) (p : ℕ) (xs bs : List Policy) → All (λ i. Any (λ j. Covers d j i) bs) xs → WithinAll d p bs → WithinAll d p xs
within_all_covered d p xs bs covered within k e below =
    let found : Any (λ j. Covers d j (get_or xs k e)) bs = covered k e below in
    within_covered d found.1 (get_or xs k e) p found.4
    (subst (λ (w : Policy). ActsForOne d p (w.owner ∷ w.others)) found.3 (within found.0 found.1 found.2))
