-- Chains of declared delegations, put together and taken apart.
use Rattle.std.proofs.Common.{◌≡◌, ℕ, zero, suc, ◌⊎◌, ◌↔◌, List, [], ◌∷◌, ◌++◌, ◌<◌, inl, inr, refl, sym, ap, ◌∙◌, subst, arith, Contains, All}
use Rattle.std.proofs.lemmas.List.Elements.{Contains-append_left, Contains-push, Contains-push_cases, All-contains}
use Rattle.fab_base.specs.Principals.{Delegations, Leads, IsChain, ActsFor}
use Rattle.fab_principals.specs.Tables.{Reaches}

-- what leads over some pairs leads over more
pub Leads-more : (xs ys : List (ℕ × ℕ)) → ((p q : ℕ) → Contains xs (p, q) → Contains ys (p, q)) → (p : ℕ) (rest : List ℕ) (q : ℕ) → Leads xs p rest q → Leads ys p rest q
Leads-more xs ys kept p [] q h = h
Leads-more xs ys kept p (x ∷ rest) q h = (kept p x h.0, Leads-more xs ys kept x rest q h.1)

pub Leads-append : (xs : List (ℕ × ℕ)) (p : ℕ) (one : List ℕ) (q : ℕ) (two : List ℕ) (r : ℕ) → Leads xs p one q → Leads xs q two r → Leads xs p (one ++ two) r
Leads-append xs p [] q two r h k = subst (λ (w : ℕ). Leads xs w two r) (sym h) k
Leads-append xs p (x ∷ one) q two r h k = (h.0, Leads-append xs x one q two r h.1 k)

-- ys has the pair (a, b) beside those of xs
pub record HasMore (xs ys : List (ℕ × ℕ)) (a b : ℕ) : Type 0 where
  pub kept : (p q : ℕ) → Contains xs (p, q) → Contains ys (p, q)
  pub added : Contains ys (a, b)
  pub cases : (p q : ℕ) → Contains ys (p, q) → Contains xs (p, q) ⊎ ((a ≡ p) × (b ≡ q))

-- a way over one more pair goes over the old ones alone, or to that pair's first and from its second
Leads-split : (xs ys : List (ℕ × ℕ)) (a b : ℕ) → HasMore xs ys a b → (p : ℕ) (rest : List ℕ) (q : ℕ) → Leads ys p rest q → Reaches xs p q ⊎ (Reaches xs p a × Reaches xs b q)
Leads-split xs ys a b more p [] q h = inl ([], h)
Leads-split xs ys a b more p (x ∷ rest) q h =
    let further = Leads-split xs ys a b more x rest q h.1 in
    elim (more.cases p x h.0) [
      | inl old ↦ elim further [ inl way ↦ inl (x ∷ way.0, (old, way.1)) | inr ways ↦ inr ((x ∷ ways.0.0, (old, ways.0.1)), ways.1) ]
      | inr new ↦ elim further [
        | inl way ↦ inr (([], sym new.0), (way.0, subst (λ (w : ℕ). Leads xs w way.0 q) (sym new.1) way.1))
        | inr ways ↦ inr (([], sym new.0), ways.1)
      ]
    ]

pub Reaches-append : (xs : List (ℕ × ℕ)) (p q r : ℕ) → Reaches xs p q → Reaches xs q r → Reaches xs p r
Reaches-append xs p q r one two = (one.0 ++ two.0, Leads-append xs p one.0 q two.0 r one.1 two.1)

-- who reaches whom with one more pair
pub Reaches-more : (xs ys : List (ℕ × ℕ)) (a b : ℕ) → HasMore xs ys a b → (p q : ℕ) → Reaches ys p q ↔ (Reaches xs p q ⊎ (Reaches xs p a × Reaches xs b q))
Reaches-more xs ys a b more p q = (
  λ way. Leads-split xs ys a b more p way.0 q way.1,
  λ either. elim either [
    | inl way ↦ (way.0, Leads-more xs ys more.kept p way.0 q way.1)
    | inr ways ↦ (ways.0.0 ++ b ∷ ways.1.0, Leads-append ys p ways.0.0 a (b ∷ ways.1.0) q (Leads-more xs ys more.kept p ways.0.0 a ways.0.1) (more.added, Leads-more xs ys more.kept b ways.1.0 q ways.1.1))
  ],
)

same_pair : (a b p q : ℕ) (d e : ℕ × ℕ) → d ≡ (a, b) → e ≡ (p, q) → d ≡ e → (a ≡ p) × (b ≡ q)
same_pair a b p q d e is_d is_e same =
    let whole : (a, b) ≡ (p, q) = sym is_d ∙ same ∙ is_e in
    let first : (ℕ × ℕ) → ℕ = λ w. w.0 in
    let second : (ℕ × ℕ) → ℕ = λ w. w.1 in
    (ap first whole, ap second whole)

pub Reaches-push : (xs : List (ℕ × ℕ)) (a b p q : ℕ) → Reaches (xs ++ (a, b) ∷ []) p q ↔ (Reaches xs p q ⊎ (Reaches xs p a × Reaches xs b q))
Reaches-push xs a b p q = Reaches-more xs (xs ++ (a, b) ∷ []) a b (record {
  kept = λ u v h. Contains-append_left xs ((a, b) ∷ []) (u, v) h;
  added = Contains-push xs (a, b);
  cases = λ u v h. elim (Contains-push_cases xs (a, b) (u, v) h) [ inl old ↦ inl old | inr new ↦ inr (same_pair a b u v (a, b) (u, v) refl refl new) ];
}) p q

pub Reaches-cons : (d : ℕ × ℕ) (xs : List (ℕ × ℕ)) (p q : ℕ) → Reaches (d ∷ xs) p q ↔ (Reaches xs p q ⊎ (Reaches xs p d.0 × Reaches xs d.1 q))
Reaches-cons d xs p q = Reaches-more xs (d ∷ xs) d.0 d.1 (record {
  kept = λ u v (k, within, is). (suc k, omega arith, is);
  added = (zero, omega arith, refl);
  cases = cases;
}) p q
  where
    cases : (u v : ℕ) → Contains (d ∷ xs) (u, v) → Contains xs (u, v) ⊎ ((d.0 ≡ u) × (d.1 ≡ v))
    cases u v (zero, within, is) = inr (same_pair d.0 d.1 u v d (u, v) refl refl is)
    cases u v (suc k, within, is) = inl (k, omega arith, is)

-- acting for is reaching by the declared pairs
pub ActsFor-reaches : (d : Delegations) (p q : ℕ) → Reaches d.pairs p q ↔ ActsFor d p q
ActsFor-reaches d p q = (λ way. (p ∷ way.0, (refl, way.1)), λ acts. back acts.0 acts.1)
  where
    back : (chain : List ℕ) → IsChain d p q chain → Reaches d.pairs p q
    back [] h = absurd h
    back (first ∷ rest) h = (rest, h.1)

pub ActsFor-refl : (d : Delegations) (p : ℕ) → ActsFor d p p
ActsFor-refl d p = (p ∷ [], (refl, refl))

pub ActsFor-trans : (d : Delegations) (p q r : ℕ) → ActsFor d p q → ActsFor d q r → ActsFor d p r
ActsFor-trans d p q r one two = (ActsFor-reaches d p r).0 (Reaches-append d.pairs p q r ((ActsFor-reaches d p q).1 one) ((ActsFor-reaches d q r).1 two))

-- both ends of a way of at least one step are declared, so they are below the count
pub Leads-ends : (xs : List (ℕ × ℕ)) (n : ℕ) → All (λ d. (d.0 < n) × (d.1 < n)) xs → (p : ℕ) (rest : List ℕ) (q : ℕ) → Leads xs p rest q → (p ≡ q) ⊎ ((p < n) × (q < n))
Leads-ends xs n declared p [] q h = inl h
Leads-ends xs n declared p (x ∷ rest) q h =
    let here : (p < n) × (x < n) = All-contains (λ d. (d.0 < n) × (d.1 < n)) xs (p, x) declared h.0 in
    elim (Leads-ends xs n declared x rest q h.1) [ inl same ↦ inr (here.0, subst (λ (w : ℕ). w < n) same here.1) | inr ends ↦ inr (here.0, ends.1) ]
