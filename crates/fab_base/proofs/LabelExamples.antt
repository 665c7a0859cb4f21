-- Delegations, chains and flows, good and bad. Alice is 0, Bob 1, Carol 2, and Carol acts for Alice.
use Rattle.std.proofs.Common.{◌≡◌, ℕ, zero, suc, List, [], ◌∷◌, refl, arith, inl, inr, lit<, sym, ap, subst}
use Rattle.std.specs.Prelude.{Contains, Any, All, Some}
use Rattle.fab_base.specs.declared.label.Policy.{Policy}
use Rattle.fab_base.specs.declared.label.Label.{Label}
use Rattle.fab_base.specs.Principals.{Delegations, ActsFor, IsNoGreater}
use Rattle.fab_base.specs.Labels.{PolicyDenies, Deny, FlowsConf, Covers, IsFirstCover, alone}

abbrev d : Delegations
d = record { count = 3; pairs = (2, 0) ∷ [] }

abbrev to_bob : Label
to_bob = record { conf = record { owner = 0; others = 1 ∷ [] } ∷ []; integ = [] }

abbrev to_nobody : Label
to_nobody = record { conf = record { owner = 0; others = [] } ∷ []; integ = [] }

pub alice_for_alice : ActsFor d 0 0
alice_for_alice = (0 ∷ [], (refl, refl))

pub carol_for_alice : ActsFor d 2 0
carol_for_alice = (2 ∷ 0 ∷ [], (refl, ((0, lit< tt, refl), refl)))

declared_is : (p q : ℕ) → Contains d.pairs (p, q) → p ≡ 2
declared_is p q (zero, within, e) = let first : (ℕ × ℕ) → ℕ = λ w. w.0 in sym (ap first e)
declared_is p q (suc k, within, e) = absurd (omega arith)

-- Bob acts for nobody else
pub bob_alone : (q : ℕ) → ActsFor d 1 q → 1 ≡ q
bob_alone q ([], h) = absurd h
bob_alone q (x ∷ [], h) = h.1
bob_alone q (x ∷ y ∷ rest, h) = absurd (let e : 1 ≡ 2 = declared_is 1 y h.1.0 in omega arith)

-- a number that is no principal acts for itself
pub no_principal : ActsFor d 77 77
no_principal = (77 ∷ [], (refl, refl))

pub lesser_first : IsNoGreater (2 ∷ 1 ∷ 9 ∷ []) (2 ∷ 3 ∷ 0 ∷ [])
lesser_first = inr (refl, inl (lit< tt))

-- who acts for one of fewer acts for one of more
wider : (m : ℕ) → Any (λ q. ActsFor d m q) (0 ∷ []) → Any (λ q. ActsFor d m q) (0 ∷ 1 ∷ [])
wider m (zero, q, within, is, acts) = (zero, q, lit< tt, is, acts)
wider m (suc k, q, within, is, acts) = absurd (omega arith)

-- nobody who acts neither for Alice nor for Bob acts for Alice
narrower : (p : ℕ) (group : List ℕ) (policy : Policy) → record { owner = 0; others = 1 ∷ [] } ≡ policy → PolicyDenies d policy p group → PolicyDenies d (record { owner = 0; others = [] }) p group
narrower p group policy is denied =
    let here : PolicyDenies d (record { owner = 0; others = 1 ∷ [] }) p group = subst (λ (w : Policy). PolicyDenies d w p group) (sym is) denied in
    record { owner = here.owner; outside = λ k m within one. here.outside k m within (wider _ one) }

-- Bob doesn't act for Alice
not_bob : All (λ m. ¬ Any (λ q. ActsFor d m q) (0 ∷ [])) (1 ∷ [])
not_bob zero m within (zero, q, _, is, acts) = absurd (let e : 1 ≡ q = bob_alone q acts in omega (arith, is))
not_bob zero m within (suc k, q, short, is, acts) = absurd (omega arith)
not_bob (suc k) m within _ = absurd (omega arith)

bob_may : ¬ Deny d to_bob.conf 0 (1 ∷ [])
bob_may (zero, policy, within, is, denied) =
    let here : PolicyDenies d (record { owner = 0; others = 1 ∷ [] }) 0 (1 ∷ []) = subst (λ (w : Policy). PolicyDenies d w 0 (1 ∷ [])) (sym is) denied in
    here.outside 0 0 (lit< tt) (1, 1, lit< tt, refl, (1 ∷ [], (refl, refl)))
bob_may (suc k, policy, within, is, denied) = omega arith

-- what `Alice -> Bob` denies, `Alice ->` denies
pub fewer_readers : FlowsConf d to_bob to_nobody
fewer_readers p group (zero, policy, within, is, denied) = (zero, record { owner = 0; others = [] }, lit< tt, refl, narrower p group policy is denied)
fewer_readers p group (suc k, policy, within, is, denied) = absurd (omega arith)

-- `Alice ->` denies Alice's reading by Bob, and `Alice -> Bob` doesn't
pub more_readers : ¬ FlowsConf d to_nobody to_bob
more_readers flows = bob_may (flows 0 (1 ∷ []) (zero, record { owner = 0; others = [] }, lit< tt, refl, record { owner = alice_for_alice; outside = not_bob }))

-- `Alice -> Bob` doesn't cover `Alice ->`, since Bob doesn't act for Alice
bob_covers_not : ¬ Covers d (record { owner = 0; others = 1 ∷ [] }) (alone 0)
bob_covers_not covers = not_bob 0 1 (lit< tt) (covers.members 0 1 (lit< tt))

-- so of these two the second is the first that covers it
pub the_second_covers : IsFirstCover d (record { owner = 0; others = 1 ∷ [] } ∷ alone 0 ∷ []) (alone 0) (Some 1)
the_second_covers = (record { owner = alice_for_alice; members = λ k m within. absurd (omega (arith, within)) }, none)
  where
    none : ¬ Any (λ j. Covers d j (alone 0)) (record { owner = 0; others = 1 ∷ [] } ∷ [])
    none (zero, j, within, is, covers) = bob_covers_not (subst (λ (w : Policy). Covers d w (alone 0)) (sym is) covers)
    none (suc k, j, within, is, covers) = omega arith
