-- Tables by two numbers with one place changed.
use Rattle.std.specs.Prelude.{◌≡◌, ℕ, Bool, true, false, ◌==◌, if◌then◌else◌}
use Rattle.std.proofs.Common.{ap, ◌∙◌, inl, inr}
use Rattle.std.proofs.lemmas.Bool.{cases_eq, eq-eqb, ne_eqb}
use Rattle.fab_world.specs.Machine.{with_at}

pub with_at_same : {A B : Type 0} (f g : ℕ → B → A) (n : ℕ) (x y : B → A) → ((a : ℕ) (b : B) → f a b ≡ g a b) → ((b : B) → x b ≡ y b)
    → (a : ℕ) (b : B) → with_at f n x a b ≡ with_at g n y a b
with_at_same f g n x y there here a b =
    elim (a == n) as (λ t. (if t then x else f a) b ≡ (if t then y else g a) b) [ true ↦ here b | false ↦ there a b ]

-- where it is the place itself, another is there already
pub with_at_kept : {A : Type 0} (f : ℕ → ℕ → A) (n : ℕ) (x : ℕ → A) → ((b : ℕ) → x b ≡ f n b) → (a b : ℕ) → (a ≡ n → f n b ≡ f a b) → with_at f n x a b ≡ f a b
with_at_kept f n x here a b same =
    elim (cases_eq a n) [
      | inl p ↦ ap (λ t. (if t then x else f a) b) (eq-eqb a n p) ∙ here b ∙ same p
      | inr p ↦ ap (λ t. (if t then x else f a) b) (ne_eqb a n p)
    ]
