use Rattle.std.proofs.Common.{◌≡◌, ℕ, zero, suc, true, refl, ap, sym, ◌∙◌, get_or, replicate}
use Rattle.std.proofs.lemmas.Bool.{both_ways}
use Rattle.fab_principals.specs.Sets.{in_set}
use Rattle.fab_principals.proofs.SetLemmas.{in_set-zero}
use Rattle.fab_authority.proofs.answers.Answers.new.Goals as goal

same_everywhere : (z n k : ℕ) → get_or (replicate n z) k z ≡ z
same_everywhere z zero k = refl
same_everywhere z (suc n) zero = refl
same_everywhere z (suc n) (suc k) = same_everywhere z n k

none : (a b : ℕ) → in_set (get_or (replicate 64 0) a 0) b ≡ true → {T : Type 0} → T
none a b h = absurd (both_ways (in_set 0 b) (in_set-zero b) (ap (λ (n : ℕ). in_set n b) (sym (same_everywhere 0 64 a)) ∙ h))

pub returns : goal.returns
returns c = λ says. record { yes = λ a b h. none a b h; no = λ a b h. none a b h }
