use Rattle.std.proofs.Common.{◌≡◌, ◌<◌, ◌≤◌, ℕ, List, [], ◌∷◌, length, map, None, refl, arith}
use Rattle.std.specs.Borrow.{Bor}
use Rattle.fab_asked.specs.Words.{watch_of}
use Rattle.fab_asked.proofs.asked.watch_of.Goals as goal

one_operand : (operands : List (Bor (List ℕ))) → 1 ≤ length operands → length operands < 2 → None ≡ watch_of (map (λ v. v.now) operands)
one_operand [] some few = absurd (omega (arith, some))
one_operand (v ∷ []) some few = refl
one_operand (v ∷ w ∷ vs) some few = absurd (omega (arith, few))

three_operands : (operands : List (Bor (List ℕ))) → 3 ≤ length operands → None ≡ watch_of (map (λ v. v.now) operands)
three_operands [] many = absurd (omega (arith, many))
three_operands (v ∷ []) many = absurd (omega (arith, many))
three_operands (v ∷ w ∷ []) many = absurd (omega (arith, many))
three_operands (v ∷ w ∷ x ∷ vs) many = refl

pub returns-in-len1 : goal.returns-in-len1
returns-in-len1 c = one_operand c.args.operands.now (omega (arith, c.in-len1.len_at_least)) (omega (arith, c.in-len1.len_below))

pub returns-in-len3-up : goal.returns-in-len3-up
returns-in-len3-up c = three_operands c.args.operands.now (omega (arith, c.in-len3-up.len_at_least))
