-- Numbers at the front of tokens.
use Rattle.std.proofs.Common.{◌≡◌, ◌<◌, ℕ, IsTrue, List, [], ◌∷◌, refl, sym, subst}
use Rattle.fab_base.specs.declared.token.Kind.{Kind}
use Rattle.fab_base.specs.declared.token.Kind.TheVariants as k
use Rattle.fab_base.specs.declared.token.Token.{Token}
use Rattle.fab_tree.specs.declared.expression.Number.{Number}
use Rattle.fab_tree.specs.declared.expression.Number.TheVariants as numbers
use Rattle.fab_tree.specs.Lists.{IsNumeral, numeral, IsLeast, least_int, minus}
use Rattle.fab_reading.specs.Reading.{Starts, begins_numeral, begins_least, begins_negated}
use Rattle.fab_reading.proofs.Rules.{never}

-- a number of 31 bits at the front
pub numeral_at : {a b : List Token} {t : Token} {n : ℕ} → a ≡ t ∷ b → (t.kind ≡ k.Number n) × (n < 2147483648) → IsNumeral a n b
numeral_at {b = b} {n = n} e h = subst (λ x. IsNumeral x n b) (sym e) (numeral h.0 h.1)

-- the digits of a least number at the front
pub least_at : {a b : List Token} {t : Token} → a ≡ t ∷ b → t.kind ≡ k.Least → IsLeast a (numbers.Int (minus 2147483648)) b
least_at {b = b} e h = subst (λ x. IsLeast x (numbers.Int (minus 2147483648)) b) (sym e) (least_int h)

pub least_begins : {a b : List Token} {n : Number} → IsLeast a n b → Starts begins_least a
least_begins (least_int e) = subst (λ x. IsTrue (begins_least x)) (sym e) refl

no_least_begins : (x : Kind) → (x ≡ k.Least → ⊥) → IsTrue (begins_least x) → ⊥
no_least_begins k.Least h i = h refl
no_least_begins _ h i = never i

pub no_least_starts : (a : List Token) → ((t : Token) (ts : List Token) → a ≡ t ∷ ts → t.kind ≡ k.Least → ⊥) → Starts begins_least a → ⊥
no_least_starts [] h s = s
no_least_starts (t ∷ ts) h s = no_least_begins t.kind (h t ts refl) s

no_negated_begins : (x : Kind) → (IsTrue (begins_numeral x) → ⊥) → (IsTrue (begins_least x) → ⊥) → IsTrue (begins_negated x) → ⊥
no_negated_begins (k.Number n) i g l = i l
no_negated_begins k.Least i g l = g refl
no_negated_begins _ i g l = never l

-- neither a number nor the digits of a least one stand at the front
pub no_negated_starts : (a : List Token) → (Starts begins_numeral a → ⊥) → (Starts begins_least a → ⊥) → Starts begins_negated a → ⊥
no_negated_starts [] i g l = l
no_negated_starts (t ∷ ts) i g l = no_negated_begins t.kind i g l
