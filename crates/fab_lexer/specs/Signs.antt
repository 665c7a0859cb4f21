-- Which sign is taken where several begin.
use Rattle.std.specs.Prelude.{◌≡◌, ℕ, ◌≤◌, true, nat_eq, List, length, Some, All, IsSomeAnd}
use Rattle.std.specs.List.{starts_with, Contains}
use Rattle.fab_base.specs.declared.token.Mark.{Mark}
use Rattle.fab_base.specs.Tokens.{mark_text, signs, sign_at}

-- the bytes begin with a mark's spelling
abbrev pub Begins : List ℕ → Mark → Type 0
Begins bytes x = starts_with nat_eq bytes (mark_text x) ≡ true

-- where the bytes begin with a sign, one is taken, and none with which they begin is longer
abbrev pub AreLongestTaken : Type 0
AreLongestTaken = (bytes : List ℕ) → All (λ y. Begins bytes y → IsSomeAnd (sign_at bytes) (λ x. length (mark_text y) ≤ length (mark_text x))) signs

-- what is taken is a sign with which the bytes begin
abbrev pub AreBegunWith : Type 0
AreBegunWith = (bytes : List ℕ) (x : Mark) → sign_at bytes ≡ Some x → Contains signs x × Begins bytes x
