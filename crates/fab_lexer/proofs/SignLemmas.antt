-- Of the signs with which bytes begin, the longest is taken.
use Rattle.std.proofs.Common.{◌≡◌, ℕ, zero, suc, ◌≤◌, Bool, true, false, ◌&&◌, cond, List, [], ◌∷◌, length, Some, refl, arith}
use Rattle.std.specs.Prelude.{nat_eq, nat_le, find, All, IsSomeAnd}
use Rattle.std.specs.List.{starts_with, list_all, Contains}
use Rattle.std.specs.Cmp.{first_so, second_so}
use Rattle.std.proofs.lemmas.Bool.Decides.{nat_tests}
use Rattle.std.proofs.lemmas.List.Sums.{AllPass-from_list_all}
use Rattle.fab_base.specs.declared.token.Mark.{Mark}
use Rattle.fab_base.specs.Tokens.{mark_text, signs}
use Rattle.fab_lexer.specs.Signs.{AreLongestTaken, AreBegunWith}
use Rattle.fab_lexer.proofs.PieceLemmas.{find_passes}

abbrev no_longer : Mark → Mark → Bool
no_longer x y = nat_le (length (mark_text y)) (length (mark_text x))

-- each mark is as long as those behind it
abbrev descends : List Mark → Bool
descends [] = true
descends (x ∷ xs) = list_all (no_longer x) xs && descends xs

at_most : (a b : ℕ) → nat_le a b ≡ true → a ≤ b
at_most a b h = grind (arith, nat_tests)

abbrev IsAsLong : Mark → Mark → Type 0
IsAsLong y x = length (mark_text y) ≤ length (mark_text x)

first_is_longest : (p : Mark → Bool) (x : Mark) (xs : List Mark) (b : Bool) → p x ≡ b → list_all (no_longer x) xs ≡ true
    → All (λ y. p y ≡ true → IsSomeAnd (find p xs) (IsAsLong y)) xs → All (λ y. p y ≡ true → IsSomeAnd (cond b (Some x) (find p xs)) (IsAsLong y)) (x ∷ xs)
first_is_longest p x xs true e h later zero d i passes = omega arith
first_is_longest p x xs true e h later (suc k) d i passes =
    at_most _ _ (AllPass-from_list_all (no_longer x) xs h k d (omega (arith, i)))
first_is_longest p x xs false e h later zero d i passes = absurd (cc)
first_is_longest p x xs false e h later (suc k) d i passes = later k d (omega (arith, i)) passes

longest : (p : Mark → Bool) (xs : List Mark) → descends xs ≡ true → All (λ y. p y ≡ true → IsSomeAnd (find p xs) (IsAsLong y)) xs
longest p [] h = λ k d i. absurd (omega (arith, i))
longest p (x ∷ xs) h =
    let here = list_all (no_longer x) xs in
    first_is_longest p x xs (p x) refl (first_so here (descends xs) h) (longest p xs (second_so here (descends xs) h))

pub longest_taken : AreLongestTaken
longest_taken bytes = longest (λ x. starts_with nat_eq bytes (mark_text x)) signs refl

contains_found : (p : Mark → Bool) (x y : Mark) (ys : List Mark) (b : Bool) → (find p ys ≡ Some x → Contains ys x) → cond b (Some y) (find p ys) ≡ Some x
    → Contains (y ∷ ys) x
contains_found p x y ys true later e = (0, omega arith, cc)
contains_found p x y ys false later e = let r = later e in (suc r.0, omega (arith, r.1), r.2)

find_contains : (p : Mark → Bool) (xs : List Mark) (x : Mark) → find p xs ≡ Some x → Contains xs x
find_contains p [] x e = absurd (cc)
find_contains p (y ∷ ys) x e = contains_found p x y ys (p y) (find_contains p ys x) e

pub begun_with : AreBegunWith
begun_with bytes x e =
    let p : Mark → Bool = λ y. starts_with nat_eq bytes (mark_text y) in
    (find_contains p signs x e, find_passes p signs x e)
