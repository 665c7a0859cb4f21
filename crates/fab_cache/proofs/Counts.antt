-- Rows of distinct names: so many of them are among others at most as there are others.
use Rattle.std.proofs.Common.{◌≡◌, ◌+◌, ◌≤◌, Bool, true, false, not, cond, ◌||◌, [], ◌∷◌, length, refl, sym, subst, ap, ◌∙◌, arith}
use Rattle.std.specs.List.{filter}
use Rattle.std.proofs.lemmas.Bool.{or_parts}
use Rattle.std.proofs.lemmas.List.Filters.{length-filter_both}
use Rattle.fab_base.specs.declared.object.Oid.{Oid}
use Rattle.fab_base.specs.FlatMap.{is_among, is_same}
use Rattle.fab_base.proofs.Names.{same_flips}
use Rattle.fab_base.proofs.NameOrder.{one_name}
use Rattle.fab_protocol.specs.Tables.{OnlyOnce}
use Rattle.fab_protocol.specs.Versions.{Row, Rows, names_of}

-- how many of these pass a test, row by row
passing : (p : Row → Bool) (x : Row) (xs : Rows) → length (filter p (x ∷ xs)) ≡ cond (p x) 1 0 + length (filter p xs)
passing p x xs =
    elim (p x) as (λ b. length (cond b (x ∷ filter p xs) (filter p xs)) ≡ cond b 1 0 + length (filter p xs)) [ true ↦ omega arith | false ↦ omega arith ]

none_pass : (p : Row → Bool) → ((x : Row) → p x ≡ false) → (xs : Rows) → length (filter p xs) ≡ 0
none_pass p never [] = refl
none_pass p never (x ∷ xs) = passing p x xs ∙ ap (λ b. cond b 1 0 + length (filter p xs)) (never x) ∙ omega (arith, none_pass p never xs)

one_or_two : (a b : Bool) → cond (a || b) 1 0 ≤ cond a 1 0 + cond b 1 0
one_or_two true b = elim b as (λ c. 1 ≤ 1 + cond c 1 0) [ true ↦ omega arith | false ↦ omega arith ]
one_or_two false b = omega arith

either_pass : (p q : Row → Bool) (xs : Rows) → length (filter (λ x. p x || q x) xs) ≤ length (filter p xs) + length (filter q xs)
either_pass p q [] = omega arith
either_pass p q (x ∷ xs) =
    omega (arith, passing (λ x. p x || q x) x xs, passing p x xs, passing q x xs, one_or_two (p x) (q x), either_pass p q xs)

-- a name that isn't among these, and one that may be among them once
none_named : (o : Oid) (xs : Rows) → is_among o (names_of xs) ≡ false → length (filter (λ x. is_same o x.0) xs) ≡ 0
none_named o [] h = refl
none_named o (x ∷ xs) h =
    let parts = or_parts (is_same x.0 o) (is_among o (names_of xs)) h in
    passing (λ x. is_same o x.0) x xs
    ∙ ap (λ b. cond b 1 0 + length (filter (λ x. is_same o x.0) xs)) (same_flips o x.0 ∙ parts.0)
    ∙ omega (arith, none_named o xs parts.1)

one_named : (o : Oid) (xs : Rows) → OnlyOnce (names_of xs) → length (filter (λ x. is_same o x.0) xs) ≤ 1
one_named o [] h = omega arith
one_named o (x ∷ xs) h =
    elim (is_same o x.0) as (λ b. is_same o x.0 ≡ b → length (cond b (x ∷ filter (λ x. is_same o x.0) xs) (filter (λ x. is_same o x.0) xs)) ≤ 1) [
      | true ↦ λ e. omega (arith, none_named o xs (subst (λ p. is_among p (names_of xs) ≡ false) (sym (one_name o x.0 e)) h.0))
      | false ↦ λ e. one_named o xs h.1
    ] refl

pub few_known : (others xs : Rows) → OnlyOnce (names_of xs) → length (filter (λ x. is_among x.0 (names_of others)) xs) ≤ length others
few_known [] xs h =
    let none : length (filter (λ x. is_among x.0 (names_of [])) xs) ≡ 0 = none_pass (λ x. is_among x.0 (names_of [])) (λ x. refl) xs in
    omega (arith, none)
few_known (y ∷ others) xs h =
    let parts : length (filter (λ x. is_among x.0 (names_of (y ∷ others))) xs)
    ≤ length (filter (λ x. is_same y.0 x.0) xs) + length (filter (λ x. is_among x.0 (names_of others)) xs) =
    either_pass (λ x. is_same y.0 x.0) (λ x. is_among x.0 (names_of others)) xs in
    omega (arith, parts, one_named y.0 xs h, few_known others xs h)

-- so the others are as many with those of these that are new
pub many_new : (others xs : Rows) → OnlyOnce (names_of xs) → length xs ≤ length others + length (filter (λ x. not (is_among x.0 (names_of others))) xs)
many_new others xs h =
    omega (arith, few_known others xs h, length-filter_both (λ x. is_among x.0 (names_of others)) (λ x. not (is_among x.0 (names_of others))) (λ x. refl) xs)
