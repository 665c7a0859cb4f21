-- Slots that are taken from the end of a turned list.
use Rattle.std.proofs.Common.{◌≡◌, ℕ, suc, ◌+◌, ◌≤◌, List, [], ◌∷◌, ◌++◌, map, length, Option, Some, None, refl, sym, ap, ◌∙◌, arith, append_assoc}
use Rattle.std.specs.Prelude.{reverse}
use Rattle.std.proofs.lemmas.List.{map-append, reverse-append, reverse-reverse}
use Rattle.fab_core.specs.Cores.{count_in}
use Rattle.fab_core.specs.Telling.{those_in}

those_first : {A : Type 0} (x : Option A) (xs : List (Option A)) → those_in (x ∷ xs) ≡ those_in (x ∷ []) ++ those_in xs
those_first None xs = refl
those_first (Some x) xs = refl

-- the last one comes first
pub those_last : {A : Type 0} (xs : List (Option A)) (x : Option A) → those_in (reverse (xs ++ x ∷ [])) ≡ those_in (x ∷ []) ++ those_in (reverse xs)
those_last xs x = ap those_in (reverse-append xs (x ∷ [])) ∙ those_first x (reverse xs)

count_both : {A : Type 0} (xs ys : List (Option A)) → count_in (xs ++ ys) ≡ count_in xs + count_in ys
count_both [] ys = omega arith
count_both (None ∷ xs) ys = count_both xs ys
count_both (Some x ∷ xs) ys = omega (arith, count_both xs ys)

pub count_last : {A : Type 0} (xs : List (Option A)) (x : Option A) → count_in (xs ++ x ∷ []) ≡ count_in xs + count_in (x ∷ [])
count_last xs x = count_both xs (x ∷ [])

pub count_turned : {A : Type 0} (xs : List (Option A)) → count_in (reverse xs) ≡ count_in xs
count_turned [] = refl
count_turned (None ∷ xs) = ap count_in (reverse-append (None ∷ []) xs) ∙ count_both (reverse xs) (None ∷ []) ∙ omega (arith, count_turned xs)
count_turned (Some x ∷ xs) = ap count_in (reverse-append (Some x ∷ []) xs) ∙ count_both (reverse xs) (Some x ∷ []) ∙ omega (arith, count_turned xs)

-- ---- journals, one after the other

pub taken_first : {A B C : Type 0} (view : C → B) (f : A → B) (js : List C) (nodes rest : List (Option A)) → length js ≡ 0 → rest ≡ reverse nodes
    → map view js ++ map f (those_in (reverse rest)) ≡ map f (those_in nodes)
taken_first view f [] nodes rest none turned = ap (λ xs. map f (those_in (reverse xs))) turned ∙ ap (λ xs. map f (those_in xs)) (reverse-reverse nodes)
taken_first view f (j ∷ js) nodes rest none turned = absurd (omega (arith, none))

pub room_first : {A : Type 0} (nodes rest : List (Option A)) (have cap : ℕ) → rest ≡ reverse nodes → have ≡ 0 → count_in nodes ≤ cap → have + count_in rest ≤ cap
room_first nodes rest have cap turned none enough = omega (arith, ap (λ xs. count_in xs) turned, count_turned nodes)

pub room_here : {A : Type 0} (rest more : List (Option A)) (x : Option A) (have cap : ℕ) → rest ≡ more ++ x ∷ [] → have + count_in rest ≤ cap
    → have + count_in (x ∷ []) ≤ cap
room_here rest more x have cap parts room = omega (arith, ap (λ xs. count_in xs) parts, count_last more x)

pub room_behind : {A : Type 0} (rest more : List (Option A)) (x : Option A) (have now cap next : ℕ) → rest ≡ more ++ x ∷ [] → have + count_in rest ≤ cap
    → now ≡ have + count_in (x ∷ []) → next ≡ cap → now + count_in more ≤ next
room_behind rest more x have now cap next parts room more_now same = omega (arith, ap (λ xs. count_in xs) parts, count_last more x)

pub taken_next : {A B : Type 0} (f : A → B) (before now all : List B) (rest more : List (Option A)) (x : Option A) → rest ≡ more ++ x ∷ []
    → now ≡ before ++ map f (those_in (x ∷ [])) → before ++ map f (those_in (reverse rest)) ≡ all → now ++ map f (those_in (reverse more)) ≡ all
taken_next f before now all rest more x parts here h =
    ap (λ ys. ys ++ map f (those_in (reverse more))) here
    ∙ append_assoc before (map f (those_in (x ∷ []))) (map f (those_in (reverse more)))
    ∙ ap (λ ys. before ++ ys) (sym (map-append f (those_in (x ∷ [])) (those_in (reverse more))))
    ∙ ap (λ ys. before ++ map f ys) (sym (those_last more x))
    ∙ ap (λ ys. before ++ map f (those_in (reverse ys))) (sym parts)
    ∙ h
