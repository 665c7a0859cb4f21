-- Names in sets, and versions by name.
use Rattle.std.proofs.Common.{◌≡◌, ℕ, zero, suc, ◌+◌, ◌-◌, ◌<◌, Bool, true, false, ◌||◌, if◌then◌else◌, List, [], ◌∷◌, ◌++◌, length, get_or, map, take, Some, unwrap_or, Result, Ok, Err, IfOk, is_err, refl, sym, ap, ◌∙◌, arith}
use Rattle.std.specs.List.{list_any, IsDistinct, AllByRecursion}
use Rattle.std.specs.Map.{lookup, keys_of}
use Rattle.std.proofs.lemmas.List.{length_push, length-map, get_or-map, map_more, take-map, take_at}
use Rattle.std.proofs.lemmas.Bool.{true≢false}
use Rattle.std.proofs.lemmas.Bool.Decides.{nat_tests}
use Rattle.std.proofs.lemmas.Map.Keys.{IsDistinct-head, IsDistinct-tail}
use Rattle.indexmap.specs.IndexMap.{insert_entry}
use Rattle.fab_base.specs.declared.object.Oid.{Oid}
use Rattle.fab_base.specs.declared.object.Object.{Object}
use Rattle.fab_base.specs.FlatMap.{is_same}
use Rattle.fab_base.specs.contracts.object.OidPartialEq as oids
use Rattle.fab_language.specs.Heaps.{is_among}
use Rattle.fab_nested.specs.Nested.{Answers, names_of, versions_of, version_of}
use Rattle.fab_nested.specs.Logs.{but_last}

-- the derived comparison of names is that of their parts
pub eq_is : (o p : Oid) → oids.TheImpl.ghosts.eq o p ≡ is_same p o
eq_is o p = grind (arith, nat_tests)

pub same_any : {A : Type 0} (p q : A → Bool) → ((x : A) → p x ≡ q x) → (xs : List A) → list_any p xs ≡ list_any q xs
same_any p q h xs = ap (λ (r : _ → Bool). list_any r xs) (λ i x. h x i)

-- what a set of names answers
pub among_by : (o : Oid) (os : List Oid) → list_any (λ (p : Oid). oids.TheImpl.ghosts.eq o p) os ≡ is_among o os
among_by o os = same_any _ _ (eq_is o) os

-- ---- one name more at the end

pub among_push : (o p : Oid) (os : List Oid) → is_among o (os ++ p ∷ []) ≡ (is_among o os || is_same p o)
among_push o p [] = elim (is_same p o) as (λ b. (b || false) ≡ b) [ true ↦ refl | false ↦ refl ]
among_push o p (x ∷ os) = elim (is_same x o) as (λ b. (b || is_among o (os ++ p ∷ [])) ≡ ((b || is_among o os) || is_same p o)) [ true ↦ refl | false ↦ among_push o p os ]

pub but_last-push : (os : List Oid) (o : Oid) → but_last (os ++ o ∷ []) ≡ os
but_last-push os o = take_at os (o ∷ []) (length (os ++ o ∷ []) - 1) (omega (arith, length_push os o))

pub first_of_two : (a b : Bool) → (a || b) ≡ false → a ≡ false
first_of_two true b h = absurd (true≢false h)
first_of_two false b h = refl

pub neither : (a b : Bool) → (a || b) ≡ false → b ≡ false
neither true b h = absurd (true≢false h)
neither false b h = h

-- ---- versions by name

pub version_found : (vs : List (Oid × ℕ)) (o : Oid) → version_of vs o ≡ unwrap_or (lookup (λ (p : Oid). oids.TheImpl.ghosts.eq o p) vs) 0
version_found [] o = refl
version_found (v ∷ vs) o = rw (eq_is o v.0, version_found vs o) (by_test (is_same v.0 o))
  where
    by_test : (b : Bool) → (if b then v.1 else unwrap_or (lookup (λ (p : Oid). oids.TheImpl.ghosts.eq o p) vs) 0) ≡ unwrap_or (if b then Some v.1 else lookup (λ (p : Oid). oids.TheImpl.ghosts.eq o p) vs) 0
    by_test true = refl
    by_test false = refl

-- a name that stands in no entry goes last
pub insert_last : (o : Oid) (n : ℕ) (vs : List (Oid × ℕ)) → is_among o (map (λ (v : Oid × ℕ). v.0) vs) ≡ false → insert_entry oids.TheImpl.ghosts.eq vs o n ≡ vs ++ (o, n) ∷ []
insert_last o n [] h = refl
insert_last o n (v ∷ vs) h = rw (eq_is o v.0) (by_test (is_same v.0 o) h (λ k. insert_last o n vs k))
  where
    by_test : (b : Bool) → (b || is_among o (map (λ (v : Oid × ℕ). v.0) vs)) ≡ false → (is_among o (map (λ (v : Oid × ℕ). v.0) vs) ≡ false → insert_entry oids.TheImpl.ghosts.eq vs o n ≡ vs ++ (o, n) ∷ []) → (if b then (v.0, n) ∷ vs else v ∷ insert_entry oids.TheImpl.ghosts.eq vs o n) ≡ v ∷ vs ++ (o, n) ∷ []
    by_test true k rest = cc
    by_test false k rest = ap (λ l. v ∷ l) (rest k)

-- of distinct names none stands among those before it
apart_at : (o : Oid) (os : List Oid) (i : ℕ) (d : Oid) → AllByRecursion (λ p. is_same o p ≡ false) os → i < length os → is_same o (get_or os i d) ≡ false
apart_at o [] i d h lt = absurd (omega arith)
apart_at o (p ∷ os) zero d h lt = h.0
apart_at o (p ∷ os) (suc i) d h lt = apart_at o os i d h.1 (omega arith)

new_at : (os : List Oid) (i : ℕ) (d : Oid) → IsDistinct is_same os → i < length os → is_among (get_or os i d) (take i os) ≡ false
new_at [] i d h lt = absurd (omega arith)
new_at (o ∷ os) zero d h lt = refl
new_at (o ∷ os) (suc i) d h lt =
    ap (λ b. b || is_among (get_or os i d) (take i os)) (apart_at o os i d (IsDistinct-head is_same o os h) (omega arith))
    ∙ new_at os i d (IsDistinct-tail is_same o os h) (omega arith)

-- ---- answers

-- the names of what is made of each answer
pub keys_kept : {X : Type 0} (f : Oid × ℕ × Object → X) (answers : Answers) → keys_of (map (λ a. (a.0, f a)) answers) ≡ names_of answers
keys_kept f [] = refl
keys_kept f (a ∷ answers) = ap (λ os. a.0 ∷ os) (keys_kept f answers)

-- one answer's version more
pub version_more : (answers : Answers) (i : ℕ) (a : Oid × ℕ × Object) (vs new : List (Oid × ℕ)) → IsDistinct is_same (names_of answers) → i < length answers → a ≡ get_or answers i a → vs ≡ versions_of (take i answers) → new ≡ insert_entry oids.TheImpl.ghosts.eq vs a.0 a.1 → new ≡ versions_of (take (i + 1) answers)
version_more answers i a vs new apart lt read e f =
    f
    ∙ ap (λ l. insert_entry oids.TheImpl.ghosts.eq l a.0 a.1) e
    ∙ insert_last a.0 a.1 (versions_of (take i answers)) absent
    ∙ ap (λ (x : Oid × ℕ × Object). versions_of (take i answers) ++ (x.0, x.1) ∷ []) read
    ∙ sym (map_more (λ (x : Oid × ℕ × Object). (x.0, x.1)) answers i a lt)
  where
    name : get_or (names_of answers) i a.0 ≡ a.0
    name = get_or-map (λ (x : Oid × ℕ × Object). x.0) answers i a a.0 lt ∙ ap (λ (x : Oid × ℕ × Object). x.0) (sym read)

    absent : is_among a.0 (keys_of (versions_of (take i answers))) ≡ false
    absent =
        ap (is_among a.0) (keys_kept (λ (x : Oid × ℕ × Object). x.1) (take i answers) ∙ sym (take-map (λ (x : Oid × ℕ × Object). x.0) i answers))
        ∙ ap (λ o. is_among o (take i (names_of answers))) (sym name)
        ∙ new_at (names_of answers) i a.0 apart (let same = length-map answers (λ (x : Oid × ℕ × Object). x.0) in omega arith)

-- what an insertion that succeeded leaves
pub inserted : {A E : Type 0} (r : Result A E) (left all : List (Oid × ℕ)) → is_err r ≡ false → IfOk r (λ _. left ≡ all) → left ≡ all
inserted (Ok x) left all e h = h
inserted (Err x) left all e h = absurd (true≢false e)
