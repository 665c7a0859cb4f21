-- Which choices solve, by what the bundle with holes owes; and what the least labels are beside another solution.
use Rattle.std.proofs.Common.{◌≡◌, ℕ, zero, suc, ◌+◌, ◌<◌, ◌≤◌, inl, inr, List, [], ◌∷◌, ◌++◌, map, length, Some, refl, sym, ap, ◌∙◌, subst, arith, Contains}
use Rattle.std.specs.Prelude.{slice_get, IsSomeAnd, ◌↔◌}
use Rattle.std.specs.List.{AllByRecursion, AllZip, All, flat_map}
use Rattle.std.proofs.lemmas.Bool.{cases_lt}
use Rattle.std.proofs.lemmas.List.{length-map, length-append}
use Rattle.std.proofs.lemmas.List.Elements.{All-from_recursion, recursion_from_All}
use Rattle.fab_base.specs.Principals.{Leads}
use Rattle.fab_base.proofs.Lists.{at_index, all_along}
use Rattle.fab_tree.specs.declared.resolved.Use.{Use}
use Rattle.fab_tree.specs.declared.resolved.Method.{Method}
use Rattle.fab_tree.specs.declared.resolved.Resolved.{Resolved}
use Rattle.fab_tree.specs.declared.start.Start.{Start}
use Rattle.fab_language.specs.MethodNumbers.{in_turn}
use Rattle.fab_language.specs.Numbers.{label_of, resolved}
use Rattle.fab_labelling.specs.declared.rule.Refusal.{Refusal}
use Rattle.fab_labelling.specs.Claims.{called_in, calls_from, Holds, IsWellLabelled}
use Rattle.fab_labelling.specs.Obligations.{Claim, flows, conf, nowhere, declassifies, endorses, holds, answers_for, Owed, authority_of, owed}
use Rattle.fab_labelling.specs.Refusals.{IsFirstRefusal}
use Rattle.fab_labelling.proofs.OneRefusal.{one_refusal}
use Rattle.fab_holes.specs.Holes.{holes, filled, IsNamed}
use Rattle.fab_holes.specs.Open.{opened_method, opened, renamed_method, renamed, renamed_claim}
use Rattle.fab_holes.specs.Least.{count, Goes, IsLeast, AreLeast, chosen_label, IsChoice, Solves, IsSolved, HasNoLeast, HasNoSolution}
use Rattle.fab_holes.proofs.Choosing.{HoldsFor, AllHoldFor, IsWithin, stays_below, slice_some, least_at, least_solve, each_lower}
use Rattle.fab_holes.proofs.Conditions.{fine, gives, stay, within}
use Rattle.fab_holes.proofs.Numbering.{many, numbering, all_opened}
use Rattle.fab_holes.proofs.Renaming.{Both}
use Rattle.fab_holes.proofs.Whole.{whole}

-- ---- what holds doesn't look at the locals of methods

-- methods of the same bodies and authorities
abbrev Alike : List Method → List Method → Type 0
Alike [] [] = Unit {0}
Alike [] (y ∷ ys) = ⊥
Alike (x ∷ xs) [] = ⊥
Alike (x ∷ xs) (y ∷ ys) = (x.body ≡ y.body) × (x.authority ≡ y.authority) × Alike xs ys

alike_back : (xs ys : List Method) → Alike xs ys → Alike ys xs
alike_back [] [] h = tt
alike_back [] (y ∷ ys) h = absurd h
alike_back (x ∷ xs) [] h = absurd h
alike_back (x ∷ xs) (y ∷ ys) h = (sym h.0, sym h.1, alike_back xs ys h.2)

alike_opened : (n : ℕ) (f : ℕ → ℕ) (xs : List Method) (h : ℕ) → Alike (map (renamed_method f) (in_turn (map (opened_method n) xs) h).0) xs
alike_opened n f [] h = tt
alike_opened n f (x ∷ xs) h = (refl, refl, alike_opened n f xs (opened_method n x h).1)

calls_alike : (n : ℕ) (xs ys : List Method) → Alike xs ys → calls_from n xs ≡ calls_from n ys
calls_alike n [] [] h = refl
calls_alike n [] (y ∷ ys) h = absurd h
calls_alike n (x ∷ xs) [] h = absurd h
calls_alike n (x ∷ xs) (y ∷ ys) h = λ i. map (λ k. (n, k)) (flat_map called_in (h.0 i)) ++ calls_alike (suc n) xs ys h.2 i

authority_alike : (xs ys : List Method) (n p : ℕ) → Alike xs ys → IsSomeAnd (slice_get xs n) (λ m. Contains (authority_of m) p) → IsSomeAnd (slice_get ys n) (λ m. Contains (authority_of m) p)
authority_alike [] [] n p h is = is
authority_alike [] (y ∷ ys) n p h is = absurd h
authority_alike (x ∷ xs) [] n p h is = absurd h
authority_alike (x ∷ xs) (y ∷ ys) zero p h is = subst (λ (ps : List Use). Contains (map (λ (u : Use). u.number) ps) p) h.1 is
authority_alike (x ∷ xs) (y ∷ ys) (suc n) p h is = authority_alike xs ys n p h.2 is

holds_alike : (r : Resolved) (ms : List Method) → Alike r.methods ms → (c : Claim) → Holds r c → Holds (record r { methods = ms }) c
holds_alike r ms h (flows a b) is = is
holds_alike r ms h (conf a b) is = is
holds_alike r ms h (nowhere a) is = is
holds_alike r ms h (declassifies a b ps) is = is
holds_alike r ms h (endorses a b ps) is = is
holds_alike r ms h (holds store class) is = is
holds_alike r ms h (answers_for worker method p) is = λ n reaches has.
    is n (subst (λ calls. (way : List ℕ) × Leads calls method way n) (sym (calls_alike 0 r.methods ms h)) reaches) (authority_alike ms r.methods n p (alike_back r.methods ms h) has)

-- ---- the least of a hole is one

pub least_same : (r : Resolved) (h k j : ℕ) → IsLeast r h k → IsLeast r h j → k ≡ j
least_same r h k j a b = elim (cases_lt k j) [
  | inl before ↦ absurd (b.1 k before a.0)
  | inr after ↦ elim (cases_lt j k) [
    | inl before ↦ absurd (a.1 j before b.0)
    | inr back ↦ omega (arith, after, back)
  ]
]

pub all_same : (r : Resolved) (h : ℕ) (ks js : List ℕ) → AreLeast r h ks → AreLeast r h js → length ks ≡ length js → ks ≡ js
all_same r h [] [] a b e = refl
all_same r h [] (j ∷ js) a b e = absurd (omega (arith, e))
all_same r h (k ∷ ks) [] a b e = absurd (omega (arith, e))
all_same r h (k ∷ ks) (j ∷ js) a b e = λ i. least_same r h k j a.0 b.0 i ∷ all_same r (suc h) ks js a.1 b.1 (omega (arith, e)) i

-- one more
more_least : (r : Resolved) (h : ℕ) (ks : List ℕ) (k : ℕ) → AreLeast r h ks → IsLeast r (h + length ks) k → AreLeast r h (ks ++ k ∷ [])
more_least r h [] k a b = (subst (λ z. IsLeast r z k) (by (h + 0) refl) b, tt)
  where
    by : (m : ℕ) → m ≡ h + 0 → m ≡ h
    by m e = omega (arith, e)
more_least r h (x ∷ ks) k a b = (a.0, more_least r (suc h) ks k a.1 (subst (λ z. IsLeast r z k) (by (h + suc (length ks)) (suc h + length ks) refl refl) b))
  where
    by : (m n : ℕ) → m ≡ h + suc (length ks) → n ≡ suc h + length ks → m ≡ n
    by m n e f = omega (arith, e, f)

-- the least of the hole of a number, in a list of the leasts of all
pub least_of : (r : Resolved) (ks : List ℕ) (i : ℕ) → AreLeast r 0 ks → i < length ks → (k : ℕ) × IsLeast r i k
least_of r ks i a inside =
    let s = slice_some ks i inside in
    (s.0, subst (λ z. IsLeast r z s.0) (by (0 + i) refl) (least_at r 0 ks i s.0 a s.1))
  where
    by : (m : ℕ) → m ≡ 0 + i → m ≡ i
    by m e = omega (arith, e)

-- ---- which choices solve

module _ (start : Start) (named : IsNamed start) where
  abbrev r : Resolved
  r = resolved start

  module _ (choice : List ℕ) (is : IsChoice start choice) where
    abbrev f : ℕ → ℕ
    f = chosen_label (many start) choice

    abbrev then : Resolved
    then = renamed f (opened r)

    bound : length (holes start) ≤ length choice
    bound = let e = is.many in omega (arith, e)

    pub numbered : resolved (filled start choice) ≡ then
    numbered = numbering start choice (gives start named choice is) (fine start named) bound

    stays_whole : Both f (Holds then) (owed (opened r)) (owed then)
    stays_whole = whole f (Holds then) (opened r) (stay start named f (λ l h. stays_below (many start) choice l h))

    same_bodies : Alike then.methods r.methods
    same_bodies = alike_opened (many start) f r.methods 0

    pub to_holds : Solves start choice → AllHoldFor r choice
    to_holds solves =
        let all = recursion_from_All (λ (x : Owed). Holds then x.claim) (owed then) (subst IsWellLabelled numbered solves) in
        all_along (λ (x : Owed). Holds then (renamed_claim f x.claim)) (λ (x : Owed). HoldsFor r choice x.claim) (λ x h. holds_alike then r.methods same_bodies (renamed_claim f x.claim) h) (owed (opened r)) (stays_whole.back all)

    pub from_holds : AllHoldFor r choice → Solves start choice
    from_holds all =
        let there = all_along (λ (x : Owed). HoldsFor r choice x.claim) (λ (x : Owed). Holds then (renamed_claim f x.claim)) (λ x h. holds_alike r then.methods (alike_back then.methods r.methods same_bodies) (renamed_claim f x.claim) h) (owed (opened r)) all in
        subst IsWellLabelled (sym numbered) (All-from_recursion (λ (x : Owed). Holds then x.claim) (owed then) (stays_whole.to there))

    -- by the place of what is owed
    pub meets_what_is_owed : Solves start choice ↔ All (λ (x : Owed). Holds r (renamed_claim f x.claim)) (owed (opened r))
    meets_what_is_owed = (
      λ solves. All-from_recursion (λ (x : Owed). Holds r (renamed_claim f x.claim)) (owed (opened r)) (to_holds solves),
      λ all. from_holds (recursion_from_All (λ (x : Owed). Holds r (renamed_claim f x.claim)) (owed (opened r)) all),
    )

    declared : AllByRecursion (λ k. k < count r) choice
    declared = all_along (λ k. k < length start.program.labels) (λ k. k < count r) (λ k h. subst (λ n. k < n) (sym (length-map start.program.labels (label_of start))) h) choice is.declared

  module _ (choice : List ℕ) (is : IsChoice start choice) (least : AreLeast r 0 choice) where
    within_all : AllByRecursion (λ (x : Owed). IsWithin (count r + length choice) x.claim) (owed (opened r))
    within_all = within start named (length choice) (by (all_opened start choice (gives start named choice is) (fine start named) (bound choice is)))
      where
        by : (in_turn (map (opened_method (many start)) (resolved start).methods) 0).1 ≡ length (holes start) → (in_turn (map (opened_method (many start)) (resolved start).methods) 0).1 ≤ length choice
        by e = let m = is.many in omega (arith, e, m)

    module _ (other : List ℕ) (also : IsChoice start other) (solves : Solves start other) where
      as_many : length other ≡ length choice
      as_many = also.many ∙ sym is.many

      -- where some choice solves, the least solve
      pub they_solve : Solves start choice
      they_solve = from_holds choice is (least_solve r choice least within_all other as_many (declared other also) (to_holds other also solves))

      -- and each flows to what the other has there
      pub lie_below : AllZip (Goes r) choice other
      lie_below = each_lower r choice least within_all other as_many (declared other also) (to_holds other also solves)

    pub solved : Solves start choice → IsSolved start choice
    solved solves = record { is_choice = is; least = least; solves = solves; below = lie_below }

    refusal_breaks : (x : Refusal) → IsFirstRefusal (resolved (filled start choice)) x → Solves start choice → ⊥
    refusal_breaks x first solves =
        let s = resolved (filled start choice) in
        first.broken (at_index (λ (y : Owed). Holds s y.claim) (owed s) first.i first.x (recursion_from_All (λ (y : Owed). Holds s y.claim) (owed s) solves) first.is)

    pub refused : (x : Refusal) → IsFirstRefusal (resolved (filled start choice)) x → HasNoSolution start x
    refused x first = record { choice = choice; is_choice = is; least = least; refused = first; none = λ other also solves. refusal_breaks x first (they_solve other also solves) }

-- ---- one answer

module _ (start : Start) where
  abbrev s : Resolved
  s = resolved start

  pub one_choice : (c d : List ℕ) → IsSolved start c → IsSolved start d → c ≡ d
  one_choice c d a b = all_same s 0 c d a.least b.least (a.is_choice.many ∙ sym b.is_choice.many)

  place_inside : (xs : List ℕ) (i at : ℕ) → slice_get xs i ≡ Some at → i < length xs
  place_inside [] i at e = absurd (cc)
  place_inside (x ∷ xs) zero at e = omega arith
  place_inside (x ∷ xs) (suc i) at e = let h = place_inside xs i at e in omega (arith, h)

  -- where all have one no hole is without
  all_have : (c : List ℕ) (at : ℕ) → IsChoice start c → AreLeast s 0 c → HasNoLeast start at → ⊥
  all_have c at is least h =
      let inside = place_inside (holes start) (length h.before) at h.place in
      let k = least_of s c (length h.before) least (subst (λ z. length h.before < z) (sym is.many) inside) in
      h.none k.0 k.1

  pub not_both : (c : List ℕ) (at : ℕ) → IsSolved start c → HasNoLeast start at → ⊥
  not_both c at a h = all_have c at a.is_choice a.least h

  pub not_either : (at : ℕ) (x : Refusal) → HasNoLeast start at → HasNoSolution start x → ⊥
  not_either at x h b = all_have b.choice at b.is_choice b.least h

  pub not_neither : (c : List ℕ) (x : Refusal) → IsSolved start c → HasNoSolution start x → ⊥
  not_neither c x a b = b.none c a.is_choice a.solves

  pub one_place : (a b : ℕ) → HasNoLeast start a → HasNoLeast start b → a ≡ b
  one_place a b h g = elim (cases_lt (length h.before) (length g.before)) [
    | inl less ↦ let k = least_of s g.before (length h.before) g.least less in absurd (h.none k.0 k.1)
    | inr more ↦ elim (cases_lt (length g.before) (length h.before)) [
      | inl less ↦ let k = least_of s h.before (length g.before) h.least less in absurd (g.none k.0 k.1)
      | inr back ↦
          let e : length h.before ≡ length g.before = omega (arith, more, back) in
          let same : Some a ≡ Some b = sym h.place ∙ ap (slice_get (holes start)) e ∙ g.place in cc
    ]
  ]

  pub one_reason : (x y : Refusal) → HasNoSolution start x → HasNoSolution start y → x ≡ y
  one_reason x y a b =
      let e = all_same s 0 a.choice b.choice a.least b.least (a.is_choice.many ∙ sym b.is_choice.many) in
      one_refusal (resolved (filled start b.choice)) x y (subst (λ c. IsFirstRefusal (resolved (filled start c)) x) e a.refused) b.refused

  -- so many holes, from the first, have a least label; to find one is told as not to find none
  abbrev Found : ℕ → Type 0
  Found n = ((ks : List ℕ) → length ks ≡ n → AreLeast s 0 ks → ⊥) → ⊥

  found : (n : ℕ) → n ≤ length (holes start) → ((at : ℕ) → HasNoLeast start at → ⊥) → Found n
  found zero l none = λ stop. stop [] refl tt
  found (suc n) l none = λ stop. found n (omega (arith, l)) none (λ ks long least.
      let place = slice_some (holes start) (length ks) (inside (length ks) long) in
      none place.0 (record {
        before = ks;
        least = least;
        none = λ k is. stop (ks ++ k ∷ []) (longer ks k long) (more_least s 0 ks k least (subst (λ z. IsLeast s z k) (same (0 + length ks) (length ks) refl) is));
        place = place.1;
      }))
    where
      inside : (m : ℕ) → m ≡ n → m < length (holes start)
      inside m e = omega (arith, e, l)

      longer : (ks : List ℕ) (k : ℕ) → length ks ≡ n → length (ks ++ k ∷ []) ≡ suc n
      longer ks k e = let t = length-append ks (k ∷ []) in omega (arith, e, t)

      same : (a b : ℕ) → a ≡ 0 + b → b ≡ a
      same a b e = omega (arith, e)

  least_declared : (h : ℕ) (ks : List ℕ) → AreLeast s h ks → AllByRecursion (λ k. k < length start.program.labels) ks
  least_declared h [] a = tt
  least_declared h (k ∷ ks) a = (subst (λ n. k < n) (length-map start.program.labels (label_of start)) a.0.0.0.0, least_declared (suc h) ks a.1)

  -- a list of leasts for all holes is a choice
  pub is_a_choice : (c : List ℕ) → length c ≡ length (holes start) → AreLeast s 0 c → IsChoice start c
  is_a_choice c many a = record { many = many; declared = least_declared 0 c a }

  pub each_has : ((at : ℕ) → HasNoLeast start at → ⊥) → ((c : List ℕ) → IsChoice start c → AreLeast s 0 c → ⊥) → ⊥
  each_has none stop = found (length (holes start)) (omega arith) none (λ c many a. stop c (is_a_choice c many a) a)
