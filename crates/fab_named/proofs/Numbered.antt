-- Workers and stores are numbered in order from 0, and no number is left out.
use Rattle.std.proofs.Common.{◌≡◌, ℕ, zero, suc, ◌+◌, ◌<◌, ◌≤◌, ◌==◌, ◌⊎◌, inl, inr, Bool, true, false, cond, List, [], ◌∷◌, take, Some, None, is_some, IsSome, find, count_by, refl, sym, ap, ◌∙◌, subst, arith}
use Rattle.std.proofs.lemmas.Bool.{true≢false, false≢true, eq-eqb, eqb-true, cases_lt}
use Rattle.std.proofs.lemmas.List.Sums.{sum_by-cons}
use Rattle.fab_tree.specs.declared.name.Name.{Name}
use Rattle.fab_tree.specs.declared.declaration.Node.{Node}
use Rattle.fab_tree.specs.declared.resolved.Principal.{Principal}
use Rattle.fab_tree.specs.Limits.{is_node}
use Rattle.fab_language.specs.Names.{named, number_of, is_same_name, node_name}
use Rattle.fab_language.specs.Numbers.{principal_of, principals_from}
use Rattle.fab_language.specs.Uses.{nodes_before}
use Rattle.fab_language.specs.Words.{has_number}

-- how many of these have a number
abbrev pub numbered : List Principal → ℕ
numbered xs = count_by (λ x. is_some x.node) xs

-- how many of these are workers or stores
abbrev pub nodes_in : List Node → ℕ
nodes_in xs = count_by (λ x. is_node x.role) xs

-- one of these has this number
abbrev pub IsAmong : List Principal → ℕ → Type 0
IsAmong xs n = IsSome (find (λ x. has_number n x.node) xs)

nodes_in-cons : (x : Node) (xs : List Node) → nodes_in (x ∷ xs) ≡ cond (is_node x.role) (suc (nodes_in xs)) (nodes_in xs)
nodes_in-cons x xs = sum_by-cons (λ (w : Node). cond (is_node w.role) 1 0) x xs ∙ by (is_node x.role)
  where
    by : (b : Bool) → cond b 1 0 + nodes_in xs ≡ cond b (suc (nodes_in xs)) (nodes_in xs)
    by true = omega arith
    by false = omega arith

nodes_before-cons : (n : ℕ) (x : Node) (xs : List Node) → nodes_before (suc n) (x ∷ xs) ≡ cond (is_node x.role) (suc (nodes_before n xs)) (nodes_before n xs)
nodes_before-cons n x xs = nodes_in-cons x (take n xs)

-- each worker and store has a number, and nobody else
numbered_is : (k : ℕ) (xs : List Node) → numbered (principals_from k xs) ≡ nodes_in xs
numbered_is k [] = refl
numbered_is k (x ∷ xs) =
    sum_by-cons (λ (w : Principal). cond (is_some w.node) 1 0) (principal_of k x) (principals_from (cond (is_node x.role) (suc k) k) xs)
    ∙ by (is_node x.role) (λ j. numbered_is j xs) ∙ sym (nodes_in-cons x xs)
  where
    by : (b : Bool) → ((j : ℕ) → numbered (principals_from j xs) ≡ nodes_in xs)
        → cond (is_some (cond b (Some k) None)) 1 0 + numbered (principals_from (cond b (suc k) k) xs) ≡ cond b (suc (nodes_in xs)) (nodes_in xs)
    by true same = let later = same (suc k) in omega (arith, later)
    by false same = let later = same k in omega (arith, later)

-- ---- the numbers are those below the count

next : (k n : ℕ) → (n == k) ≡ false → k ≤ n → suc k ≤ n
next k n e low = by (cases_lt k n)
  where
    by : (k < n) ⊎ (n ≤ k) → suc k ≤ n
    by (inl h) = h
    by (inr h) = let same : n ≡ k = omega (arith, h, low) in absurd (true≢false (sym (eq-eqb n k same) ∙ e))

below_among : (xs : List Node) (k n : ℕ) → k ≤ n → n < k + nodes_in xs → IsAmong (principals_from k xs) n
below_among [] k n low high = absurd (omega (arith, low, high))
below_among (x ∷ xs) k n low high = by (is_node x.role) (subst (λ c. n < k + c) (nodes_in-cons x xs) high) (λ j. below_among xs j n)
  where
    at : (b : Bool) → (n == k) ≡ b → n < k + suc (nodes_in xs) → ((j : ℕ) → j ≤ n → n < j + nodes_in xs → IsAmong (principals_from j xs) n)
        → is_some (cond b (Some (principal_of k x)) (find (λ y. has_number n y.node) (principals_from (suc k) xs))) ≡ true
    at true e h later = refl
    at false e h later = later (suc k) (next k n e low) (omega (arith, h))

    by : (b : Bool) → n < k + cond b (suc (nodes_in xs)) (nodes_in xs) → ((j : ℕ) → j ≤ n → n < j + nodes_in xs → IsAmong (principals_from j xs) n)
        → is_some (cond (has_number n (cond b (Some k) None)) (Some (principal_of k x)) (find (λ y. has_number n y.node) (principals_from (cond b (suc k) k) xs))) ≡ true
    by true h later = at (n == k) refl h later
    by false h later = later k low h

among_below : (xs : List Node) (k n : ℕ) → IsAmong (principals_from k xs) n → n < k + nodes_in xs
among_below [] k n h = absurd (false≢true h)
among_below (x ∷ xs) k n h = subst (λ c. n < k + c) (sym (nodes_in-cons x xs)) (by (is_node x.role) h (λ j. among_below xs j n))
  where
    at : (b : Bool) → (n == k) ≡ b → is_some (cond b (Some (principal_of k x)) (find (λ y. has_number n y.node) (principals_from (suc k) xs))) ≡ true
        → ((j : ℕ) → IsAmong (principals_from j xs) n → n < j + nodes_in xs) → n < k + suc (nodes_in xs)
    at true e g later = let same = eqb-true n k e in omega (arith, same)
    at false e g later = let most = later (suc k) g in omega (arith, most)

    by : (b : Bool) → is_some (cond (has_number n (cond b (Some k) None)) (Some (principal_of k x)) (find (λ y. has_number n y.node) (principals_from (cond b (suc k) k) xs))) ≡ true
        → ((j : ℕ) → IsAmong (principals_from j xs) n → n < j + nodes_in xs) → n < k + cond b (suc (nodes_in xs)) (nodes_in xs)
    by true g later = at (n == k) refl g later
    by false g later = later k g

-- counted from 0, a number is a worker's or store's exactly where it is below their count
pub has_node : (xs : List Node) (n : ℕ) → n < numbered (principals_from 0 xs) → IsAmong (principals_from 0 xs) n
has_node xs n h = let same = numbered_is 0 xs in below_among xs 0 n (omega arith) (omega (arith, h, same))

pub is_below : (xs : List Node) (n : ℕ) → IsAmong (principals_from 0 xs) n → n < numbered (principals_from 0 xs)
is_below xs n h = let same = numbered_is 0 xs in let most = among_below xs 0 n h in omega (arith, most, same)

-- ---- the number of a name

-- a name that stands for a worker or store has a number below the count
name_below : (xs : List Node) (x : Name) (y : Node) → named node_name xs x ≡ Some y → is_node y.role ≡ true → nodes_before (number_of node_name xs x) xs < nodes_in xs
name_below [] x y e of = absurd (cc)
name_below (z ∷ zs) x y e of = by (is_same_name z.name x) e (λ h. name_below zs x y h of)
  where
    behind : (b : Bool) (i c : ℕ) → i < c → cond b (suc i) i < cond b (suc c) c
    behind true i c h = omega (arith, h)
    behind false i c h = h

    by : (b : Bool) → cond b (Some z) (named node_name zs x) ≡ Some y
        → (named node_name zs x ≡ Some y → nodes_before (number_of node_name zs x) zs < nodes_in zs)
        → nodes_before (cond b zero (suc (number_of node_name zs x))) (z ∷ zs) < nodes_in (z ∷ zs)
    by true h later =
        let same : z ≡ y = cc in
        let one : is_node z.role ≡ true = ap (λ (w : Node). is_node w.role) same ∙ of in
        let count = nodes_in-cons z zs ∙ ap (λ b. cond b (suc (nodes_in zs)) (nodes_in zs)) one in
        omega (arith, count)
    by false h later =
        let i = number_of node_name zs x in
        subst (λ c. nodes_before (suc i) (z ∷ zs) < c) (sym (nodes_in-cons z zs))
        (subst (λ c. c < cond (is_node z.role) (suc (nodes_in zs)) (nodes_in zs)) (sym (nodes_before-cons i z zs))
        (behind (is_node z.role) (nodes_before i zs) (nodes_in zs) (later h)))

pub name_among : (xs : List Node) (x : Name) (y : Node) → named node_name xs x ≡ Some y → is_node y.role ≡ true
    → IsAmong (principals_from 0 xs) (nodes_before (number_of node_name xs x) xs)
name_among xs x y e of = let most = name_below xs x y e of in below_among xs 0 _ (omega arith) (omega (arith, most))
