-- Lists: what holds of each element, of two lists, of what passes a test, of what is made; lists that are empty together; counts and places.
use Rattle.std.proofs.Common.{◌≡◌, ℕ, zero, suc, ◌+◌, ◌<◌, ◌≤◌, Bool, true, false, ◌||◌, cond, List, [], ◌∷◌, ◌++◌, map, length, drop, get_or, drop-cons, add-one, Some, append-nil, refl, sym, ap, ◌∙◌, subst, arith}
use Rattle.std.specs.Prelude.{slice_get}
use Rattle.std.specs.List.{filter, flat_map, list_any, range_with_len, AllByRecursion, All, Contains}
use Rattle.std.proofs.lemmas.List.Sums.{length-filter, count_by-le-length}
use Rattle.std.proofs.lemmas.List.Elements.{All-tail, filter-append}

pub all_append : {A : Type 0} (P : A → Type 0) (xs ys : List A) → AllByRecursion P xs → AllByRecursion P ys → AllByRecursion P (xs ++ ys)
all_append P [] ys h g = g
all_append P (x ∷ xs) ys h g = (h.0, all_append P xs ys h.1 g)

pub all_split : {A : Type 0} (P : A → Type 0) (xs ys : List A) → AllByRecursion P (xs ++ ys) → AllByRecursion P xs × AllByRecursion P ys
all_split P [] ys h = (tt, h)
all_split P (x ∷ xs) ys h = let g = all_split P xs ys h.1 in ((h.0, g.0), g.1)

pub all_filter : {A : Type 0} (P : A → Type 0) (test : A → Bool) (xs : List A) → AllByRecursion P xs → AllByRecursion P (filter test xs)
all_filter P test [] h = tt
all_filter P test (x ∷ xs) h =
    elim (test x) as (λ b. AllByRecursion P (cond b (x ∷ filter test xs) (filter test xs))) [
      | true ↦ (h.0, all_filter P test xs h.1)
      | false ↦ all_filter P test xs h.1
    ]

-- what is kept passed the test
pub all_passed : {A : Type 0} (P Q : A → Type 0) (test : A → Bool) → ((x : A) → P x → test x ≡ true → Q x) → (xs : List A)
    → AllByRecursion P xs → AllByRecursion Q (filter test xs)
all_passed P Q test f [] h = tt
all_passed P Q test f (x ∷ xs) h =
    elim (test x) as (λ b. test x ≡ b → AllByRecursion Q (cond b (x ∷ filter test xs) (filter test xs))) [
      | true ↦ λ e. (f x h.0 e, all_passed P Q test f xs h.1)
      | false ↦ λ e. all_passed P Q test f xs h.1
    ] refl

pub all_along : {A : Type 0} (P Q : A → Type 0) → ((x : A) → P x → Q x) → (xs : List A) → AllByRecursion P xs → AllByRecursion Q xs
all_along P Q f [] h = tt
all_along P Q f (x ∷ xs) h = (f x h.0, all_along P Q f xs h.1)

pub all_two : {A : Type 0} (P Q S : A → Type 0) → ((x : A) → P x → Q x → S x) → (xs : List A) → AllByRecursion P xs → AllByRecursion Q xs
    → AllByRecursion S xs
all_two P Q S f [] h g = tt
all_two P Q S f (x ∷ xs) h g = (f x h.0 g.0, all_two P Q S f xs h.1 g.1)

pub all_map : {A B : Type 0} (P : B → Type 0) (f : A → B) (xs : List A) → AllByRecursion (λ x. P (f x)) xs → AllByRecursion P (map f xs)
all_map P f [] h = tt
all_map P f (x ∷ xs) h = (h.0, all_map P f xs h.1)

pub all_of_map : {A B : Type 0} (P : B → Type 0) (f : A → B) (xs : List A) → AllByRecursion P (map f xs) → AllByRecursion (λ x. P (f x)) xs
all_of_map P f [] h = tt
all_of_map P f (x ∷ xs) h = (h.0, all_of_map P f xs h.1)

pub all_flat : {A B : Type 0} (P : B → Type 0) (f : A → List B) (xs : List A) → AllByRecursion (λ x. AllByRecursion P (f x)) xs
    → AllByRecursion P (flat_map f xs)
all_flat P f [] h = tt
all_flat P f (x ∷ xs) h = all_append P (f x) (flat_map f xs) h.0 (all_flat P f xs h.1)

pub all_always : {A : Type 0} (P : A → Type 0) → ((x : A) → P x) → (xs : List A) → AllByRecursion P xs
all_always P f [] = tt
all_always P f (x ∷ xs) = (f x, all_always P f xs)

-- ---- elements

pub all_by_recursion : {A : Type 0} (P : A → Type 0) (xs : List A) → All P xs → AllByRecursion P xs
all_by_recursion P [] h = tt
all_by_recursion P (x ∷ xs) h = (h 0 x (omega arith), all_by_recursion P xs (All-tail P x xs h))

-- what holds of each holds of one that a list has
pub all_at : {A : Type 0} (P : A → Type 0) (xs : List A) (x : A) → AllByRecursion P xs → Contains xs x → P x
all_at P [] x h (k, low, is) = absurd (omega (arith, low))
all_at P (y ∷ ys) x h (zero, low, is) = subst P is h.0
all_at P (y ∷ ys) x h (suc k, low, is) = all_at P ys x h.1 (k, omega (arith, low), is)

pub behind_head : {A : Type 0} (y : A) (ys : List A) (x : A) → Contains ys x → Contains (y ∷ ys) x
behind_head y ys x (k, low, is) = (suc k, omega (arith, low), is)

pub at_head : {A : Type 0} (x : A) (xs : List A) → Contains (x ∷ xs) x
at_head x xs = (0, omega arith, refl)

-- and what holds of those that a list has holds of each
pub all_from : {A : Type 0} (P : A → Type 0) (xs : List A) → ((x : A) → Contains xs x → P x) → AllByRecursion P xs
all_from P [] f = tt
all_from P (x ∷ xs) f = (f x (at_head x xs), all_from P xs (λ y c. f y (behind_head x xs y c)))

pub at_index : {A : Type 0} (P : A → Type 0) (xs : List A) (i : ℕ) (x : A) → AllByRecursion P xs → slice_get xs i ≡ Some x → P x
at_index P [] i x h e = absurd (cc)
at_index P (y ∷ ys) zero x h e = let s : y ≡ x = cc in subst P s h.0
at_index P (y ∷ ys) (suc i) x h e = at_index P ys i x h.1 e

-- ---- lists that are empty together

pub left_nil : {A : Type 0} (xs ys : List A) → xs ++ ys ≡ [] → xs ≡ []
left_nil [] ys e = refl
left_nil (x ∷ xs) ys e = absurd (omega (arith, ap length e))

pub right_nil : {A : Type 0} (xs ys : List A) → xs ++ ys ≡ [] → ys ≡ []
right_nil [] ys e = e
right_nil (x ∷ xs) ys e = absurd (omega (arith, ap length e))

-- lists made of each element that are empty together are empty each
pub each_nil : {X A : Type 0} (f : X → List A) (xs : List X) → flat_map f xs ≡ [] → AllByRecursion (λ x. f x ≡ []) xs
each_nil f [] e = tt
each_nil f (x ∷ xs) e = (left_nil (f x) (flat_map f xs) e, each_nil f xs (right_nil (f x) (flat_map f xs) e))

-- ---- counts and places

pub few_pass : {A : Type 0} (test : A → Bool) (xs : List A) → length (filter test xs) ≤ length xs
few_pass test xs = omega (arith, length-filter test xs, count_by-le-length test xs)

-- a list from a place in it on
pub front_at : {A : Type 0} (xs : List A) (i : ℕ) (d : A) → i < length xs → drop i xs ≡ get_or xs i d ∷ drop (i + 1) xs
front_at {A} xs i d within = drop-cons xs i d within ∙ ap (λ (j : ℕ). get_or xs i d ∷ drop j xs) (sym (add-one i))

-- one number more in a row
pub range_more : (a n : ℕ) → range_with_len a (suc n) ≡ range_with_len a n ++ (a + n) ∷ []
range_more a zero = let here : a ≡ a + 0 = omega arith in ap (λ (k : ℕ). k ∷ []) here
range_more a (suc n) =
    let last : (a + 1) + n ≡ a + suc n = omega arith in
    ap (λ (ks : List ℕ). a ∷ ks) (range_more (a + 1) n ∙ ap (λ (k : ℕ). range_with_len (a + 1) n ++ k ∷ []) last)

pub some_same : {A : Type 0} (x y : A) → Some x ≡ Some y → x ≡ y
some_same x y e = cc

-- what no list of faults says
pub true_if_empty : {A : Type 0} (b : Bool) (x : A) → cond b [] (x ∷ []) ≡ [] → b ≡ true
true_if_empty true x e = refl
true_if_empty false x e = absurd (omega (arith, ap length e))

pub any_map : {A B : Type 0} (p : B → Bool) (f : A → B) (xs : List A) → list_any p (map f xs) ≡ list_any (λ x. p (f x)) xs
any_map p f [] = refl
any_map p f (x ∷ xs) = ap (λ b. p (f x) || b) (any_map p f xs)

-- ---- the numbers below one more that pass a test

one_behind : (test : ℕ → Bool) (n : ℕ) → filter test (range_with_len 0 (n + 1)) ≡ filter test (range_with_len 0 n) ++ filter test (n ∷ [])
one_behind test n =
    let here : 0 + n ≡ n = omega arith in
    let next : n + 1 ≡ suc n = omega arith in
    ap (λ k. filter test (range_with_len 0 k)) next
    ∙ ap (filter test) (range_more 0 n ∙ ap (λ k. range_with_len 0 n ++ k ∷ []) here) ∙ filter-append test (range_with_len 0 n) (n ∷ [])

pub one_kept : (test : ℕ → Bool) (n : ℕ) → test n ≡ true → filter test (range_with_len 0 (n + 1)) ≡ filter test (range_with_len 0 n) ++ n ∷ []
one_kept test n passes =
    let one : filter test (n ∷ []) ≡ n ∷ [] = rw passes refl in
    one_behind test n ∙ ap (λ (ks : List ℕ). filter test (range_with_len 0 n) ++ ks) one

pub none_kept : (test : ℕ → Bool) (n : ℕ) → test n ≡ false → filter test (range_with_len 0 (n + 1)) ≡ filter test (range_with_len 0 n)
none_kept test n fails =
    let none : filter test (n ∷ []) ≡ [] = rw fails refl in
    one_behind test n ∙ ap (λ (ks : List ℕ). filter test (range_with_len 0 n) ++ ks) none ∙ append-nil (filter test (range_with_len 0 n))
