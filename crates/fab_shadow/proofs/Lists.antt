-- Lists: filters, maps, names each once, numbers in order, and the first row of a name.
use Rattle.std.proofs.Common.{◌≡◌, inl, inr, ℕ, ◌<◌, ◌≤◌, Bool, true, false, ◌&&◌, ◌||◌, cond}
use Rattle.std.proofs.Common.{List, [], ◌∷◌, ◌++◌, map, length, Option, Some, None, refl, sym, ap, ◌∙◌, subst, arith}
use Rattle.std.specs.Prelude.{◌==◌, nat_lt, if◌then◌else◌, option_map, fold}
use Rattle.std.specs.List.{filter, filter_map, cons_option, AllByRecursion}
use Rattle.std.proofs.lemmas.Bool.{both_ways, eqb-true, eqb-false, ltb-true, ltb-false, lt-ltb, ne_eqb}
use Rattle.fab_base.specs.declared.object.Oid.{Oid}
use Rattle.fab_base.specs.FlatMap.{is_among, is_same}
use Rattle.fab_base.proofs.NameOrder.{one_name}
use Rattle.fab_base.proofs.Lists.{all_filter}
use Rattle.fab_language.specs.Heaps.{each_once, without}
use Rattle.fab_protocol.specs.Parts.{with_number}
use Rattle.fab_protocol.specs.Tables.{row_of}
use Rattle.fab_integrity.proofs.Invariant.{In}

-- a test that chooses between the same chooses nothing
pub cond_same : {A : Type 0} (b : Bool) (x : A) → cond b x x ≡ x
cond_same true x = refl
cond_same false x = refl

-- ---- filters and maps

filter_map_step : {A B : Type 0} (q : B → Bool) (f : A → B) (x : A) (xs : List A) → filter q (map f xs) ≡ map f (filter (λ y. q (f y)) xs)
    → (b : Bool) → cond b (f x ∷ filter q (map f xs)) (filter q (map f xs)) ≡ map f (cond b (x ∷ filter (λ y. q (f y)) xs) (filter (λ y. q (f y)) xs))
filter_map_step q f x xs same true = ap (λ ys. f x ∷ ys) same
filter_map_step q f x xs same false = same

pub filter_of_map : {A B : Type 0} (q : B → Bool) (f : A → B) (xs : List A) → filter q (map f xs) ≡ map f (filter (λ y. q (f y)) xs)
filter_of_map q f [] = refl
filter_of_map q f (x ∷ xs) = filter_map_step q f x xs (filter_of_map q f xs) (q (f x))

pub map_twice : {A B C : Type 0} (f : B → C) (g : A → B) (xs : List A) → map f (map g xs) ≡ map (λ x. f (g x)) xs
map_twice f g [] = refl
map_twice f g (x ∷ xs) = ap (λ ys. f (g x) ∷ ys) (map_twice f g xs)

pub map_itself : {A : Type 0} (xs : List A) → map (λ x. x) xs ≡ xs
map_itself [] = refl
map_itself (x ∷ xs) = ap (λ ys. x ∷ ys) (map_itself xs)

-- where two functions give the same of each element
pub map_agree : {A B : Type 0} (f g : A → B) (xs : List A) → ((x : A) → In x xs → f x ≡ g x) → map f xs ≡ map g xs
map_agree f g [] h = refl
map_agree f g (x ∷ xs) h = ap (λ y. y ∷ map f xs) (h x (inl refl)) ∙ ap (λ ys. g x ∷ ys) (map_agree f g xs (λ y i. h y (inr i)))

-- and where two tests do
pub filter_alike : {A : Type 0} (p q : A → Bool) (xs : List A) → ((x : A) → In x xs → p x ≡ q x) → filter p xs ≡ filter q xs
filter_alike p q [] h = refl
filter_alike p q (x ∷ xs) h =
    ap (λ b. cond b (x ∷ filter p xs) (filter p xs)) (h x (inl refl))
    ∙ ap (λ ys. cond (q x) (x ∷ ys) ys) (filter_alike p q xs (λ y i. h y (inr i)))

within_step : {A : Type 0} (p q : A → Bool) (x : A) (xs : List A) → (p x ≡ true → q x ≡ true) → filter p (filter q xs) ≡ filter p xs → (b : Bool) → q x ≡ b
    → filter p (cond b (x ∷ filter q xs) (filter q xs)) ≡ filter p (x ∷ xs)
within_step p q x xs h same true e = ap (λ ys. cond (p x) (x ∷ ys) ys) same
within_step p q x xs h same false e =
    same ∙ elim (p x) as (λ b. p x ≡ b → filter p xs ≡ cond b (x ∷ filter p xs) (filter p xs)) [ true ↦ λ f. absurd (both_ways (q x) e (h f)) | false ↦ λ f. refl ] refl

-- of elements of which all that pass the one pass the other
pub filter_within : {A : Type 0} (p q : A → Bool) (xs : List A) → ((x : A) → In x xs → p x ≡ true → q x ≡ true) → filter p (filter q xs) ≡ filter p xs
filter_within p q [] h = refl
filter_within p q (x ∷ xs) h = within_step p q x xs (h x (inl refl)) (filter_within p q xs (λ y i. h y (inr i))) (q x) refl

both_step : {A : Type 0} (p q : A → Bool) (x : A) (xs : List A) → filter p (filter q xs) ≡ filter (λ x. q x && p x) xs → (b : Bool)
    → filter p (cond b (x ∷ filter q xs) (filter q xs)) ≡ cond (b && p x) (x ∷ filter (λ x. q x && p x) xs) (filter (λ x. q x && p x) xs)
both_step p q x xs same true = ap (λ ys. cond (p x) (x ∷ ys) ys) same
both_step p q x xs same false = same

pub filter_both : {A : Type 0} (p q : A → Bool) (xs : List A) → filter p (filter q xs) ≡ filter (λ x. q x && p x) xs
filter_both p q [] = refl
filter_both p q (x ∷ xs) = both_step p q x xs (filter_both p q xs) (q x)

-- ---- names each once

without_step : (q : Oid → Bool) (o p : Oid) (ps : List Oid) → filter q (without o ps) ≡ without o (filter q ps) → (b : Bool) → is_same p o ≡ b → (c : Bool) → q p ≡ c
    → filter q (if b then without o ps else p ∷ without o ps) ≡ without o (cond c (p ∷ filter q ps) (filter q ps))
without_step q o p ps same true e true f = same ∙ sym (ap (λ b. if b then without o (filter q ps) else p ∷ without o (filter q ps)) e)
without_step q o p ps same true e false f = same
without_step q o p ps same false e true f =
    ap (λ b. cond b (p ∷ filter q (without o ps)) (filter q (without o ps))) f ∙ ap (λ ys. p ∷ ys) same
    ∙ sym (ap (λ b. if b then without o (filter q ps) else p ∷ without o (filter q ps)) e)
without_step q o p ps same false e false f = ap (λ b. cond b (p ∷ filter q (without o ps)) (filter q (without o ps))) f ∙ same

filter_without : (q : Oid → Bool) (o : Oid) (ps : List Oid) → filter q (without o ps) ≡ without o (filter q ps)
filter_without q o [] = refl
filter_without q o (p ∷ ps) = without_step q o p ps (filter_without q o ps) (is_same p o) refl (q p) refl

-- what doesn't pass isn't among those that do
none_step : (q : Oid → Bool) (o p : Oid) (ps : List Oid) → q o ≡ false → without o (filter q ps) ≡ filter q ps → (c : Bool) → q p ≡ c
    → without o (cond c (p ∷ filter q ps) (filter q ps)) ≡ cond c (p ∷ filter q ps) (filter q ps)
none_step q o p ps none same false f = same
none_step q o p ps none same true f =
    elim (is_same p o) as (λ b. is_same p o ≡ b → (if b then without o (filter q ps) else p ∷ without o (filter q ps)) ≡ p ∷ filter q ps) [
      | true ↦ λ e. absurd (both_ways (q o) none (ap q (sym (one_name p o e)) ∙ f))
      | false ↦ λ e. ap (λ ys. p ∷ ys) same
    ] refl

without_none : (q : Oid → Bool) (o : Oid) (ps : List Oid) → q o ≡ false → without o (filter q ps) ≡ filter q ps
without_none q o [] none = refl
without_none q o (p ∷ ps) none = none_step q o p ps none (without_none q o ps none) (q p) refl

once_step : (q : Oid → Bool) (o : Oid) (os : List Oid) → filter q (each_once os) ≡ each_once (filter q os) → (b : Bool) → q o ≡ b
    → cond b (o ∷ filter q (without o (each_once os))) (filter q (without o (each_once os))) ≡ each_once (cond b (o ∷ filter q os) (filter q os))
once_step q o os same true e = ap (λ ys. o ∷ ys) (filter_without q o (each_once os) ∙ ap (without o) same)
once_step q o os same false e = filter_without q o (each_once os) ∙ without_none q o (each_once os) e ∙ same

pub filter_once : (q : Oid → Bool) (os : List Oid) → filter q (each_once os) ≡ each_once (filter q os)
filter_once q [] = refl
filter_once q (o ∷ os) = once_step q o os (filter_once q os) (q o) refl

-- a name is among those that pass a test if it passes and is among all
among_step : (q : Oid → Bool) (o p : Oid) (ps : List Oid) → is_among o (filter q ps) ≡ (q o && is_among o ps) → (b : Bool) → is_same p o ≡ b → (c : Bool) → q p ≡ c
    → is_among o (cond c (p ∷ filter q ps) (filter q ps)) ≡ (q o && (b || is_among o ps))
among_step q o p ps same false e true f = ap (λ b. b || is_among o (filter q ps)) e ∙ same
among_step q o p ps same false e false f = same
among_step q o p ps same true e true f =
    ap (λ b. b || is_among o (filter q ps)) e ∙ sym (ap (λ b. b && true) (ap q (sym (one_name p o e)) ∙ f))
among_step q o p ps same true e false f =
    let none : q o ≡ false = ap q (sym (one_name p o e)) ∙ f in
    same ∙ ap (λ b. b && is_among o ps) none ∙ sym (ap (λ b. b && true) none)

pub among_filter : (q : Oid → Bool) (o : Oid) (os : List Oid) → is_among o (filter q os) ≡ (q o && is_among o os)
among_filter q o [] = elim (q o) as (λ b. false ≡ (b && false)) [ true ↦ refl | false ↦ refl ]
among_filter q o (p ∷ ps) = among_step q o p ps (among_filter q o ps) (is_same p o) refl (q p) refl

-- ---- numbers, each once and in order

abbrev pub Above : ℕ → List ℕ → Type 0
Above n ms = AllByRecursion (λ m. n < m) ms

abbrev pub Rising : List ℕ → Type 0
Rising [] = Unit {0}
Rising (m ∷ ms) = Above m ms × Rising ms

above_more : (k n : ℕ) (ms : List ℕ) → k < n → Above k ms → Above k (with_number ms n)
above_more k n [] low h = (low, tt)
above_more k n (m ∷ ms) low h =
    elim (nat_lt n m) as (λ b. Above k (if b then n ∷ m ∷ ms else (if n == m then m ∷ ms else m ∷ with_number ms n))) [
      | true ↦ (low, h)
      | false ↦ elim (n == m) as (λ b. Above k (if b then m ∷ ms else m ∷ with_number ms n)) [ true ↦ h | false ↦ (h.0, above_more k n ms low h.1) ]
    ]

above_all : (n m : ℕ) (ms : List ℕ) → n < m → Above m ms → Above n ms
above_all n m [] low h = tt
above_all n m (k ∷ ms) low h = let one = h.0 in (omega (arith, low, one), above_all n m ms low h.1)

rising_step : (n m : ℕ) (ms : List ℕ) → Rising (m ∷ ms) → Rising (with_number ms n) → (b : Bool) → nat_lt n m ≡ b → (c : Bool) → (n == m) ≡ c
    → Rising (if b then n ∷ m ∷ ms else (if c then m ∷ ms else m ∷ with_number ms n))
rising_step n m ms h later true less c e = let low = ltb-true n m less in ((low, above_all n m ms low h.0), h)
rising_step n m ms h later false less true e = h
rising_step n m ms h later false less false e =
    let least = ltb-false n m less in
    let apart = eqb-false n m e in
    (above_more m n ms (omega (arith, least, apart)) h.0, later)

rising_more : (n : ℕ) (ms : List ℕ) → Rising ms → Rising (with_number ms n)
rising_more n [] h = (tt, tt)
rising_more n (m ∷ ms) h = rising_step n m ms h (rising_more n ms h.1) (nat_lt n m) refl (n == m) refl

-- below all of these it comes first
first_of : (n : ℕ) (ms : List ℕ) → Above n ms → with_number ms n ≡ n ∷ ms
first_of n [] h = refl
first_of n (m ∷ ms) h = ap (λ b. if b then n ∷ m ∷ ms else (if n == m then m ∷ ms else m ∷ with_number ms n)) (lt-ltb n m h.0)

number_step : (q : ℕ → Bool) (n m : ℕ) (ms : List ℕ) → Rising (m ∷ ms) → filter q (with_number ms n) ≡ (if q n then with_number (filter q ms) n else filter q ms)
    → (b : Bool) → nat_lt n m ≡ b → (c : Bool) → (n == m) ≡ c
    → filter q (if b then n ∷ m ∷ ms else (if c then m ∷ ms else m ∷ with_number ms n)) ≡ (if q n then with_number (filter q (m ∷ ms)) n else filter q (m ∷ ms))
number_step q n m ms h later true less c e =
    let low = ltb-true n m less in
    ap (λ ys. if q n then ys else filter q (m ∷ ms)) (sym (first_of n (filter q (m ∷ ms)) (all_filter (λ k. n < k) q (m ∷ ms) (low, above_all n m ms low h.0))))
number_step q n m ms h later false less true e =
    elim (q n) as (λ b. q n ≡ b → filter q (m ∷ ms) ≡ (if b then with_number (filter q (m ∷ ms)) n else filter q (m ∷ ms))) [
      | true ↦ λ f.
          let here : filter q (m ∷ ms) ≡ m ∷ filter q ms = ap (λ b. cond b (m ∷ filter q ms) (filter q ms)) (ap q (sym (eqb-true n m e)) ∙ f) in
          here ∙ sym (ap (λ ys. with_number ys n) here
          ∙ ap (λ b. if b then n ∷ m ∷ filter q ms else (if n == m then m ∷ filter q ms else m ∷ with_number (filter q ms) n)) less
          ∙ ap (λ b. if b then m ∷ filter q ms else m ∷ with_number (filter q ms) n) e)
      | false ↦ λ f. refl
    ] refl
number_step q n m ms h later false less false e =
    elim (q m) as (λ b. cond b (m ∷ filter q (with_number ms n)) (filter q (with_number ms n))
    ≡ (if q n then with_number (cond b (m ∷ filter q ms) (filter q ms)) n else cond b (m ∷ filter q ms) (filter q ms))) [
      | true ↦
          ap (λ ys. m ∷ ys) later
          ∙ elim (q n) as (λ b. m ∷ (if b then with_number (filter q ms) n else filter q ms) ≡ (if b then with_number (m ∷ filter q ms) n else m ∷ filter q ms)) [
            | true ↦ sym (ap (λ b. if b then n ∷ m ∷ filter q ms else (if n == m then m ∷ filter q ms else m ∷ with_number (filter q ms) n)) less
                ∙ ap (λ b. if b then m ∷ filter q ms else m ∷ with_number (filter q ms) n) e)
            | false ↦ refl
          ]
      | false ↦ later
    ]

number_of : (q : ℕ → Bool) (n : ℕ) (ms : List ℕ) → Rising ms → filter q (with_number ms n) ≡ (if q n then with_number (filter q ms) n else filter q ms)
number_of q n [] h = refl
number_of q n (m ∷ ms) h = number_step q n m ms h (number_of q n ms h.1) (nat_lt n m) refl (n == m) refl

numbers_step : (q : ℕ → Bool) (n : ℕ) (ns known : List ℕ) (b : Bool) → q n ≡ b
    → fold with_number (if b then with_number (filter q known) n else filter q known) (filter q ns) ≡ fold with_number (filter q known) (cond b (n ∷ filter q ns) (filter q ns))
numbers_step q n ns known true e = refl
numbers_step q n ns known false e = refl

-- the numbers that pass of those that are gathered are gathered of those that pass
numbers_from : (q : ℕ → Bool) (ns known : List ℕ) → Rising known → filter q (fold with_number known ns) ≡ fold with_number (filter q known) (filter q ns)
numbers_from q [] known h = refl
numbers_from q (n ∷ ns) known h =
    numbers_from q ns (with_number known n) (rising_more n known h)
    ∙ ap (λ ms. fold with_number ms (filter q ns)) (number_of q n known h)
    ∙ numbers_step q n ns known (q n) refl

pub numbers_passed : (q : ℕ → Bool) (ns : List ℕ) → filter q (fold with_number [] ns) ≡ fold with_number [] (filter q ns)
numbers_passed q ns = numbers_from q ns [] tt

-- and they rise
pub gathered_rise : (ns known : List ℕ) → Rising known → Rising (fold with_number known ns)
gathered_rise [] known h = h
gathered_rise (n ∷ ns) known h = gathered_rise ns (with_number known n) (rising_more n known h)

-- so none stands there twice
above_apart : (n : ℕ) (ms : List ℕ) → Above n ms → filter (λ m. m == n) ms ≡ []
above_apart n [] h = refl
above_apart n (m ∷ ms) h = let low = h.0 in ap (λ b. cond b (m ∷ filter (λ m. m == n) ms) (filter (λ m. m == n) ms)) (ne_eqb m n (λ e. omega (arith, low, e))) ∙ above_apart n ms h.1

twice_step : (n m : ℕ) (ms : List ℕ) → Above m ms → length (filter (λ m. m == n) ms) ≤ 1 → (b : Bool) → (m == n) ≡ b
    → length (cond b (m ∷ filter (λ m. m == n) ms) (filter (λ m. m == n) ms)) ≤ 1
twice_step n m ms above few false e = few
twice_step n m ms above few true e =
    let none : length (filter (λ m. m == n) ms) ≡ 0 = ap length (above_apart n ms (subst (λ z. Above z ms) (eqb-true m n e) above)) in
    omega (arith, none)

pub never_twice : (n : ℕ) (ms : List ℕ) → Rising ms → length (filter (λ m. m == n) ms) ≤ 1
never_twice n [] h = omega arith
never_twice n (m ∷ ms) h = twice_step n m ms h.0 (never_twice n ms h.1) (m == n) refl

-- ---- the first row of a name

abbrev pub or_row : {R : Type 0} → Option R → Option R → Option R
or_row None other = other
or_row (Some r) other = Some r

pub row_append : {R : Type 0} (name : R → Oid) (xs ys : List R) (o : Oid) → row_of name (xs ++ ys) o ≡ or_row (row_of name xs o) (row_of name ys o)
row_append name [] ys o = refl
row_append name (x ∷ xs) ys o =
    elim (is_same (name x) o) as (λ b. cond b (Some x) (row_of name (xs ++ ys) o) ≡ or_row (cond b (Some x) (row_of name xs o)) (row_of name ys o)) [
      | true ↦ refl
      | false ↦ row_append name xs ys o
    ]

pub row_of_map : {A R : Type 0} (name : R → Oid) (f : A → R) (xs : List A) (o : Oid) → row_of name (map f xs) o ≡ option_map f (row_of (λ x. name (f x)) xs o)
row_of_map name f [] o = refl
row_of_map name f (x ∷ xs) o =
    elim (is_same (name (f x)) o) as (λ b. cond b (Some (f x)) (row_of name (map f xs) o) ≡ option_map f (cond b (Some x) (row_of (λ x. name (f x)) xs o))) [
      | true ↦ refl
      | false ↦ row_of_map name f xs o
    ]

passed_step : {R : Type 0} (name : R → Oid) (q : Oid → Bool) (r : R) (rows : List R) (o : Oid) → q o ≡ true
    → row_of name (filter (λ r. q (name r)) rows) o ≡ row_of name rows o → (b : Bool) → is_same (name r) o ≡ b → (c : Bool) → q (name r) ≡ c
    → row_of name (cond c (r ∷ filter (λ r. q (name r)) rows) (filter (λ r. q (name r)) rows)) o ≡ cond b (Some r) (row_of name rows o)
passed_step name q r rows o passes same b e true f =
    ap (λ t. cond t (Some r) (row_of name (filter (λ r. q (name r)) rows) o)) e ∙ ap (cond b (Some r)) same
passed_step name q r rows o passes same false e false f = same
passed_step name q r rows o passes same true e false f = absurd (both_ways (q o) (ap q (sym (one_name (name r) o e)) ∙ f) passes)

-- a test that its name passes doesn't matter
pub row_passed : {R : Type 0} (name : R → Oid) (q : Oid → Bool) (rows : List R) (o : Oid) → q o ≡ true
    → row_of name (filter (λ r. q (name r)) rows) o ≡ row_of name rows o
row_passed name q [] o passes = refl
row_passed name q (r ∷ rows) o passes = passed_step name q r rows o passes (row_passed name q rows o passes) (is_same (name r) o) refl (q (name r)) refl

-- ---- what some give

given_step : {A B : Type 0} (p : B → Bool) (q : A → Bool) (f : A → Option B) (x : A) (xs : List A) → ((y : B) → f x ≡ Some y → p y ≡ q x)
    → filter p (filter_map f xs) ≡ filter_map f (filter q xs) → (found : Option B) → f x ≡ found
    → filter p (cons_option found (filter_map f xs)) ≡ filter_map f (cond (q x) (x ∷ filter q xs) (filter q xs))
given_step p q f x xs h same None e =
    same ∙ elim (q x) as (λ b. filter_map f (filter q xs) ≡ filter_map f (cond b (x ∷ filter q xs) (filter q xs))) [
      | true ↦ sym (ap (λ z. cons_option z (filter_map f (filter q xs))) e)
      | false ↦ refl
    ]
given_step p q f x xs h same (Some y) e =
    ap (λ b. cond b (y ∷ filter p (filter_map f xs)) (filter p (filter_map f xs))) (h y e)
    ∙ elim (q x) as (λ b. cond b (y ∷ filter p (filter_map f xs)) (filter p (filter_map f xs)) ≡ filter_map f (cond b (x ∷ filter q xs) (filter q xs))) [
      | true ↦ ap (λ ys. y ∷ ys) same ∙ sym (ap (λ z. cons_option z (filter_map f (filter q xs))) e)
      | false ↦ same
    ]

pub filter_given : {A B : Type 0} (p : B → Bool) (q : A → Bool) (f : A → Option B) (xs : List A) → ((x : A) (y : B) → f x ≡ Some y → p y ≡ q x)
    → filter p (filter_map f xs) ≡ filter_map f (filter q xs)
filter_given p q f [] h = refl
filter_given p q f (x ∷ xs) h = given_step p q f x xs (h x) (filter_given p q f xs h) (f x) refl

pub given_alike : {A B : Type 0} (f g : A → Option B) (xs : List A) → ((x : A) → In x xs → f x ≡ g x) → filter_map f xs ≡ filter_map g xs
given_alike f g [] h = refl
given_alike f g (x ∷ xs) h = ap (λ z. cons_option z (filter_map f xs)) (h x (inl refl)) ∙ ap (cons_option (g x)) (given_alike f g xs (λ y i. h y (inr i)))
