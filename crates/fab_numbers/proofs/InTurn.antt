-- What is numbered in turn: how many sites it takes, one more, or a refusal.
use Rattle.std.proofs.Common.{◌≡◌, ℕ, suc, ◌+◌, ◌<◌, ◌≤◌, List, [], ◌∷◌, ◌++◌, map, length, get_or, drop, Result, Ok, Err, sym, ap, ◌∙◌, subst, arith, add-one, drop-cons, append_assoc, length-append}
use Rattle.std.specs.List.{flat_map}
use Rattle.std.specs.Result.{IsErrAnd}
use Rattle.std.proofs.lemmas.List.Concat.{flat_map-cons}
use Rattle.fab_tree.specs.Sites.{joined}
use Rattle.fab_language.specs.MethodNumbers.{Numbered, siteless, made_of, made_of_two, made_of_three, at_site, in_turn}
use Rattle.fab_numbers.specs.declared.sites.Refusal.{Refusal}
use Rattle.fab_numbers.specs.declared.sites.Refusal.TheVariants.{Memory, Sites}
use Rattle.fab_numbers.specs.Gives.{Gives}

-- ---- how many sites are taken

-- so many, from whatever number
pub record Takes {A : Type 0} (m : Numbered A) (k : ℕ) : Type 0 where
  pub takes : (n : ℕ) → (m n).1 ≡ n + k

pub grows : {A : Type 0} (m : Numbered A) (k : ℕ) → Takes m k → (n : ℕ) → n ≤ (m n).1
grows m k t n = let e = t.takes n in omega (arith, e)

pub takes_none : {A : Type 0} (a : A) → Takes (siteless a) 0
takes_none a = record { takes = λ n. omega arith }

pub takes_same : {A B : Type 0} (f : A → B) (m : Numbered A) (k : ℕ) → Takes m k → Takes (made_of f m) k
takes_same f m k t = record { takes = λ n. t.takes n }

pub takes_both : {A B C : Type 0} (f : A → B → C) (m : Numbered A) (l : Numbered B) (i j : ℕ) → Takes m i → Takes l j → Takes (made_of_two f m l) (i + j)
takes_both f m l i j t u = record { takes = λ n. let a = t.takes n in let b = u.takes (m n).1 in omega (arith, a, b) }

pub takes_all : {A B C D : Type 0} (f : A → B → C → D) (m : Numbered A) (l : Numbered B) (o : Numbered C) (i j k : ℕ) → Takes m i → Takes l j → Takes o k → Takes (made_of_three f m l o) (i + j + k)
takes_all f m l o i j k t u v =
    record { takes = λ n. let a = t.takes n in let b = u.takes (m n).1 in let c = v.takes (l (m n).1).1 in omega (arith, a, b, c) }

pub takes_one_more : {A B : Type 0} (f : ℕ → A → B) (m : Numbered A) (k : ℕ) → Takes m k → Takes (at_site f m) (suc k)
takes_one_more f m k t = record { takes = λ n. let a = t.takes (suc n) in omega (arith, a) }

pub takes_in_turn : {X Y : Type 0} (f : X → Numbered Y) (places : X → List ℕ) → ((x : X) → Takes (f x) (length (places x))) → (xs : List X) → Takes (in_turn (map f xs)) (length (flat_map places xs))
takes_in_turn f places each [] = record { takes = λ n. omega arith }
takes_in_turn f places each (x ∷ xs) = record {
  takes = λ n.
      let here = (each x).takes n in
      let rest = (takes_in_turn f places each xs).takes (f x n).1 in
      let size = ap length (flat_map-cons places x xs) ∙ length-append (places x) (flat_map places xs) in
      omega (arith, here, rest, size);
}

-- the same over parts for which it is known
pub parts_take : {K X Y : Type 0} (f : X → Numbered Y) (places : X → List ℕ) (part : K → X) → ((k : K) → Takes (f (part k)) (length (places (part k)))) → (ks : List K) → Takes (in_turn (map f (map part ks))) (length (joined (map places (map part ks))))
parts_take f places part each [] = record { takes = λ n. omega arith }
parts_take f places part each (k ∷ ks) = record {
  takes = λ n.
      let here = (each k).takes n in
      let rest = (parts_take f places part each ks).takes (f (part k) n).1 in
      let size = ap length (flat_map-cons (λ xs. xs) (places (part k)) (map places (map part ks))) ∙ length-append (places (part k)) (joined (map places (map part ks))) in
      omega (arith, here, rest, size);
}

-- ---- a part ends no later than the whole

module _ {A B C : Type 0} (f : A → B → C) (m : Numbered A) (l : Numbered B) (j : ℕ) (u : Takes l j) where
  pub first_within : (n : ℕ) → (m n).1 ≤ (made_of_two f m l n).1
  first_within n = grows l j u (m n).1

module _ {A B C D : Type 0} (f : A → B → C → D) (m : Numbered A) (l : Numbered B) (o : Numbered C) (j k : ℕ) (u : Takes l j) (v : Takes o k) where
  pub second_within_three : (n : ℕ) → (l (m n).1).1 ≤ (made_of_three f m l o n).1
  second_within_three n = grows o k v (l (m n).1).1

  pub first_within_three : (n : ℕ) → (m n).1 ≤ (made_of_three f m l o n).1
  first_within_three n = let a = grows l j u (m n).1 in let b = second_within_three n in omega (arith, a, b)

-- ---- what is refused in a part is refused in the whole

passes_on : {A B : Type 0} (e : Refusal) (m n : ℕ) (a : A × ℕ) (b : B × ℕ) → a.1 ≤ b.1 → Gives {A = A} (Err e) m a → Gives {A = B} (Err e) n b
passes_on Memory m n a b h g = tt
passes_on Sites m n a b h g = omega (arith, h, g)

pub refused : {A B : Type 0} (r : Result B Refusal) (e : Refusal) (m n : ℕ) (a : A × ℕ) (b : B × ℕ) → IsErrAnd r (λ f. f ≡ e) → a.1 ≤ b.1 → Gives {A = A} (Err e) m a → Gives r n b
refused (Ok x) e m n a b i h g = absurd i
refused {A = A} {B = B} (Err f) e m n a b i h g = passes_on f m n a b h (subst (λ k. Gives {A = A} (Err k) m a) (sym i) g)

-- ---- one more in turn

module _ {X Y : Type 0} (f : X → Numbered Y) (xs : List X) (i : ℕ) (x : X) (within : i < length xs) (is : x ≡ get_or xs i x) where
  front : drop i xs ≡ x ∷ drop (i + 1) xs
  front = rw (add-one) (drop-cons xs i x within ∙ ap (λ y. y ∷ drop (suc i) xs) (sym is))

  -- the part that was refused ends no later than the whole
  pub ends_within : (n whole : ℕ) → ((ys : List X) (m : ℕ) → m ≤ (in_turn (map f ys) m).1) → (in_turn (map f (drop i xs)) n).1 ≡ whole → (f x n).1 ≤ whole
  ends_within n whole grows e =
      let g = grows (drop (i + 1) xs) (f x n).1 in
      let s = ap (λ l. (in_turn (map f l) n).1) front in
      omega (arith, e, g, s)

  pub goes_on : (made new : List Y) (y : Y) (n m : ℕ) (whole : List Y × ℕ) → f x n ≡ (y, m) → new ≡ made ++ y ∷ [] → made ++ (in_turn (map f (drop i xs)) n).0 ≡ whole.0 → (in_turn (map f (drop i xs)) n).1 ≡ whole.1 → (new ++ (in_turn (map f (drop (i + 1) xs)) m).0 ≡ whole.0) × ((in_turn (map f (drop (i + 1) xs)) m).1 ≡ whole.1)
  goes_on made new y n m whole h push p q =
      let rest = in_turn (map f (drop (i + 1) xs)) m in
      let step : in_turn (map f (drop i xs)) n ≡ (y ∷ rest.0, rest.1) =
      ap (λ l. in_turn (map f l) n) front
      ∙ ap (λ (a : Y × ℕ). let b = in_turn (map f (drop (i + 1) xs)) a.1 in (a.0 ∷ b.0, b.1)) h in (
        ap (λ l. l ++ rest.0) push ∙ append_assoc made (y ∷ []) rest.0 ∙ ap (λ (w : List Y × ℕ). made ++ w.0) (sym step) ∙ p,
        ap (λ (w : List Y × ℕ). w.1) (sym step) ∙ q,
      )
