-- The honest nodes in order, and one of them among the others.
use Rattle.std.specs.Prelude.{◌≡◌, ℕ, zero, suc, ◌+◌, ◌<◌, ◌≤◌, Bool, true, false, cond, IsTrue, List, [], ◌∷◌, ◌++◌, length, map}
use Rattle.std.specs.List.{AllByRecursion}
use Rattle.std.proofs.Common.{refl, sym, ap, ◌∙◌, arith, inl, inr, append_assoc}
use Rattle.std.proofs.lemmas.List.{append-nil, length-append}
use Rattle.std.proofs.lemmas.Bool.{cases_eq}
use Rattle.fab_base.proofs.Lists.{all_append}
use Rattle.fab_node.specs.Standing.{GivenModel}
use Rattle.fab_core.specs.Cores.{is_honest}
use Rattle.fab_core.specs.Honest.{AreFor, honest_up}
use Rattle.fab_core.specs.Starts.{honest_below}

pub honest_long : (g : GivenModel) (n : ℕ) → length (honest_up g n) ≡ honest_below g n
unfolding honest_up
honest_long g zero = refl
honest_long g (suc n) =
    length-append (honest_up g n) (cond (is_honest g n) (n ∷ []) [])
    ∙ ap (λ m. m + length (cond (is_honest g n) (n ∷ []) [])) (honest_long g n)
    ∙ ap (λ m. honest_below g n + m) (one (is_honest g n))
  where
    one : (b : Bool) → length (cond b (n ∷ []) []) ≡ cond b 1 0
    one true = refl
    one false = refl

-- each is below
all_below : (g : GivenModel) (n : ℕ) → AllByRecursion (λ k. k < n) (honest_up g n)
unfolding honest_up
all_below g zero = tt
all_below g (suc n) =
    all_append (λ k. k < suc n) (honest_up g n) (cond (is_honest g n) (n ∷ []) []) (further (honest_up g n) (all_below g n)) (one (is_honest g n))
  where
    further : (ks : List ℕ) → AllByRecursion (λ k. k < n) ks → AllByRecursion (λ k. k < suc n) ks
    further [] h = tt
    further (k ∷ ks) h = let first = h.0 in (omega (arith, first), further ks h.1)

    one : (b : Bool) → AllByRecursion (λ k. k < suc n) (cond b (n ∷ []) [])
    one true = (omega arith, tt)
    one false = tt

-- an honest one stands behind those below it, and before those above
pub record IsPlace (g : GivenModel) (node m : ℕ) : Type 0 where
  pub rest : List ℕ
  pub parts : honest_up g m ≡ honest_up g node ++ node ∷ rest
  pub front : AllByRecursion (λ k. k < node) (honest_up g node)
  pub others : AllByRecursion (λ k. node < k) rest

pub place_of : (g : GivenModel) (node m : ℕ) → IsTrue (is_honest g node) → node < m → IsPlace g node m
unfolding honest_up
place_of g node zero honest below = absurd (omega (arith, below))
place_of g node (suc m) honest below = elim (cases_eq node m) [
  | inl same ↦ record {
    rest = [];
    parts =
        ap (λ b. honest_up g m ++ cond b (m ∷ []) []) (ap (is_honest g) (sym same) ∙ honest)
        ∙ ap (λ k. honest_up g k ++ k ∷ []) (sym same);
    front = all_below g node;
    others = tt;
  }
  | inr apart ↦
      let before = place_of g node m honest (omega (arith, below, apart)) in
      record {
        rest = before.rest ++ cond (is_honest g m) (m ∷ []) [];
        parts =
            ap (λ ns. ns ++ cond (is_honest g m) (m ∷ []) []) before.parts
            ∙ append_assoc (honest_up g node) (node ∷ before.rest) (cond (is_honest g m) (m ∷ []) []);
        front = before.front;
        others = all_append (λ k. node < k) before.rest (cond (is_honest g m) (m ∷ []) []) before.others (one (omega (arith, below, apart)) (is_honest g m));
      }
]
  where
    one : node < m → (b : Bool) → AllByRecursion (λ k. node < k) (cond b (m ∷ []) [])
    one h true = (h, tt)
    one h false = tt

-- those below one number stand in front of those below another
pub record IsFront (g : GivenModel) (n m : ℕ) : Type 0 where
  pub rest : List ℕ
  pub parts : honest_up g m ≡ honest_up g n ++ rest

pub front_up : (g : GivenModel) (n m : ℕ) → n ≤ m → IsFront g n m
unfolding honest_up
front_up g n zero below = record { rest = []; parts = ap (honest_up g) (let e : 0 ≡ n = omega (arith, below) in e) ∙ sym (append-nil (honest_up g n)) }
front_up g n (suc m) below = elim (cases_eq n (suc m)) [
  | inl same ↦ record { rest = []; parts = ap (honest_up g) (sym same) ∙ sym (append-nil (honest_up g n)) }
  | inr apart ↦
      let before = front_up g n m (omega (arith, below, apart)) in
      record {
        rest = before.rest ++ cond (is_honest g m) (m ∷ []) [];
        parts =
            ap (λ ns. ns ++ cond (is_honest g m) (m ∷ []) []) before.parts
            ∙ append_assoc (honest_up g n) before.rest (cond (is_honest g m) (m ∷ []) []);
      }
]

-- ---- one for each node

pub for_long : {A : Type 0} (P : ℕ → A → Type 0) (ns : List ℕ) (xs : List A) → AreFor P ns xs → length xs ≡ length ns
for_long P [] [] h = refl
for_long P (n ∷ ns) (x ∷ xs) h = ap suc (for_long P ns xs h.1)
for_long P [] (x ∷ xs) h = absurd h
for_long P (n ∷ ns) [] h = absurd h

pub for_both : {A : Type 0} (P : ℕ → A → Type 0) (ns ms : List ℕ) (xs ys : List A) → AreFor P ns xs → AreFor P ms ys → AreFor P (ns ++ ms) (xs ++ ys)
for_both P [] ms [] ys h k = k
for_both P (n ∷ ns) ms (x ∷ xs) ys h k = (h.0, for_both P ns ms xs ys h.1 k)
for_both P [] ms (x ∷ xs) ys h k = absurd h
for_both P (n ∷ ns) ms [] ys h k = absurd h

-- as they are seen
pub for_seen : {A B : Type 0} (P : ℕ → B → Type 0) (view : A → B) (ns : List ℕ) (xs : List A) → AreFor P ns (map view xs) → AreFor (λ n x. P n (view x)) ns xs
for_seen P view [] [] h = tt
for_seen P view (n ∷ ns) (x ∷ xs) h = (h.0, for_seen P view ns xs h.1)
for_seen P view [] (x ∷ xs) h = absurd h
for_seen P view (n ∷ ns) [] h = absurd h
