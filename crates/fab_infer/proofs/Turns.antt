-- What is made in turn, one part after another.
use Rattle.std.proofs.Common.{◌≡◌, ℕ, ◌+◌, ◌<◌, ◌≤◌, List, [], ◌∷◌, ◌++◌, map, length, get_or, drop, length-drop, refl, sym, ap, ◌∙◌, append_assoc, arith}
use Rattle.std.proofs.lemmas.List.{append-nil}
use Rattle.fab_authority.proofs.Walks.{front}
use Rattle.fab_language.specs.MethodNumbers.{Numbered, in_turn}

module _ {A B : Type 0} (f : A → Numbered B) where
  -- what is made of a list from a number on, behind what is made already
  abbrev pub made_behind : List B → List A → Numbered (List B)
  made_behind out xs n = let a = in_turn (map f xs) n in (out ++ a.0, a.1)

  pub one_more : (out more : List B) (y : B) (n m : ℕ) (xs : List A) (i : ℕ) (x : A) (whole : List B × ℕ) → i < length xs → x ≡ get_or xs i x → (y, m) ≡ f x n → more ≡ out ++ y ∷ []
      → made_behind out (drop i xs) n ≡ whole → made_behind more (drop (i + 1) xs) m ≡ whole
  one_more out more y n m xs i x whole within is step pushed so_far =
      let rest = drop (i + 1) xs in
      ap (λ (o : List B). made_behind o rest m) pushed
      ∙ ap (λ (o : List B). (o, (in_turn (map f rest) m).1)) (append_assoc out (y ∷ []) (in_turn (map f rest) m).0)
      ∙ ap (λ (a : B × ℕ). (out ++ a.0 ∷ (in_turn (map f rest) a.1).0, (in_turn (map f rest) a.1).1)) step
      ∙ ap (λ (ys : List A). made_behind out ys n) (sym (front xs i x within is))
      ∙ so_far

  pub at_end : (out : List B) (n : ℕ) (xs : List A) (i : ℕ) (whole : List B × ℕ) → length xs ≤ i → made_behind out (drop i xs) n ≡ whole → (out, n) ≡ whole
  at_end out n xs i whole past so_far =
      ap (λ (o : List B). (o, n)) (sym (append-nil out))
      ∙ ap (λ (ys : List A). made_behind out ys n) (sym (empty (drop i xs) (simp length-drop (omega arith))))
      ∙ so_far
    where
      empty : (ys : List A) → length ys ≡ 0 → ys ≡ []
      empty [] e = refl
      empty (y ∷ ys) e = absurd (omega (arith, e))

  -- one part behind others
  pub in_turn_more : (xs : List A) (x : A) (n : ℕ) → in_turn (map f (xs ++ x ∷ [])) n ≡ ((in_turn (map f xs) n).0 ++ (f x (in_turn (map f xs) n).1).0 ∷ [], (f x (in_turn (map f xs) n).1).1)
  in_turn_more [] x n = refl
  in_turn_more (y ∷ ys) x n = ap (λ (b : List B × ℕ). ((f y n).0 ∷ b.0, b.1)) (in_turn_more ys x (f y n).1)
