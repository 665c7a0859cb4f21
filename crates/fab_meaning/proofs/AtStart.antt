-- What is given to locals, and blanks, one more at a time.
use Rattle.std.proofs.Common.{◌≡◌, ℕ, zero, suc, ◌+◌, ◌<◌, ◌≤◌, List, [], ◌∷◌, ◌++◌, length, map, drop, refl, sym, ap, ◌∙◌, arith, add-one, append-nil, append_assoc}
use Rattle.std.specs.Prelude.{slice_get, unwrap_or}
use Rattle.std.proofs.lemmas.List.{drop_all}
use Rattle.fab_base.specs.declared.object.Value.{Value}
use Rattle.fab_base.specs.declared.object.Value.TheVariants.{Null}
use Rattle.fab_tree.specs.declared.resolved.Local.{Local}
use Rattle.fab_erasure.specs.Erased.{args_shown, shown_if}
use Rattle.fab_meaning.specs.declared.setting.Sight.{Sight}
use Rattle.fab_meaning.specs.Sights.{sees, sees_given, shows}

-- the value at a place, and those behind it
at_drop : (i : ℕ) (vs : List Value) → i < length vs → drop i vs ≡ unwrap_or (slice_get vs i) Null ∷ drop (suc i) vs
at_drop i [] le = absurd (omega arith)
at_drop zero (v ∷ vs) le = refl
at_drop (suc i) (v ∷ vs) le = at_drop i vs (omega arith)

-- one more is pushed
one_more : (front pushed next rest all : List Value) (v : Value) → pushed ≡ front ++ v ∷ [] → next ≡ v ∷ rest → front ++ next ≡ all → pushed ++ rest ≡ all
one_more front pushed next rest all v e n same = ap (λ vs. vs ++ rest) e ∙ append_assoc front (v ∷ []) rest ∙ sym (ap (λ vs. front ++ vs) n) ∙ same

abbrev pub blanks_for : List Value → List Value
blanks_for vs = map (λ (v : Value). Null) vs

pub next_blank : (vs : List Value) (i : ℕ) (front pushed : List Value) → i < length vs → pushed ≡ front ++ Null ∷ [] → front ++ blanks_for (drop i vs) ≡ blanks_for vs → pushed ++ blanks_for (drop (i + 1) vs) ≡ blanks_for vs
next_blank vs i front pushed le e same =
    one_more front pushed (blanks_for (drop i vs)) (blanks_for (drop (i + 1) vs)) (blanks_for vs) Null e (ap blanks_for (at_drop i vs le) ∙ ap (λ n. Null ∷ blanks_for (drop n vs)) (sym (add-one i))) same

module _ (sight : Sight) where
  abbrev given_to : List Local → List Value → List Value
  given_to = args_shown (sees sight) (shows sight)

  one_given : (i : ℕ) (ls : List Local) (v : Value) (vs : List Value) → given_to (drop i ls) (v ∷ vs) ≡ shown_if (sees_given sight (slice_get ls i)) v ∷ given_to (drop (suc i) ls) vs
  one_given zero [] v vs = refl
  one_given zero (l ∷ ls) v vs = refl
  one_given (suc i) [] v vs = refl
  one_given (suc i) (l ∷ ls) v vs = one_given i ls v vs

  -- what is given to a local, and to those behind it
  next_given : (i : ℕ) (ls : List Local) (vs : List Value) → i < length vs
      → given_to (drop i ls) (drop i vs) ≡ shown_if (sees_given sight (slice_get ls i)) (unwrap_or (slice_get vs i) Null) ∷ given_to (drop (i + 1) ls) (drop (i + 1) vs)
  next_given i ls vs le =
      let v = unwrap_or (slice_get vs i) Null in
      ap (given_to (drop i ls)) (at_drop i vs le) ∙ one_given i ls v (drop (suc i) vs)
      ∙ ap (λ n. shown_if (sees_given sight (slice_get ls i)) v ∷ given_to (drop n ls) (drop n vs)) (sym (add-one i))

  pub given_more : (ls : List Local) (vs : List Value) (i : ℕ) (front pushed : List Value) (w : Value) → i < length vs
      → w ≡ shown_if (sees_given sight (slice_get ls i)) (unwrap_or (slice_get vs i) Null) → pushed ≡ front ++ w ∷ []
      → front ++ given_to (drop i ls) (drop i vs) ≡ given_to ls vs → pushed ++ given_to (drop (i + 1) ls) (drop (i + 1) vs) ≡ given_to ls vs
  given_more ls vs i front pushed w le is e same =
      let rest = given_to (drop (i + 1) ls) (drop (i + 1) vs) in
      one_more front pushed (given_to (drop i ls) (drop i vs)) rest (given_to ls vs) w e (next_given i ls vs le ∙ ap (λ v. v ∷ rest) (sym is)) same

  none_given : (ls : List Local) → given_to ls [] ≡ []
  none_given [] = refl
  none_given (l ∷ ls) = refl

  -- behind the last there is none
  pub given_all : (ls : List Local) (vs : List Value) (i : ℕ) (front : List Value) → length vs ≤ i → front ++ given_to (drop i ls) (drop i vs) ≡ given_to ls vs → front ≡ given_to ls vs
  given_all ls vs i front le same =
      sym (append-nil front) ∙ sym (ap (λ ws. front ++ ws) (ap (given_to (drop i ls)) (drop_all i vs le) ∙ none_given (drop i ls))) ∙ same
