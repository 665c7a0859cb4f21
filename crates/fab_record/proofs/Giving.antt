-- What is given to parameters, one after the other, as it is seen.
use Rattle.std.proofs.Common.{◌≡◌, ℕ, zero, suc, ◌+◌, ◌<◌, ◌≤◌, Bool, List, [], ◌∷◌, ◌++◌, drop, length, get_or, refl, sym, ap, ◌∙◌, append-nil, append_assoc, add-one}
use Rattle.std.specs.Prelude.{slice_get}
use Rattle.fab_base.specs.declared.object.Value.{Value}
use Rattle.fab_base.proofs.Lists.{front_at}
use Rattle.fab_tree.specs.declared.resolved.Local.{Local}
use Rattle.fab_erasure.specs.Erased.{args_shown}
use Rattle.fab_record.proofs.Gathering.{past_end}
use Rattle.fab_record.specs.Parts.{shown_to}

module _ (sees shows : ℕ → Bool) where
  first_given : (xs : List Local) (i : ℕ) (v : Value) (vs : List Value)
      → args_shown sees shows (drop i xs) (v ∷ vs) ≡ shown_to sees (slice_get xs i) v ∷ args_shown sees shows (drop (suc i) xs) vs
  first_given [] zero v vs = refl
  first_given [] (suc i) v vs = refl
  first_given (x ∷ xs) zero v vs = refl
  first_given (x ∷ xs) (suc i) v vs = first_given xs i v vs

  -- one value more, of which the rest is still to come; and no more
  pub given_step : (xs : List Local) (vs old new whole : List Value) (i : ℕ) (v d : Value) → i < length vs → v ≡ shown_to sees (slice_get xs i) (get_or vs i d) → new ≡ old ++ v ∷ []
      → old ++ args_shown sees shows (drop i xs) (drop i vs) ≡ whole → new ++ args_shown sees shows (drop (i + 1) xs) (drop (i + 1) vs) ≡ whole
  given_step xs vs old new whole i v d within is next so_far =
      ap (λ (l : List Value). l ++ args_shown sees shows (drop (i + 1) xs) (drop (i + 1) vs)) (next ∙ ap (λ (w : Value). old ++ w ∷ []) is)
      ∙ append_assoc old (shown_to sees (slice_get xs i) (get_or vs i d) ∷ []) (args_shown sees shows (drop (i + 1) xs) (drop (i + 1) vs))
      ∙ ap (λ (j : ℕ). old ++ shown_to sees (slice_get xs i) (get_or vs i d) ∷ args_shown sees shows (drop j xs) (drop (i + 1) vs)) (add-one i)
      ∙ ap (λ (l : List Value). old ++ l) (sym (first_given xs i (get_or vs i d) (drop (i + 1) vs)))
      ∙ ap (λ (l : List Value). old ++ args_shown sees shows (drop i xs) l) (sym (front_at vs i d within))
      ∙ so_far

  none_given : (xs : List Local) → args_shown sees shows xs [] ≡ []
  none_given [] = refl
  none_given (x ∷ xs) = refl

  pub given_end : (xs : List Local) (vs now whole : List Value) (i : ℕ) → length vs ≤ i → now ++ args_shown sees shows (drop i xs) (drop i vs) ≡ whole → now ≡ whole
  given_end xs vs now whole i past so_far =
      sym (ap (λ (l : List Value). now ++ args_shown sees shows (drop i xs) l) (past_end vs i past) ∙ ap (λ (l : List Value). now ++ l) (none_given (drop i xs)) ∙ append-nil now) ∙ so_far
