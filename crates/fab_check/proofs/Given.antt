-- Values that are given in turn to what has labels.
use Rattle.std.proofs.Common.{◌≡◌, ℕ, ◌+◌, ◌<◌, List, [], ◌∷◌, length, get_or, drop, refl, sym, ap, ◌∙◌, arith}
use Rattle.fab_tree.specs.declared.resolved.Expression.{Expression}
use Rattle.fab_check.specs.Noted.{Noting, all_noted}
use Rattle.fab_check.specs.Shown.{all_given, given, owes_of}
use Rattle.fab_check.specs.declared.labels.Names.{Names}
use Rattle.fab_check.specs.declared.notes.Under.{Under}
use Rattle.fab_check.proofs.Parts.{in_parts, one_more}
use Rattle.fab_authority.proofs.Walks.{front}

module _ (n : Names) (u : Under) (v m whole : Noting) (es : List Expression) (i : ℕ) (e : Expression) (within : i < length es) (is : e ≡ get_or es i e) where
  -- one too many is given to nothing
  pub to_nothing : (to : List ℕ) → length to ≡ 0 → m ≡ all_noted v (owes_of n u e) → all_noted v (all_given n u (drop i es) to) ≡ whole → all_noted m (all_given n u (drop (i + 1) es) to) ≡ whole
  to_nothing [] none next so_far = one_more (λ (ys : List Expression). all_given n u ys []) (owes_of n u) (λ _ _. refl) v m whole es i e within is next so_far
  to_nothing (l ∷ ls) none next so_far = absurd (omega (arith, none))

  pub to_next : (l : ℕ) (to after : List ℕ) → to ≡ l ∷ after → m ≡ all_noted v (given n u e l) → all_noted v (all_given n u (drop i es) to) ≡ whole → all_noted m (all_given n u (drop (i + 1) es) after) ≡ whole
  to_next l to after is_to next so_far =
      let rest = all_given n u (drop (i + 1) es) after in
      ap (λ (k : Noting). all_noted k rest) next
      ∙ sym (in_parts v (given n u e l) rest)
      ∙ ap (λ (ys : List Expression). all_noted v (all_given n u ys (l ∷ after))) (sym (front es i e within is))
      ∙ ap (λ (ls : List ℕ). all_noted v (all_given n u (drop i es) ls)) (sym is_to)
      ∙ so_far
