-- What an expression reads and owes, by its form.
use Rattle.std.proofs.Common.{◌≡◌, ◌⊎◌, inl, inr, ℕ, refl, sym, ap, ◌∙◌, List, [], ◌∷◌, ◌++◌, map, Option}
use Rattle.std.specs.List.{flat_map}
use Rattle.fab_tree.specs.declared.expression.Number.{Number}
use Rattle.fab_tree.specs.declared.expression.Comparison.{Comparison}
use Rattle.fab_tree.specs.declared.resolved.Expression.{Expression, fold-roll-Expression, roll-out-Expression, out-Expression}
use Rattle.fab_tree.specs.declared.resolved.Form.{Form, fold-roll-Form, fold-Form}
use Rattle.fab_tree.specs.declared.resolved.Form.TheVariants as kinds
use Rattle.fab_tree.specs.declared.resolved.Form.TheOpen as parts
use Rattle.fab_tree.specs.declared.resolved.Operand.{Operand, fold-roll-Operand, fold-Operand, roll-out-Operand, out-Operand}
use Rattle.fab_tree.specs.declared.resolved.Use.{Use}
use Rattle.fab_tree.specs.declared.resolved.Class.{Class}
use Rattle.fab_tree.specs.declared.resolved.Local.{Local}
use Rattle.fab_labelling.specs.Obligations.{Owed, Part, Tail, part, form_step, tail_owes, division}
use Rattle.fab_check.specs.Shown.{labels_of, owes_of}
use Rattle.fab_check.specs.declared.labels.Names.{Names}
use Rattle.fab_check.specs.declared.notes.Under.{Under}

-- what an operand of a chain behind the first owes
abbrev pub tail_owed : Names → Under → Operand → List Owed
tail_owed n u x = owes_of n u (out-Operand x).operand ++ division (out-Operand x).operator (out-Operand x).at (u.pc.now ++ labels_of n (out-Operand x).operand) u.failure

module _ (classes : List Class) (locals : List Local) where
  abbrev in_form : Form → Part
  in_form = fold-Form Part Part Tail (form_step classes locals) (λ e. e.form) (λ u. record { operator = u.operator; at = u.at; part = u.operand })

  abbrev in_other : Operand → Tail
  in_other = fold-Operand Part Part Tail (form_step classes locals) (λ e. e.form) (λ u. record { operator = u.operator; at = u.at; part = u.operand })

  by_form : (x : Expression) → part classes locals x ≡ in_form (out-Expression x).form
  by_form x =
      ap (part classes locals) (sym (roll-out-Expression x))
      ∙ fold-roll-Expression Part Part Tail (form_step classes locals) (λ e. e.form) (λ u. record { operator = u.operator; at = u.at; part = u.operand }) (out-Expression x)

  by_operand : (x : Operand) → in_other x ≡ record { operator = (out-Operand x).operator; at = (out-Operand x).at; part = part classes locals (out-Operand x).operand }
  by_operand x =
      ap in_other (sym (roll-out-Operand x))
      ∙ fold-roll-Operand Part Part Tail (form_step classes locals) (λ e. e.form) (λ u. record { operator = u.operator; at = u.at; part = u.operand }) (out-Operand x)

  in_chain : (x e : Expression) (us : List Operand) → (out-Expression x).form ≡ kinds.Chain e us → part classes locals x ≡ form_step classes locals (parts.Chain (part classes locals e) (map in_other us))
  in_chain x e us is =
      by_form x ∙ ap in_form (is ∙ sym (kinds.rolls-Chain e us))
      ∙ fold-roll-Form Part Part Tail (form_step classes locals) (λ e. e.form) (λ u. record { operator = u.operator; at = u.at; part = u.operand }) (parts.Chain e us)

  all_labels : (us : List Operand) → flat_map (λ (u : Tail). u.part.labels) (map in_other us) ≡ flat_map (λ (u : Operand). (part classes locals (out-Operand u).operand).labels) us
  all_labels [] = refl
  all_labels (u ∷ us) = ap (λ (t : Tail). t.part.labels ++ flat_map (λ (w : Tail). w.part.labels) (map in_other us)) (by_operand u) ∙ ap (λ (l : List ℕ). (part classes locals (out-Operand u).operand).labels ++ l) (all_labels us)

  pub chain_labels : (x e : Expression) (us : List Operand) → (out-Expression x).form ≡ kinds.Chain e us →
      (part classes locals x).labels ≡ (part classes locals e).labels ++ flat_map (λ (u : Operand). (part classes locals (out-Operand u).operand).labels) us
  chain_labels x e us is = ap (λ (p : Part). p.labels) (in_chain x e us is) ∙ ap (λ (l : List ℕ). (part classes locals e).labels ++ l) (all_labels us)

  abbrev pub tail_at : List ℕ → Option ℕ → Operand → List Owed
  tail_at pc failure u = (part classes locals (out-Operand u).operand).owes pc failure ++ division (out-Operand u).operator (out-Operand u).at (pc ++ (part classes locals (out-Operand u).operand).labels) failure

  all_owed : (pc : List ℕ) (failure : Option ℕ) (us : List Operand) → flat_map (tail_owes classes locals pc failure) (map in_other us) ≡ flat_map (tail_at pc failure) us
  all_owed pc failure [] = refl
  all_owed pc failure (u ∷ us) =
      ap (λ (t : Tail). tail_owes classes locals pc failure t ++ flat_map (tail_owes classes locals pc failure) (map in_other us)) (by_operand u)
      ∙ ap (λ (l : List Owed). tail_at pc failure u ++ l) (all_owed pc failure us)

  pub chain_owes : (x e : Expression) (us : List Operand) (pc : List ℕ) (failure : Option ℕ) → (out-Expression x).form ≡ kinds.Chain e us →
      (part classes locals x).owes pc failure ≡ (part classes locals e).owes pc failure ++ flat_map (tail_at pc failure) us
  chain_owes x e us pc failure is = ap (λ (p : Part). p.owes pc failure) (in_chain x e us is) ∙ ap (λ (l : List Owed). (part classes locals e).owes pc failure ++ l) (all_owed pc failure us)

  in_compared : (x e g : Expression) (c : Comparison) → (out-Expression x).form ≡ kinds.Compared e c g → part classes locals x ≡ form_step classes locals (parts.Compared (part classes locals e) c (part classes locals g))
  in_compared x e g c is =
      by_form x ∙ ap in_form (is ∙ sym (kinds.rolls-Compared e c g))
      ∙ fold-roll-Form Part Part Tail (form_step classes locals) (λ e. e.form) (λ u. record { operator = u.operator; at = u.at; part = u.operand }) (parts.Compared e c g)

  pub compared_labels : (x e g : Expression) (c : Comparison) → (out-Expression x).form ≡ kinds.Compared e c g → (part classes locals x).labels ≡ (part classes locals e).labels ++ (part classes locals g).labels
  compared_labels x e g c is = ap (λ (p : Part). p.labels) (in_compared x e g c is)

  pub compared_owes : (x e g : Expression) (c : Comparison) (pc : List ℕ) (failure : Option ℕ) → (out-Expression x).form ≡ kinds.Compared e c g →
      (part classes locals x).owes pc failure ≡ (part classes locals e).owes pc failure ++ (part classes locals g).owes pc failure
  compared_owes x e g c pc failure is = ap (λ (p : Part). p.owes pc failure) (in_compared x e g c is)

  -- a form that reads nothing behind a local owes nothing
  pub number_owes : (x : Expression) (pc : List ℕ) (failure : Option ℕ)
      → ((n : Number) × ((out-Expression x).form ≡ kinds.Number n)) ⊎ (((out-Expression x).form ≡ kinds.Null) ⊎ ((u : Use) × ((out-Expression x).form ≡ kinds.Local u)))
      → (part classes locals x).owes pc failure ≡ []
  number_owes x pc failure (inl (n, is)) = ap (λ (p : Part). p.owes pc failure) (by_form x ∙ ap in_form (is ∙ sym (kinds.rolls-Number n)) ∙ fold-roll-Form Part Part Tail (form_step classes locals) (λ e. e.form) (λ u. record { operator = u.operator; at = u.at; part = u.operand }) (parts.Number n))
  number_owes x pc failure (inr (inl is)) = ap (λ (p : Part). p.owes pc failure) (by_form x ∙ ap in_form (is ∙ sym kinds.rolls-Null) ∙ fold-roll-Form Part Part Tail (form_step classes locals) (λ e. e.form) (λ u. record { operator = u.operator; at = u.at; part = u.operand }) parts.Null)
  number_owes x pc failure (inr (inr (u, is))) = ap (λ (p : Part). p.owes pc failure) (by_form x ∙ ap in_form (is ∙ sym (kinds.rolls-Local u)) ∙ fold-roll-Form Part Part Tail (form_step classes locals) (λ e. e.form) (λ u. record { operator = u.operator; at = u.at; part = u.operand }) (parts.Local u))
