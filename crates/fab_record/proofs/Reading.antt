-- Whether what an expression reads is seen, by its form.
use Rattle.std.proofs.Common.{◌≡◌, ℕ, Bool, true, false, ◌&&◌, List, [], ◌∷◌, refl, sym, ap, ◌∙◌}
use Rattle.std.specs.List.{flat_map, list_all}
use Rattle.std.proofs.lemmas.List.Folds.{list_all-append}
use Rattle.fab_tree.specs.declared.expression.Comparison.{Comparison}
use Rattle.fab_tree.specs.declared.resolved.Expression.{Expression, out-Expression}
use Rattle.fab_tree.specs.declared.resolved.Form.TheVariants as kinds
use Rattle.fab_tree.specs.declared.resolved.Operand.{Operand, out-Operand}
use Rattle.fab_labelling.specs.Obligations.{part}
use Rattle.fab_check.proofs.Forms.{chain_labels, compared_labels}
use Rattle.fab_record.specs.declared.scope.Scope.{Scope}
use Rattle.fab_record.specs.Scopes.{reads_seen}

pub all_flat : {A : Type 0} (p : ℕ → Bool) (f : A → List ℕ) (xs : List A) → list_all p (flat_map f xs) ≡ list_all (λ x. list_all p (f x)) xs
all_flat p f [] = refl
all_flat p f (x ∷ xs) = list_all-append p (f x) (flat_map f xs) ∙ ap (λ b. list_all p (f x) && b) (all_flat p f xs)

module _ (c : Scope) where
  abbrev others_seen : List Operand → Bool
  others_seen us = list_all (λ (u : Operand). reads_seen c (out-Operand u).operand) us

  pub chain_seen : (x e : Expression) (us : List Operand) → (out-Expression x).form ≡ kinds.Chain e us → reads_seen c x ≡ (reads_seen c e && others_seen us)
  chain_seen x e us is =
      ap (list_all _) (chain_labels c.classes.now c.locals.now x e us is)
      ∙ list_all-append _ (part c.classes.now c.locals.now e).labels _
      ∙ ap (λ b. reads_seen c e && b) (all_flat _ (λ (u : Operand). (part c.classes.now c.locals.now (out-Operand u).operand).labels) us)

  pub compared_seen : (x e g : Expression) (o : Comparison) → (out-Expression x).form ≡ kinds.Compared e o g → reads_seen c x ≡ (reads_seen c e && reads_seen c g)
  compared_seen x e g o is =
      ap (list_all _) (compared_labels c.classes.now c.locals.now x e g o is)
      ∙ list_all-append _ (part c.classes.now c.locals.now e).labels (part c.classes.now c.locals.now g).labels

-- a test of two parts, of which the second is made only if the first holds
pub first_holds : (first a b r whole : Bool) → whole ≡ (a && b) → first ≡ a → first ≡ true → r ≡ b → r ≡ whole
first_holds first a b r whole is of holds rest = rest ∙ sym (is ∙ ap (λ (x : Bool). x && b) (sym of ∙ holds))

pub first_fails : (first a b whole : Bool) → whole ≡ (a && b) → first ≡ a → first ≡ false → first ≡ whole
first_fails first a b whole is of fails = fails ∙ sym (is ∙ ap (λ (x : Bool). x && b) (sym of ∙ fails))
