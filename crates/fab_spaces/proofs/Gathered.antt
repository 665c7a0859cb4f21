-- What the blocks of a statement declare.
use Rattle.std.proofs.Common.{◌≡◌, ℕ, List, [], ◌∷◌, ◌++◌, map, Option, Some, None, Result, refl, sym, ap, ◌∙◌, subst, append_assoc}
use Rattle.std.specs.Prelude.{OnOk}
use Rattle.std.specs.List.{flat_map}
use Rattle.std.proofs.lemmas.List.Concat.{flat_map-cons}
use Rattle.fab_tree.specs.declared.name.Name.{Name}
use Rattle.fab_tree.specs.declared.expression.Expression.{Expression}
use Rattle.fab_tree.specs.declared.program.Parameter.{Parameter}
use Rattle.fab_tree.specs.declared.statement.Statement.{Statement, fold-roll-Statement}
use Rattle.fab_tree.specs.declared.statement.Statement.TheVariants as forms
use Rattle.fab_tree.specs.declared.statement.Statement.TheOpen as o
use Rattle.fab_tree.specs.Limits.{joined, declared_in, declared_step}

abbrev in_all : List Statement → List Parameter
in_all = flat_map declared_in

flat : (xs : List Statement) → joined (map declared_in xs) ≡ in_all xs
flat [] = refl
flat (x ∷ xs) = flat_map-cons (λ ps. ps) (declared_in x) (map declared_in xs) ∙ ap (λ l. declared_in x ++ l) (flat xs) ∙ sym (flat_map-cons declared_in x xs)

both : (block other : List Statement) → joined (map declared_in block) ++ joined (map declared_in other) ≡ in_all block ++ in_all other
both block other = ap (λ l. l ++ joined (map declared_in other)) (flat block) ∙ ap (λ l. in_all block ++ l) (flat other)

module _ (x : Statement) (block seen : List Statement) (same : seen ≡ block) where
  -- one block
  pub in_while : (e : Expression) → x ≡ forms.While e block → in_all seen ≡ declared_in x
  in_while e is = ap in_all same ∙ sym (ap declared_in (is ∙ sym (forms.rolls-While e block)) ∙ fold-roll-Statement (List Parameter) declared_step (o.While e block) ∙ flat block)

  pub without_else : (e : Expression) (otherwise : Option (List Statement)) → x ≡ forms.If e block otherwise → otherwise ≡ None → in_all seen ≡ declared_in x
  without_else e otherwise is none =
      ap in_all same
      ∙ sym (ap declared_in (is ∙ ap (forms.If e block) none ∙ sym (forms.rolls-If e block None)) ∙ fold-roll-Statement (List Parameter) declared_step (o.If e block None) ∙ flat block)

  -- two blocks
  module _ (other also : List Statement) (equal : also ≡ other) where
    pub with_else : (e : Expression) (otherwise : Option (List Statement)) → x ≡ forms.If e block otherwise → otherwise ≡ Some other → in_all seen ++ in_all also ≡ declared_in x
    with_else e otherwise is some =
        ap (λ l. in_all l ++ in_all also) same ∙ ap (λ l. in_all block ++ in_all l) equal
        ∙ sym (ap declared_in (is ∙ ap (forms.If e block) some ∙ sym (forms.rolls-If e block (Some other))) ∙ fold-roll-Statement (List Parameter) declared_step (o.If e block (Some other)) ∙ both block other)

    pub in_atomic : (y : Name) (at : ℕ) → x ≡ forms.Atomic y block other at → in_all seen ++ in_all also ≡ declared_in x
    in_atomic y at is =
        ap (λ l. in_all l ++ in_all also) same ∙ ap (λ l. in_all block ++ in_all l) equal
        ∙ sym (ap declared_in (is ∙ sym (forms.rolls-Atomic y block other at)) ∙ fold-roll-Statement (List Parameter) declared_step (o.Atomic y block other at) ∙ both block other)

-- behind those that were there
module _ {E : Type 0} (r : Result (Unit {0}) E) (old new ps : List Parameter) where
  pub behind : (qs : List Parameter) → ps ≡ qs → OnOk r (new ≡ old ++ ps) → OnOk r (new ≡ old ++ qs)
  behind qs e h = subst (λ l. OnOk r (new ≡ old ++ l)) e h

  pub behind_both : (mid qs whole : List Parameter) → mid ≡ old ++ ps → ps ++ qs ≡ whole → OnOk r (new ≡ mid ++ qs) → OnOk r (new ≡ old ++ whole)
  behind_both mid qs whole m e h = subst (λ l. OnOk r (new ≡ l)) (ap (λ l. l ++ qs) m ∙ append_assoc old ps qs ∙ ap (λ l. old ++ l) e) h
