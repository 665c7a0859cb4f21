-- The locals that the blocks of a statement declare.
use Rattle.std.proofs.Common.{◌≡◌, ℕ, List, [], ◌∷◌, ◌++◌, map, Option, Some, None, Result, Ok, Err, OnOk, refl, sym, ap, ◌∙◌, append_assoc}
use Rattle.std.specs.List.{flat_map}
use Rattle.std.proofs.lemmas.List.Concat.{flat_map-cons}
use Rattle.fab_tree.specs.declared.name.Name.{Name}
use Rattle.fab_tree.specs.declared.expression.Expression.{Expression}
use Rattle.fab_tree.specs.declared.program.Parameter.{Parameter}
use Rattle.fab_tree.specs.declared.statement.Statement.{Statement, fold-roll-Statement}
use Rattle.fab_tree.specs.declared.statement.Statement.TheVariants as forms
use Rattle.fab_tree.specs.declared.statement.Statement.TheOpen as o
use Rattle.fab_tree.specs.Limits.{declared_in, declared_step}

flat : (xs : List Statement) → flat_map (λ ps. ps) (map declared_in xs) ≡ flat_map declared_in xs
flat [] = refl
flat (x ∷ xs) = flat_map-cons (λ ps. ps) (declared_in x) (map declared_in xs) ∙ ap (λ l. declared_in x ++ l) (flat xs) ∙ sym (flat_map-cons declared_in x xs)

both_flat : (xs ys : List Statement) → flat_map (λ ps. ps) (map declared_in xs) ++ flat_map (λ ps. ps) (map declared_in ys) ≡ flat_map declared_in xs ++ flat_map declared_in ys
both_flat xs ys = ap (λ l. l ++ flat_map (λ ps. ps) (map declared_in ys)) (flat xs) ∙ ap (λ l. flat_map declared_in xs ++ l) (flat ys)

-- ---- those of each statement with blocks

of_if : (e : Expression) (block : List Statement) → declared_in (forms.If e block None) ≡ flat_map declared_in block
of_if e block = ap declared_in (sym (forms.rolls-If e block None)) ∙ fold-roll-Statement (List Parameter) declared_step (o.If e block None) ∙ flat block

of_both : (e : Expression) (block other : List Statement) → declared_in (forms.If e block (Some other)) ≡ flat_map declared_in block ++ flat_map declared_in other
of_both e block other = ap declared_in (sym (forms.rolls-If e block (Some other))) ∙ fold-roll-Statement (List Parameter) declared_step (o.If e block (Some other)) ∙ both_flat block other

of_while : (e : Expression) (block : List Statement) → declared_in (forms.While e block) ≡ flat_map declared_in block
of_while e block = ap declared_in (sym (forms.rolls-While e block)) ∙ fold-roll-Statement (List Parameter) declared_step (o.While e block) ∙ flat block

of_atomic : (x : Name) (block other : List Statement) (at : ℕ) → declared_in (forms.Atomic x block other at) ≡ flat_map declared_in block ++ flat_map declared_in other
of_atomic x block other at = ap declared_in (sym (forms.rolls-Atomic x block other at)) ∙ fold-roll-Statement (List Parameter) declared_step (o.Atomic x block other at) ∙ both_flat block other

-- ---- what is gathered behind what is there

-- one block, seen through a slice
one : (old new made : List Parameter) (block seen : List Statement) → made ≡ flat_map declared_in block → new ≡ old ++ flat_map declared_in seen → seen ≡ block → new ≡ old ++ made
one old new made block seen d h same = h ∙ ap (λ l. old ++ flat_map declared_in l) same ∙ ap (λ l. old ++ l) (sym d)

-- two of them
two : (old mid new made : List Parameter) (block seen other also : List Statement) → made ≡ flat_map declared_in block ++ flat_map declared_in other → mid ≡ old ++ flat_map declared_in seen → seen ≡ block → new ≡ mid ++ flat_map declared_in also → also ≡ other → new ≡ old ++ made
two old mid new made block seen other also d h same k too =
    k ∙ ap (λ l. mid ++ flat_map declared_in l) too ∙ ap (λ l. l ++ flat_map declared_in other) (h ∙ ap (λ l. old ++ flat_map declared_in l) same)
    ∙ append_assoc old (flat_map declared_in block) (flat_map declared_in other) ∙ ap (λ l. old ++ l) (sym d)

module _ (old new : List Parameter) (x : Statement) (e : Expression) (block seen : List Statement) where
  pub gathered_none : (otherwise : Option (List Statement)) → x ≡ forms.If e block otherwise → otherwise ≡ None → new ≡ old ++ flat_map declared_in seen → seen ≡ block → new ≡ old ++ declared_in x
  gathered_none otherwise is none = one old new (declared_in x) block seen (ap declared_in (is ∙ ap (λ w. forms.If e block w) none) ∙ of_if e block)

  pub gathered_some : (mid : List Parameter) (other also : List Statement) (otherwise : Option (List Statement)) → x ≡ forms.If e block otherwise → otherwise ≡ Some other → mid ≡ old ++ flat_map declared_in seen → seen ≡ block → new ≡ mid ++ flat_map declared_in also → also ≡ other → new ≡ old ++ declared_in x
  gathered_some mid other also otherwise is some = two old mid new (declared_in x) block seen other also (ap declared_in (is ∙ ap (λ w. forms.If e block w) some) ∙ of_both e block other)

  pub gathered_while : x ≡ forms.While e block → new ≡ old ++ flat_map declared_in seen → seen ≡ block → new ≡ old ++ declared_in x
  gathered_while is = one old new (declared_in x) block seen (ap declared_in is ∙ of_while e block)

pub gathered_atomic : (old mid new : List Parameter) (x : Statement) (y : Name) (at : ℕ) (block seen other also : List Statement) → x ≡ forms.Atomic y block other at → mid ≡ old ++ flat_map declared_in seen → seen ≡ block → new ≡ mid ++ flat_map declared_in also → also ≡ other → new ≡ old ++ declared_in x
gathered_atomic old mid new x y at block seen other also is = two old mid new (declared_in x) block seen other also (ap declared_in is ∙ of_atomic y block other at)

-- what follows where a call succeeds
pub on_ok : {A E : Type 0} (r : Result A E) (P Q : Type 0) → OnOk r P → (P → Q) → OnOk r Q
on_ok (Ok x) P Q h f = f h
on_ok (Err e) P Q h f = tt
