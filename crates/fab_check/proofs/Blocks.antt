-- What statements owe that hold blocks.
use Rattle.std.proofs.Common.{◌≡◌, ℕ, List, [], ◌∷◌, ◌++◌, Option, Some, sym, ap, ◌∙◌}
use Rattle.fab_tree.specs.declared.resolved.Use.{Use}
use Rattle.fab_tree.specs.declared.resolved.Expression.{Expression}
use Rattle.fab_tree.specs.declared.resolved.Statement.{Statement, fold-roll-Statement}
use Rattle.fab_tree.specs.declared.resolved.Statement.TheVariants as kinds
use Rattle.fab_tree.specs.declared.resolved.Statement.TheOpen as s
use Rattle.fab_labelling.specs.declared.rule.LabelRule.TheVariants.{Atomic}
use Rattle.fab_labelling.specs.Obligations.{Owed, all_flow, statement_step, under}
use Rattle.fab_check.specs.Shown.{block_owes, labels_of, numbers_of, owes_of, statement_owes}
use Rattle.fab_check.specs.declared.notes.Under.{Under}
use Rattle.fab_check.specs.declared.scope.Scope.{Scope}

module _ (x : Scope) (u : Under) where
  abbrev inside : Expression → List ℕ
  inside e = under u.pc.now (labels_of x.names e)

  pub if_owes : (e : Expression) (block otherwise : List Statement) →
      statement_owes x u (kinds.If e block otherwise) ≡ owes_of x.names u e ++ block_owes x (inside e) u.failure block ++ block_owes x (inside e) u.failure otherwise
  if_owes e block otherwise =
      ap (statement_owes x u) (sym (kinds.rolls-If e block otherwise))
      ∙ ap (λ (f : List ℕ → Option ℕ → List Owed). f u.pc.now u.failure) (fold-roll-Statement (List ℕ → Option ℕ → List Owed) (statement_step x.names.classes.now x.methods.now x.names.locals.now (numbers_of x.authority.now)) (s.If e block otherwise))

  pub while_owes : (e : Expression) (block : List Statement) → statement_owes x u (kinds.While e block) ≡ owes_of x.names u e ++ block_owes x (inside e) u.failure block
  while_owes e block =
      ap (statement_owes x u) (sym (kinds.rolls-While e block))
      ∙ ap (λ (f : List ℕ → Option ℕ → List Owed). f u.pc.now u.failure) (fold-roll-Statement (List ℕ → Option ℕ → List Owed) (statement_step x.names.classes.now x.methods.now x.names.locals.now (numbers_of x.authority.now)) (s.While e block))

  pub atomic_owes : (l : Use) (block otherwise : List Statement) (at : ℕ) →
      statement_owes x u (kinds.Atomic l block otherwise at) ≡ all_flow Atomic at u.pc.now l.number ++ block_owes x (under u.pc.now (l.number ∷ [])) (Some l.number) block ++ block_owes x (under u.pc.now (l.number ∷ [])) u.failure otherwise
  atomic_owes l block otherwise at =
      ap (statement_owes x u) (sym (kinds.rolls-Atomic l block otherwise at))
      ∙ ap (λ (f : List ℕ → Option ℕ → List Owed). f u.pc.now u.failure) (fold-roll-Statement (List ℕ → Option ℕ → List Owed) (statement_step x.names.classes.now x.methods.now x.names.locals.now (numbers_of x.authority.now)) (s.Atomic l block otherwise at))

-- the same block under the same labels
pub same_block : (x : Scope) (inner : Under) (pc : List ℕ) (failure : Option ℕ) (xs ys : List Statement) → inner.pc.now ≡ pc → inner.failure ≡ failure → xs ≡ ys → block_owes x inner.pc.now inner.failure xs ≡ block_owes x pc failure ys
same_block x inner pc failure xs ys e f g = ap (λ (ls : List ℕ). block_owes x ls inner.failure xs) e ∙ ap (λ (o : Option ℕ). block_owes x pc o xs) f ∙ ap (block_owes x pc failure) g

pub with_one : (whole xs ys zs : List Owed) → whole ≡ xs ++ zs → ys ≡ zs → whole ≡ xs ++ ys
with_one whole xs ys zs is e = is ∙ ap (λ (l : List Owed). xs ++ l) (sym e)

pub with_both : (whole xs ys zs ys2 zs2 : List Owed) → whole ≡ xs ++ ys2 ++ zs2 → ys ≡ ys2 → zs ≡ zs2 → whole ≡ xs ++ ys ++ zs
with_both whole xs ys zs ys2 zs2 is e f = is ∙ ap (λ (l : List Owed). xs ++ l ++ zs2) (sym e) ∙ ap (λ (l : List Owed). xs ++ ys ++ l) (sym f)
