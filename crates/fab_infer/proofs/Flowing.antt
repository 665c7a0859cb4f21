-- What flows, by the form of a statement.
use Rattle.std.proofs.Common.{◌≡◌, ℕ, ◌+◌, ◌<◌, ◌≤◌, List, [], ◌∷◌, ◌++◌, drop, length, length-drop, get_or, Option, Some, None, refl, sym, ap, ◌∙◌, arith}
use Rattle.std.specs.Prelude.{slice_get}
use Rattle.std.specs.List.{flat_map}
use Rattle.std.proofs.lemmas.List.{append-nil}
use Rattle.fab_tree.specs.declared.resolved.Use.{Use}
use Rattle.fab_tree.specs.declared.resolved.Expression.{Expression}
use Rattle.fab_tree.specs.declared.resolved.Right.{Right}
use Rattle.fab_tree.specs.declared.resolved.Statement.{Statement, roll-Statement, map-Statement, fold-roll-Statement}
use Rattle.fab_tree.specs.declared.resolved.Statement.TheVariants as kinds
use Rattle.fab_tree.specs.declared.resolved.Statement.TheOpen as s
use Rattle.fab_tree.specs.declared.resolved.Class.{Class}
use Rattle.fab_tree.specs.declared.resolved.Method.{Method}
use Rattle.fab_tree.specs.declared.resolved.Local.{Local}
use Rattle.fab_labelling.specs.Obligations.{label_of_local, parameter_labels, under}
use Rattle.fab_holes.specs.Flowing as f
use Rattle.fab_holes.specs.Flowing.{Flowing, all_to, flows_step, method_flows}
use Rattle.fab_authority.proofs.Walks.{front}
use Rattle.fab_infer.specs.Shown.{assigning, block_flows, call_flows, given_flows, inside_of, labels_of, right_flows, right_labels, statement_flows}
use Rattle.fab_infer.specs.declared.scope.Scope.{Scope}
use Rattle.fab_infer.proofs.Gathering.{in_none, in_parts, with_flows}

module _ (x : Scope) (pc : List ℕ) where
  by_layer : (t : Statement) (y : s.Statement-F Statement) → t ≡ roll-Statement y
      → statement_flows x pc t ≡ flows_step x.names.classes.now x.methods.now x.names.locals.now [] (map-Statement Statement (Flowing x.names.classes.now x.methods.now x.names.locals.now []) (f.statement_flows x.names.classes.now x.methods.now x.names.locals.now []) y) pc
  by_layer t y is =
      ap (statement_flows x pc) is
      ∙ ap (λ (g : List ℕ → List (ℕ × ℕ)). g pc) (fold-roll-Statement (List ℕ → List (ℕ × ℕ)) (flows_step x.names.classes.now x.methods.now x.names.locals.now []) y)

  pub of_assign : (t : Statement) (local : ℕ) (r : Right) (at : ℕ) → t ≡ kinds.Assign local r at → statement_flows x pc t ≡ assigning x pc local r
  of_assign t local r at is = by_layer t (s.Assign local r at) (is ∙ sym (kinds.rolls-Assign local r at))

  pub of_write : (t : Statement) (o : Use) (field : ℕ) (e : Expression) (site : ℕ) → t ≡ kinds.Write o field e site → statement_flows x pc t ≡ []
  of_write t o field e site is = by_layer t (s.Write o field e site) (is ∙ sym (kinds.rolls-Write o field e site))

  pub of_call : (t : Statement) (m : Use) (es : List Expression) → t ≡ kinds.Call m es → statement_flows x pc t ≡ call_flows x pc m es
  of_call t m es is = by_layer t (s.Call m es) (is ∙ sym (kinds.rolls-Call m es))

  pub of_if : (t : Statement) (e : Expression) (block otherwise : List Statement) → t ≡ kinds.If e block otherwise
      → statement_flows x pc t ≡ block_flows x (inside_of x.names pc e) block ++ block_flows x (inside_of x.names pc e) otherwise
  of_if t e block otherwise is = by_layer t (s.If e block otherwise) (is ∙ sym (kinds.rolls-If e block otherwise))

  pub of_while : (t : Statement) (e : Expression) (block : List Statement) → t ≡ kinds.While e block → statement_flows x pc t ≡ block_flows x (inside_of x.names pc e) block
  of_while t e block is = by_layer t (s.While e block) (is ∙ sym (kinds.rolls-While e block))

  pub of_atomic : (t : Statement) (l : Use) (block otherwise : List Statement) (at : ℕ) → t ≡ kinds.Atomic l block otherwise at
      → statement_flows x pc t ≡ block_flows x (under pc (l.number ∷ [])) block ++ block_flows x (under pc (l.number ∷ [])) otherwise
  of_atomic t l block otherwise at is = by_layer t (s.Atomic l block otherwise at) (is ∙ sym (kinds.rolls-Atomic l block otherwise at))

  pub of_fail : (t : Statement) (at : ℕ) → t ≡ kinds.Fail at → statement_flows x pc t ≡ []
  of_fail t at is = by_layer t (s.Fail at) (is ∙ sym (kinds.rolls-Fail at))

-- the same block under the same labels
pub same_block : (x : Scope) (pc qs : List ℕ) (xs ys : List Statement) → pc ≡ qs → xs ≡ ys → block_flows x pc xs ≡ block_flows x qs ys
same_block x pc qs xs ys e g = λ i. block_flows x (e i) (g i)

pub two_parts : (whole xs ys zs ws : List (ℕ × ℕ)) → whole ≡ xs ++ ys → zs ≡ xs → ws ≡ ys → whole ≡ zs ++ ws
two_parts whole xs ys zs ws is e g = is ∙ (λ i. sym e i ++ sym g i)

-- what a method is allowed plays no part
pub no_authority : (classes : List Class) (methods : List Method) (m : Method) → f.block_flows classes methods m.locals [] m.body (m.begin.number ∷ []) ≡ method_flows classes methods m
no_authority classes methods m = refl

-- ---- values that are given in turn

module _ (x : Scope) (pc : List ℕ) (out : List (ℕ × ℕ)) where
  pub given_none : (whole : List (ℕ × ℕ)) (es : List Expression) (to : List ℕ) → length to ≡ 0 → with_flows x.count out (given_flows x pc es to) ≡ whole → out ≡ whole
  given_none whole [] to empty so_far = sym (in_none x.count out) ∙ so_far
  given_none whole (e ∷ es) [] empty so_far = sym (in_none x.count out) ∙ so_far
  given_none whole (e ∷ es) (l ∷ ls) empty so_far = absurd (omega (arith, empty))

  pub given_more : (more whole : List (ℕ × ℕ)) (es : List Expression) (i : ℕ) (e : Expression) → i < length es → e ≡ get_or es i e → (l : ℕ) (to after : List ℕ) → to ≡ l ∷ after
      → more ≡ with_flows x.count out (all_to (pc ++ labels_of x.names e) l) → with_flows x.count out (given_flows x pc (drop i es) to) ≡ whole → with_flows x.count more (given_flows x pc (drop (i + 1) es) after) ≡ whole
  given_more more whole es i e within is l to after is_to next so_far =
      let rest = given_flows x pc (drop (i + 1) es) after in
      ap (λ (z : List (ℕ × ℕ)). with_flows x.count z rest) next
      ∙ sym (in_parts x.count out (all_to (pc ++ labels_of x.names e) l) rest)
      ∙ ap (λ (ys : List Expression). with_flows x.count out (given_flows x pc ys (l ∷ after))) (sym (front es i e within is))
      ∙ ap (λ (ls : List ℕ). with_flows x.count out (given_flows x pc (drop i es) ls)) (sym is_to)
      ∙ so_far

  pub given_end : (whole : List (ℕ × ℕ)) (es : List Expression) (i : ℕ) (to : List ℕ) → length es ≤ i → with_flows x.count out (given_flows x pc (drop i es) to) ≡ whole → out ≡ whole
  given_end whole es i to past so_far = sym (in_none x.count out) ∙ ap (λ (ys : List Expression). with_flows x.count out (given_flows x pc ys to)) (sym (empty (drop i es) (simp length-drop (omega arith)))) ∙ so_far
    where
      empty : (ys : List Expression) → length ys ≡ 0 → ys ≡ []
      empty [] e = refl
      empty (y ∷ ys) e = absurd (omega (arith, e))

-- ---- calls

given_nothing : (x : Scope) (pc : List ℕ) (es : List Expression) → given_flows x pc es [] ≡ []
given_nothing x pc [] = refl
given_nothing x pc (e ∷ es) = refl

module _ (x : Scope) (pc : List ℕ) (m : Use) (es : List Expression) where
  abbrev given_to : Option Method → List (ℕ × ℕ)
  given_to o = given_flows x pc es (f.parameters_of x.names.classes.now x.methods.now x.names.locals.now [] o)

  pub of_unknown : slice_get x.methods.now m.number ≡ None → call_flows x pc m es ≡ []
  of_unknown e = ap given_to e ∙ given_nothing x pc es

  pub of_called : (called : Method) → slice_get x.methods.now m.number ≡ Some called → call_flows x pc m es ≡ given_flows x pc es (parameter_labels called)
  of_called called e = ap given_to e

-- ---- assignments

module _ (x : Scope) (pc : List ℕ) (local : ℕ) (r : Right) where
  pub of_no_local : slice_get x.names.locals.now local ≡ None → assigning x pc local r ≡ right_flows x pc r
  of_no_local e = ap (λ (o : Option Local). right_flows x pc r ++ flat_map (all_to (pc ++ right_labels x r)) (label_of_local o)) e ∙ append-nil (right_flows x pc r)

  pub of_local : (l : Local) → slice_get x.names.locals.now local ≡ Some l → assigning x pc local r ≡ right_flows x pc r ++ all_to (pc ++ right_labels x r) l.label.number
  of_local l e = ap (λ (o : Option Local). right_flows x pc r ++ flat_map (all_to (pc ++ right_labels x r)) (label_of_local o)) e ∙ ap (λ (ps : List (ℕ × ℕ)). right_flows x pc r ++ ps) (append-nil (all_to (pc ++ right_labels x r) l.label.number))
