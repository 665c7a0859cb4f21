-- A chain, from its first operand and from the others.
use Rattle.std.proofs.Common.{◌≡◌, Bool, ◌&&◌, List, [], ◌∷◌, map, Err, refl, sym, ap, ◌∙◌, subst}
use Rattle.std.specs.List.{list_all}
use Rattle.fab_base.specs.declared.object.Value.{Value}
use Rattle.fab_tree.specs.declared.expression.Operator.{Operator}
use Rattle.fab_tree.specs.declared.resolved.Method.{Method}
use Rattle.fab_tree.specs.declared.resolved.Expression.{Expression, fold-roll-Expression, roll-out-Expression, out-Expression}
use Rattle.fab_tree.specs.declared.resolved.Form.{Form, fold-roll-Form, fold-Form}
use Rattle.fab_tree.specs.declared.resolved.Form.TheVariants as kinds
use Rattle.fab_tree.specs.declared.resolved.Form.TheOpen as f
use Rattle.fab_tree.specs.declared.resolved.Operand.{Operand, fold-roll-Operand, fold-Operand, roll-out-Operand, out-Operand}
use Rattle.fab_language.specs.Meaning.{State, goes, M, ◌>>=◌, chained, operate}
use Rattle.fab_erasure.specs.Erased.{Part, part_of, shown_if, form_step}
use Rattle.fab_stack.specs.declared.halt.Halt.{Halt}
use Rattle.fab_stack.specs.declared.halt.Halt.TheVariants.{Memory, Ended}
use Rattle.fab_stack.specs.Gives.{Gives}
use Rattle.fab_stack.specs.Points.{Point}
use Rattle.fab_meaning.specs.declared.setting.Setting.{Setting}
use Rattle.fab_meaning.specs.Sights.{sees, shows}
use Rattle.fab_meaning.specs.Settings.{part, value, is_seen, others_of}

module _ (c : Setting) (m : Method) where
  abbrev step : f.Form-F Part Part (Operator × Part) → Part
  step = form_step (sees c.sight) (shows c.sight) c.program.now.classes m.locals

  abbrev in_form : Form → Part
  in_form = fold-Form Part Part (Operator × Part) step (λ x. x.form) (λ u. (u.operator, u.operand))

  abbrev in_other : Operand → Operator × Part
  in_other = fold-Operand Part Part (Operator × Part) step (λ x. x.form) (λ u. (u.operator, u.operand))

  by_form : (x : Expression) → part c m x ≡ in_form (out-Expression x).form
  by_form x = ap (part c m) (sym (roll-out-Expression x)) ∙ fold-roll-Expression Part Part (Operator × Part) step (λ y. y.form) (λ u. (u.operator, u.operand)) (out-Expression x)

  by_operand : (x : Operand) → in_other x ≡ ((out-Operand x).operator, part c m (out-Operand x).operand)
  by_operand x = ap in_other (sym (roll-out-Operand x)) ∙ fold-roll-Operand Part Part (Operator × Part) step (λ y. y.form) (λ u. (u.operator, u.operand)) (out-Operand x)

  all_others : (us : List Operand) → map in_other us ≡ others_of c m us
  all_others [] = refl
  all_others (u ∷ us) = ap (λ x. x ∷ map in_other us) (by_operand u) ∙ ap (λ xs. ((out-Operand u).operator, part c m (out-Operand u).operand) ∷ xs) (all_others us)

  -- what the others make of a value
  abbrev pub rest : List Operand → Value → M Value
  rest us = chained operate (map (λ u. (u.0, u.1.run)) (others_of c m us))

  in_chain : (x first : Expression) (us : List Operand) → (out-Expression x).form ≡ kinds.Chain first us
      → part c m x ≡ part_of ((part c m first).seen && list_all (λ u. u.1.seen) (others_of c m us)) (value c m first >>= rest us)
  in_chain x first us is =
      by_form x ∙ ap in_form (is ∙ sym (kinds.rolls-Chain first us))
      ∙ fold-roll-Form Part Part (Operator × Part) step (λ y. y.form) (λ u. (u.operator, u.operand)) (f.Chain first us)
      ∙ ap (λ xs. step (f.Chain (part c m first) xs)) (all_others us)

  ran : (b : Bool) (run : M Value) (k : Value → M Value) (p q new : State) (v w : Value) → run p ≡ goes v q → k v q ≡ goes w new → (part_of b (run >>= k)).run p ≡ goes (shown_if b w) new
  ran b run k p q new v w e1 e2 = rw (e1, e2) refl

  -- all operands gave their values
  pub chain_goes : (x first : Expression) (us : List Operand) (p q new : State) (v w : Value) → (out-Expression x).form ≡ kinds.Chain first us
      → value c m first p ≡ goes v q → rest us v q ≡ goes w new → value c m x p ≡ goes (shown_if (is_seen c m x) w) new
  chain_goes x first us p q new v w is e1 e2 =
      let e = in_chain x first us is in
      let b = (part c m first).seen && list_all (λ (u : Operator × Part). u.1.seen) (others_of c m us) in
      ap (λ (r : Part). r.run p) e ∙ ran b (value c m first) (rest us) p q new v w e1 e2 ∙ sym (ap (λ (r : Part). goes (shown_if r.seen w) new) e)

  stopped_at : (b : Bool) (run : M Value) (k : Value → M Value) (p q : State) (new : Point) (v : Value) (h : Halt) → run p ≡ goes v q → Gives {A = Value} (Err h) new (k v q) → Gives {A = Value} (Err h) new ((part_of b (run >>= k)).run p)
  stopped_at b run k p q new v Memory e1 g = tt
  stopped_at b run k p q new v (Ended end) e1 g = rw (e1, g) refl

  -- one of the others ended
  pub chain_ends : (x first : Expression) (us : List Operand) (p q : State) (new : Point) (v : Value) (h : Halt) → (out-Expression x).form ≡ kinds.Chain first us
      → value c m first p ≡ goes v q → Gives {A = Value} (Err h) new (rest us v q) → Gives {A = Value} (Err h) new (value c m x p)
  chain_ends x first us p q new v h is e1 g =
      let b = (part c m first).seen && list_all (λ (u : Operator × Part). u.1.seen) (others_of c m us) in
      let P : Part → Type 0 = λ (r : Part). Gives {A = Value} (Err h) new (r.run p) in
      subst P (sym (in_chain x first us is)) (stopped_at b (value c m first) (rest us) p q new v h e1 g)
