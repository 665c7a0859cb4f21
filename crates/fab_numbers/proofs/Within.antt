-- The parts of what is numbered, of which each ends no later than the whole.
use Rattle.std.proofs.Common.{◌≡◌, ℕ, suc, ◌≤◌, List, map, length, option_map, Option, Some, None, sym, ap, ◌∙◌, arith}
use Rattle.std.specs.List.{flat_map}
use Rattle.fab_tree.specs.declared.name.Name.{Name}
use Rattle.fab_tree.specs.declared.expression.Comparison.{Comparison}
use Rattle.fab_tree.specs.declared.expression.Expression.{Expression}
use Rattle.fab_tree.specs.declared.expression.Form.{Form}
use Rattle.fab_tree.specs.declared.expression.Form.TheVariants as forms
use Rattle.fab_tree.specs.declared.expression.Operand.{Operand, out-Operand, roll-out-Operand}
use Rattle.fab_tree.specs.declared.statement.Statement.{Statement}
use Rattle.fab_tree.specs.declared.statement.Statement.TheVariants as statements
use Rattle.fab_tree.specs.declared.statement.Statement.TheOpen as s
use Rattle.fab_tree.specs.declared.program.Parameter.{Parameter}
use Rattle.fab_tree.specs.declared.program.Method.{Method}
use Rattle.fab_tree.specs.declared.start.Start.{Start}
use Rattle.fab_tree.specs.declared.resolved.Use.{Use}
use Rattle.fab_tree.specs.declared.resolved.Expression.{Expression as NumberedExpression}
use Rattle.fab_tree.specs.declared.resolved.Form.TheVariants as nf
use Rattle.fab_tree.specs.declared.resolved.Operand.{Operand as NumberedOperand}
use Rattle.fab_tree.specs.declared.resolved.Statement.{Statement as NumberedStatement}
use Rattle.fab_tree.specs.declared.resolved.Statement.TheVariants as ns
use Rattle.fab_tree.specs.declared.resolved.Local.{Local as NumberedLocal}
use Rattle.fab_tree.specs.declared.resolved.Returns.{Returns as NumberedReturns}
use Rattle.fab_tree.specs.declared.resolved.Return.{Return as NumberedReturn}
use Rattle.fab_tree.specs.declared.resolved.Method.{Method as NumberedMethod}
use Rattle.fab_tree.specs.Limits.{locals_of}
use Rattle.fab_tree.specs.Sites.{in_expression, in_statement, in_result}
use Rattle.fab_language.specs.Uses.{local_use, field_number, label_use, principal_use}
use Rattle.fab_language.specs.MethodNumbers.{Numbered, made_of, made_of_two, made_of_three, at_site, in_turn, operand_at, form_of, expression_of, operand_of, statement_of, block_of, result_of, numbered_local, returns_of, method_with, method_of}
use Rattle.fab_language.proofs.NumberedForms.{operand_numbers, chain_numbers, compared_numbers, write_numbers, statement_numbers}
use Rattle.fab_numbers.proofs.InTurn.{Takes, grows, first_within, first_within_three, second_within_three}
use Rattle.fab_numbers.proofs.SitesTaken.{expression_takes, operands_take_all, in_operand, block_takes, other_of, in_other, other_takes, result_takes}

-- a site of its own comes before those of its part
pub site_within : {A B : Type 0} (f : ℕ → A → B) (m : Numbered A) (k n : ℕ) → Takes m k → suc n ≤ (at_site f m n).1
site_within f m k n t = grows m k t (suc n)

module _ (start : Start) (locals : List Parameter) where
  -- ---- expressions

  pub chain_first : (x : Form) (e : Expression) (us : List Operand) (n : ℕ) → x ≡ forms.Chain e us → (expression_of start locals e n).1 ≤ (form_of start locals x n).1
  chain_first x e us n is =
      let l = first_within nf.Chain (expression_of start locals e) (in_turn (map (operand_of start locals) us)) (length (flat_map in_operand us)) (operands_take_all start locals us) n in
      let s = ap (λ w. (w n).1) (ap (form_of start locals) is ∙ chain_numbers start locals e us) in
      omega (arith, l, s)

  pub compared_first : (x : Form) (e g : Expression) (c : Comparison) (n : ℕ) → x ≡ forms.Compared e c g → (expression_of start locals e n).1 ≤ (form_of start locals x n).1
  compared_first x e g c n is =
      let l = first_within (λ y z. nf.Compared y c z) (expression_of start locals e) (expression_of start locals g) (length (in_expression g)) (expression_takes start locals g) n in
      let s = ap (λ w. (w n).1) (ap (form_of start locals) is ∙ compared_numbers start locals e g c) in
      omega (arith, l, s)

  -- an operand is as its expression
  pub operand_is : (u : Operand) (n : ℕ) → operand_of start locals u n ≡ made_of (operand_at (out-Operand u).at (out-Operand u).operator) (expression_of start locals (out-Operand u).operand) n
  operand_is u n =
      ap (λ w. operand_of start locals w n) (sym (roll-out-Operand u))
      ∙ ap (λ w. w n) (operand_numbers start locals (out-Operand u).at (out-Operand u).operator (out-Operand u).operand)

  -- ---- statements

  pub write_is : (x y : Name) (e : Expression) (n : ℕ) → statement_of start locals (statements.Write x y e) n ≡ at_site (λ k v. ns.Write (local_use locals x) (field_number start locals x y) v k) (expression_of start locals e) n
  write_is x y e n = ap (λ w. w n) (write_numbers start locals x y e)

  pub if_is : (e : Expression) (block : List Statement) (otherwise : Option (List Statement)) (n : ℕ) → statement_of start locals (statements.If e block otherwise) n ≡ made_of_three ns.If (expression_of start locals e) (block_of start locals block) (other_of start locals otherwise) n
  if_is e block None n = ap (λ w. w n) (statement_numbers start locals (statements.If e block None) (s.If e block None) (sym (statements.rolls-If e block None)))
  if_is e block (Some other) n = ap (λ w. w n) (statement_numbers start locals (statements.If e block (Some other)) (s.If e block (Some other)) (sym (statements.rolls-If e block (Some other))))

  pub while_is : (e : Expression) (block : List Statement) (n : ℕ) → statement_of start locals (statements.While e block) n ≡ made_of_two ns.While (expression_of start locals e) (block_of start locals block) n
  while_is e block n = ap (λ w. w n) (statement_numbers start locals (statements.While e block) (s.While e block) (sym (statements.rolls-While e block)))

  pub atomic_is : (x : Name) (block other : List Statement) (at n : ℕ) → statement_of start locals (statements.Atomic x block other at) n ≡ made_of_two (λ b o. ns.Atomic (label_use start x) b o at) (block_of start locals block) (block_of start locals other) n
  atomic_is x block other at n = ap (λ w. w n) (statement_numbers start locals (statements.Atomic x block other at) (s.Atomic x block other at) (sym (statements.rolls-Atomic x block other at)))

  module _ (e : Expression) (block : List Statement) (otherwise : Option (List Statement)) (n : ℕ) where
    pub if_second : (seen : List Statement) (m : ℕ) (made : NumberedExpression) → seen ≡ block → expression_of start locals e n ≡ (made, m) → (block_of start locals seen m).1 ≤ (statement_of start locals (statements.If e block otherwise) n).1
    if_second seen m made same before =
        let l = second_within_three ns.If (expression_of start locals e) (block_of start locals block) (other_of start locals otherwise) (length (flat_map in_statement block)) (length (in_other start locals otherwise)) (block_takes start locals block) (other_takes start locals otherwise) n in
        let s = ap (λ (w : NumberedStatement × ℕ). w.1) (if_is e block otherwise n) in
        let j =
        ap (λ xs. (block_of start locals xs m).1) same
        ∙ ap (λ (w : NumberedExpression × ℕ). (block_of start locals block w.1).1) (sym before) in
        omega (arith, l, s, j)

    pub if_first : (expression_of start locals e n).1 ≤ (statement_of start locals (statements.If e block otherwise) n).1
    if_first =
        let l = first_within_three ns.If (expression_of start locals e) (block_of start locals block) (other_of start locals otherwise) (length (flat_map in_statement block)) (length (in_other start locals otherwise)) (block_takes start locals block) (other_takes start locals otherwise) n in
        let s = ap (λ (w : NumberedStatement × ℕ). w.1) (if_is e block otherwise n) in
        omega (arith, l, s)

  pub while_first : (e : Expression) (block : List Statement) (n : ℕ) → (expression_of start locals e n).1 ≤ (statement_of start locals (statements.While e block) n).1
  while_first e block n =
      let l = first_within ns.While (expression_of start locals e) (block_of start locals block) (length (flat_map in_statement block)) (block_takes start locals block) n in
      let s = ap (λ (w : NumberedStatement × ℕ). w.1) (while_is e block n) in
      omega (arith, l, s)

  pub atomic_first : (x : Name) (block seen other : List Statement) (at n : ℕ) → seen ≡ block → (block_of start locals seen n).1 ≤ (statement_of start locals (statements.Atomic x block other at) n).1
  atomic_first x block seen other at n same =
      let l = first_within (λ b o. ns.Atomic (label_use start x) b o at) (block_of start locals block) (block_of start locals other) (length (flat_map in_statement other)) (block_takes start locals other) n in
      let s = ap (λ (w : NumberedStatement × ℕ). w.1) (atomic_is x block other at n) in
      let j = ap (λ xs. (block_of start locals xs n).1) same in
      omega (arith, l, s, j)

  -- what an operand's expression was refused for, the operand is
  pub operand_within : (u : Operand) (n whole : ℕ) → (operand_of start locals u n).1 ≤ whole → (expression_of start locals (out-Operand u).operand n).1 ≤ whole
  operand_within u n whole h =
      let s = ap (λ (w : NumberedOperand × ℕ). w.1) (operand_is u n) in
      omega (arith, h, s)

  pub write_first : (x y : Name) (e : Expression) (n : ℕ) → suc n ≤ (statement_of start locals (statements.Write x y e) n).1
  write_first x y e n =
      let l = site_within (λ k v. ns.Write (local_use locals x) (field_number start locals x y) v k) (expression_of start locals e) (length (in_expression e)) n (expression_takes start locals e) in
      let s = ap (λ (w : NumberedStatement × ℕ). w.1) (write_is x y e n) in
      omega (arith, l, s)

  -- a write that took its site
  module _ (x y : Name) (e : Expression) (n site m : ℕ) (took : ◌≡◌ {A = ℕ × ℕ} (n, suc n) (site, m)) where
    site_is : n ≡ site
    site_is = ap (λ (w : ℕ × ℕ). w.0) took

    next_is : suc n ≡ m
    next_is = ap (λ (w : ℕ × ℕ). w.1) took

    pub write_second : (expression_of start locals e m).1 ≤ (statement_of start locals (statements.Write x y e) n).1
    write_second =
        let s = ap (λ (w : NumberedStatement × ℕ). w.1) (write_is x y e n) in
        let j = ap (λ k. (expression_of start locals e k).1) next_is in
        omega (arith, s, j)

    pub write_made : (v : NumberedExpression) (next : ℕ) (used : Use) (field : ℕ) → expression_of start locals e m ≡ (v, next) → used ≡ local_use locals x → field ≡ field_number start locals x y → statement_of start locals (statements.Write x y e) n ≡ (ns.Write used field v site, next)
    write_made v next used field made is_use is_field =
        write_is x y e n
        ∙ ap (λ (w : NumberedExpression × ℕ). (ns.Write (local_use locals x) (field_number start locals x y) w.0 n, w.1)) (ap (expression_of start locals e) next_is ∙ made)
        ∙ ap (λ k. (ns.Write (local_use locals x) (field_number start locals x y) v k, next)) site_is
        ∙ ap (λ u. (ns.Write u (field_number start locals x y) v site, next)) (sym is_use)
        ∙ ap (λ k. (ns.Write used k v site, next)) (sym is_field)

-- ---- methods

module _ (start : Start) (m : Method) (locals : List Parameter) (seen : List Statement) (n : ℕ) (are : locals ≡ locals_of m) (same : seen ≡ m.body) where
  body_is : block_of start locals seen n ≡ block_of start (locals_of m) m.body n
  body_is = ap (λ l. block_of start l seen n) are ∙ ap (λ xs. block_of start (locals_of m) xs n) same

  pub method_first : (block_of start locals seen n).1 ≤ (method_of start m n).1
  method_first =
      let l = first_within (method_with start m) (block_of start (locals_of m) m.body) (result_of start (locals_of m) m.result) (length (in_result m.result)) (result_takes start (locals_of m) m.result) n in
      let s = ap (λ (w : List NumberedStatement × ℕ). w.1) body_is in
      omega (arith, l, s)

  module _ (body : List NumberedStatement) (k : ℕ) (made : block_of start locals seen n ≡ (body, k)) where
    result_is : result_of start locals m.result k ≡ result_of start (locals_of m) m.result (block_of start (locals_of m) m.body n).1
    result_is =
        ap (λ l. result_of start l m.result k) are
        ∙ ap (λ (w : List NumberedStatement × ℕ). result_of start (locals_of m) m.result w.1) (sym made ∙ body_is)

    pub method_second : (result_of start locals m.result k).1 ≤ (method_of start m n).1
    method_second = let s = ap (λ (w : Option NumberedReturn × ℕ). w.1) result_is in omega (arith, s)

    -- both parts were numbered
    pub method_made : (result : Option NumberedReturn) (next : ℕ) → result_of start locals m.result k ≡ (result, next) → method_of start m n ≡ (method_with start m body result, next)
    method_made result next given =
        ap (λ (w : List NumberedStatement × ℕ). let r = result_of start (locals_of m) m.result w.1 in (method_with start m w.0 r.0, r.1)) (sym body_is ∙ made)
        ∙ ap (λ l. let r = result_of start l m.result k in (method_with start m body r.0, r.1)) (sym are)
        ∙ ap (λ (r : Option NumberedReturn × ℕ). (method_with start m body r.0, r.1)) given

  -- a method of these parts
  pub parts_are : (body : List NumberedStatement) (result : Option NumberedReturn) (name : Name) (parameters : ℕ) (numbered : List NumberedLocal) (returns : Option NumberedReturns) (begin : Use) (authority : List Use)
      → name ≡ m.name → parameters ≡ length m.parameters → numbered ≡ map (numbered_local start) locals → returns ≡ option_map (returns_of start) m.returns → begin ≡ label_use start m.begin → authority ≡ map (principal_use start) m.authority
      → ◌≡◌ {A = NumberedMethod} (method_with start m body result) (record { name = name; parameters = parameters; locals = numbered; returns = returns; begin = begin; fails = m.fails; authority = authority; body = body; result = result })
  parts_are body result name parameters numbered returns begin authority a b c d e f =
      let whole : Name → ℕ → List NumberedLocal → Option NumberedReturns → Use → List Use → NumberedMethod =
      λ v w x y z u. record { name = v; parameters = w; locals = x; returns = y; begin = z; fails = m.fails; authority = u; body = body; result = result } in
      ap (λ v. whole v (length m.parameters) (map (numbered_local start) (locals_of m)) (option_map (returns_of start) m.returns) (label_use start m.begin) (map (principal_use start) m.authority)) (sym a)
      ∙ ap (λ w. whole name w (map (numbered_local start) (locals_of m)) (option_map (returns_of start) m.returns) (label_use start m.begin) (map (principal_use start) m.authority)) (sym b)
      ∙ ap (λ x. whole name parameters x (option_map (returns_of start) m.returns) (label_use start m.begin) (map (principal_use start) m.authority)) (sym (c ∙ ap (map (numbered_local start)) are))
      ∙ ap (λ y. whole name parameters numbered y (label_use start m.begin) (map (principal_use start) m.authority)) (sym d)
      ∙ ap (λ z. whole name parameters numbered returns z (map (principal_use start) m.authority)) (sym e)
      ∙ ap (λ u. whole name parameters numbered returns begin u) (sym f)
