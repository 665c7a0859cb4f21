-- Sites with their labels are those of the text, in its order.
use Rattle.std.proofs.Common.{◌≡◌, ℕ, suc, ◌+◌, List, [], ◌∷◌, ◌++◌, map, length, Option, Some, None, refl, sym, ap, ◌∙◌, subst, arith}
use Rattle.std.specs.List.{flat_map, enumerate_from}
use Rattle.std.proofs.lemmas.List.{map-append}
use Rattle.std.proofs.lemmas.List.Concat.{flat_map-cons}
use Rattle.fab_tree.specs.declared.expression.Operator.{Operator}
use Rattle.fab_tree.specs.declared.start.Start.{Start}
use Rattle.fab_tree.specs.declared.resolved.Class.{Class}
use Rattle.fab_tree.specs.declared.resolved.Local.{Local}
use Rattle.fab_tree.specs.declared.resolved.Expression.{Expression, roll-Expression, ind-Expression, fold-roll-Expression}
use Rattle.fab_tree.specs.declared.resolved.Form.{Form, roll-Form, map-Form, fold-Form, fold-roll-Form}
use Rattle.fab_tree.specs.declared.resolved.Form.TheOpen as f
use Rattle.fab_tree.specs.declared.resolved.Operand.{Operand, roll-Operand, fold-Operand, fold-roll-Operand}
use Rattle.fab_tree.specs.declared.resolved.Right.{Right}
use Rattle.fab_tree.specs.declared.resolved.Right.TheVariants as rights
use Rattle.fab_tree.specs.declared.resolved.Statement.{Statement, roll-Statement, map-Statement, ind-Statement, fold-roll-Statement}
use Rattle.fab_tree.specs.declared.resolved.Statement.TheOpen as s
use Rattle.fab_tree.specs.declared.resolved.Return.{Return}
use Rattle.fab_tree.specs.declared.resolved.Method.{Method}
use Rattle.fab_tree.specs.declared.resolved.Resolved.{Resolved}
use Rattle.fab_tree.specs.Sites.{site_places}
use Rattle.fab_language.specs.Numbers.{resolved}
use Rattle.fab_labelling.specs.Obligations.{part, under}
use Rattle.fab_labelling.specs.Sites.{Sited, all_sites, all_under, block_sites, form_sites, in_order, method_sites, pcs_of, return_sites, right_sites, sited, sites_in, sites_of, statement_sites}
use Rattle.fab_numbers.specs.SiteOrder.{Sites, all_of, of_form, of_expression, of_expressions, of_right, of_statement_step, of_statement, of_result, of_method, of_methods}
use Rattle.fab_numbers.proofs.SitesInOrder.{methods_orders}

-- the numbers of sites, whatever stands beside them
abbrev pub firsts : {A : Type 0} → List (ℕ × A) → List ℕ
firsts = map (λ x. x.0)

-- ---- lists with the same numbers

both_same : {A B : Type 0} (a c : List (ℕ × A)) (b d : List (ℕ × B)) → firsts a ≡ firsts b → firsts c ≡ firsts d → firsts (a ++ c) ≡ firsts (b ++ d)
both_same {A} {B} a c b d p q =
    map-append (λ (x : ℕ × A). x.0) a c ∙ ap (λ (l : List ℕ). l ++ firsts c) p ∙ ap (λ (l : List ℕ). firsts b ++ l) q ∙ sym (map-append (λ (x : ℕ × B). x.0) b d)

in_two : {A : Type 0} (a c : List (ℕ × A)) (ns ms : List ℕ) → firsts a ≡ ns → firsts c ≡ ms → firsts (a ++ c) ≡ ns ++ ms
in_two {A} a c ns ms p q = map-append (λ (x : ℕ × A). x.0) a c ∙ ap (λ (l : List ℕ). l ++ firsts c) p ∙ ap (λ (l : List ℕ). ns ++ l) q

-- parts for each of which this is known
parts_same : {K X : Type 0} (a : X → Sites) (b : X → List ℕ) (at : K → X) → ((k : K) → firsts (a (at k)) ≡ b (at k)) → (ks : List K) → firsts (all_of (map a (map at ks))) ≡ all_sites (map b (map at ks))
parts_same a b at each [] = refl
parts_same a b at each (k ∷ ks) =
    ap firsts (flat_map-cons (λ (l : Sites). l) (a (at k)) (map a (map at ks)))
    ∙ in_two (a (at k)) (all_of (map a (map at ks))) (b (at k)) (all_sites (map b (map at ks))) (each k) (parts_same a b at each ks)
    ∙ sym (flat_map-cons (λ (l : List ℕ). l) (b (at k)) (map b (map at ks)))

turn_same : {X : Type 0} (a : X → Sites) (b : X → List ℕ) → ((x : X) → firsts (a x) ≡ b x) → (xs : List X) → firsts (flat_map a xs) ≡ flat_map b xs
turn_same a b each [] = refl
turn_same a b each (x ∷ xs) =
    ap firsts (flat_map-cons a x xs) ∙ in_two (a x) (flat_map a xs) (b x) (flat_map b xs) (each x) (turn_same a b each xs) ∙ sym (flat_map-cons b x xs)

-- sites under the same labels
under_same : (pc ns : List ℕ) → firsts (all_under pc ns) ≡ ns
under_same pc [] = refl
under_same pc (n ∷ ns) = ap (λ (l : List ℕ). n ∷ l) (under_same pc ns)

-- ---- expressions

abbrev of_part : Form → Sites
of_part = fold-Form Sites Sites Sites of_form (λ e. e.form) (λ u. u.operand)

abbrev of_operand : Operand → Sites
of_operand = fold-Operand Sites Sites Sites of_form (λ e. e.form) (λ u. u.operand)

abbrev in_part : Form → List ℕ
in_part = fold-Form (List ℕ) (List ℕ) (List ℕ) form_sites (λ e. e.form) (λ u. u.operand)

abbrev in_operand : Operand → List ℕ
in_operand = fold-Operand (List ℕ) (List ℕ) (List ℕ) form_sites (λ e. e.form) (λ u. u.operand)

abbrev FormSame : Form → Type 0
FormSame x = firsts (of_part x) ≡ in_part x

abbrev ExpressionSame : Expression → Type 0
ExpressionSame x = firsts (of_expression x) ≡ sites_in x

abbrev OperandSame : Operand → Type 0
OperandSame x = firsts (of_operand x) ≡ in_operand x

expression_case : (at : ℕ) (form : Form) → FormSame form → ExpressionSame (roll-Expression (record { form = form; at = at }))
expression_case at form same =
    ap firsts (fold-roll-Expression Sites Sites Sites of_form (λ e. e.form) (λ u. u.operand) (record { form = form; at = at }))
    ∙ same ∙ sym (fold-roll-Expression (List ℕ) (List ℕ) (List ℕ) form_sites (λ e. e.form) (λ u. u.operand) (record { form = form; at = at }))

operand_case : (operator : Operator) (at : ℕ) (e : Expression) → ExpressionSame e → OperandSame (roll-Operand (record { operator = operator; at = at; operand = e }))
operand_case operator at e same =
    ap firsts (fold-roll-Operand Sites Sites Sites of_form (λ e. e.form) (λ u. u.operand) (record { operator = operator; at = at; operand = e }))
    ∙ same ∙ sym (fold-roll-Operand (List ℕ) (List ℕ) (List ℕ) form_sites (λ e. e.form) (λ u. u.operand) (record { operator = operator; at = at; operand = e }))

module _ (F E O : Type 0) (form : F → Form) (expression : E → Expression) (operand : O → Operand) (of_e : (k : E) → ExpressionSame (expression k)) (of_o : (k : O) → OperandSame (operand k)) where
  abbrev parts : f.Form-F F E O → f.Form-F Form Expression Operand
  parts = map-Form F E O Form Expression Operand form expression operand

  form_layer : (y : f.Form-F F E O)
      → firsts (of_form (map-Form Form Expression Operand Sites Sites Sites of_part of_expression of_operand (parts y)))
      ≡ form_sites (map-Form Form Expression Operand (List ℕ) (List ℕ) (List ℕ) in_part sites_in in_operand (parts y))
  form_layer (f.Number n) = refl
  form_layer f.Null = refl
  form_layer (f.Local x) = refl
  form_layer (f.Read x field site) = refl
  form_layer (f.Unary o e) = of_e e
  form_layer (f.Chain e others) =
      in_two (of_expression (expression e)) (all_of (map of_operand (map operand others))) (sites_in (expression e)) (all_sites (map in_operand (map operand others))) (of_e e) (parts_same of_operand in_operand operand of_o others)
  form_layer (f.Compared e c g) = in_two (of_expression (expression e)) (of_expression (expression g)) (sites_in (expression e)) (sites_in (expression g)) (of_e e) (of_e g)

  form_case : (y : f.Form-F F E O) → FormSame (roll-Form (parts y))
  form_case y =
      ap firsts (fold-roll-Form Sites Sites Sites of_form (λ e. e.form) (λ u. u.operand) (parts y))
      ∙ form_layer y ∙ sym (fold-roll-Form (List ℕ) (List ℕ) (List ℕ) form_sites (λ e. e.form) (λ u. u.operand) (parts y))

expression_same : (x : Expression) → ExpressionSame x
expression_same =
    ind-Expression FormSame ExpressionSame OperandSame
    (λ x y is. subst (λ z. FormSame (roll-Form z)) is (form_case _ _ _ (λ k. k.0) (λ k. k.0) (λ k. k.0) (λ k. k.1) (λ k. k.1) y))
    (λ x y is. subst (λ z. ExpressionSame (roll-Expression z)) is (expression_case y.at y.form.0 y.form.1))
    (λ x y is. subst (λ z. OperandSame (roll-Operand z)) is (operand_case y.operator y.at y.operand.0 y.operand.1))

expressions_same : (xs : List Expression) → firsts (of_expressions xs) ≡ flat_map sites_in xs
expressions_same = turn_same of_expression sites_in expression_same

-- ---- statements

right_same : (x : Right) → firsts (of_right x) ≡ right_sites x
right_same (rights.Plain e) = expression_same e
right_same (rights.Call x es) = expressions_same es
right_same (rights.New x store es site at) = ap (λ (l : List ℕ). site ∷ l) (expressions_same es)
right_same (rights.Downgrade d e from to site at) = ap (λ (l : List ℕ). site ∷ l) (expression_same e)

-- sites under the same labels beside the same sites with their places
placed_same : (pc ns : List ℕ) (places : Sites) → firsts places ≡ ns → firsts (all_under pc ns) ≡ firsts places
placed_same pc ns places same = under_same pc ns ∙ sym same

module _ (classes : List Class) (locals : List Local) where
  abbrev StatementSame : Statement → Type 0
  StatementSame x = (pc : List ℕ) → firsts (sited classes locals x pc) ≡ firsts (of_statement x)

  module _ (S : Type 0) (statement : S → Statement) (of_s : (k : S) → StatementSame (statement k)) where
    abbrev pieces : s.Statement-F S → s.Statement-F Statement
    pieces = map-Statement S Statement statement

    abbrev sited_block : List S → List ℕ → Sited
    sited_block ks = in_order classes locals (map (sited classes locals) (map statement ks))

    abbrev placed_block : List S → Sites
    placed_block ks = all_of (map of_statement (map statement ks))

    block_layer : (ks : List S) (pc : List ℕ) → firsts (sited_block ks pc) ≡ firsts (placed_block ks)
    block_layer [] pc = refl
    block_layer (k ∷ ks) pc =
        ap firsts (flat_map-cons (λ (g : List ℕ → Sited). g pc) (sited classes locals (statement k)) (map (sited classes locals) (map statement ks)))
        ∙ both_same (sited classes locals (statement k) pc) (sited_block ks pc) (of_statement (statement k)) (placed_block ks) (of_s k pc) (block_layer ks pc)
        ∙ sym (ap firsts (flat_map-cons (λ (l : Sites). l) (of_statement (statement k)) (map of_statement (map statement ks))))

    abbrev behind : List ℕ → Expression → List ℕ
    behind pc e = under pc (part classes locals e).labels

    -- a condition and the block behind it
    guarded_layer : (e : Expression) (ks : List S) (pc : List ℕ) → firsts (all_under pc (sites_in e) ++ sited_block ks (behind pc e)) ≡ firsts (of_expression e ++ placed_block ks)
    guarded_layer e ks pc =
        both_same (all_under pc (sites_in e)) (sited_block ks (behind pc e)) (of_expression e) (placed_block ks)
        (placed_same pc (sites_in e) (of_expression e) (expression_same e)) (block_layer ks (behind pc e))

    statement_layer : (y : s.Statement-F S) (pc : List ℕ)
        → firsts (statement_sites classes locals (map-Statement Statement (List ℕ → Sited) (sited classes locals) (pieces y)) pc)
        ≡ firsts (of_statement_step (map-Statement Statement Sites of_statement (pieces y)))
    statement_layer (s.Assign x r at) pc = placed_same pc (right_sites r) (of_right r) (right_same r)
    statement_layer (s.Write x field e site) pc = placed_same pc (site ∷ sites_in e) ((site, x.at) ∷ of_expression e) (ap (λ (l : List ℕ). site ∷ l) (expression_same e))
    statement_layer (s.Call x es) pc = placed_same pc (flat_map sites_in es) (of_expressions es) (expressions_same es)
    statement_layer (s.If e block otherwise) pc =
        both_same (all_under pc (sites_in e) ++ sited_block block (behind pc e)) (sited_block otherwise (behind pc e)) (of_expression e ++ placed_block block) (placed_block otherwise)
        (guarded_layer e block pc) (block_layer otherwise (behind pc e))
    statement_layer (s.While e block) pc = guarded_layer e block pc
    statement_layer (s.Atomic x block otherwise at) pc =
        let inside = under pc (x.number ∷ []) in
        both_same (sited_block block inside) (sited_block otherwise inside) (placed_block block) (placed_block otherwise) (block_layer block inside) (block_layer otherwise inside)
    statement_layer (s.Fail at) pc = refl

    statement_case : (y : s.Statement-F S) → StatementSame (roll-Statement (pieces y))
    statement_case y pc =
        ap (λ (g : List ℕ → Sited). firsts (g pc)) (fold-roll-Statement (List ℕ → Sited) (statement_sites classes locals) (pieces y))
        ∙ statement_layer y pc
        ∙ sym (ap firsts (fold-roll-Statement Sites of_statement_step (pieces y)))

  statement_same : (x : Statement) → StatementSame x
  statement_same = ind-Statement StatementSame (λ x y is. subst (λ z. StatementSame (roll-Statement z)) is (statement_case _ (λ k. k.0) (λ k. k.1) y))

  body_same : (xs : List Statement) (pc : List ℕ) → firsts (block_sites classes locals xs pc) ≡ firsts (flat_map of_statement xs)
  body_same [] pc = refl
  body_same (x ∷ xs) pc =
      ap firsts (flat_map-cons (λ (g : List ℕ → Sited). g pc) (sited classes locals x) (map (sited classes locals) xs))
      ∙ both_same (sited classes locals x pc) (block_sites classes locals xs pc) (of_statement x) (flat_map of_statement xs) (statement_same x pc) (body_same xs pc)
      ∙ sym (ap firsts (flat_map-cons of_statement x xs))

-- ---- methods

result_same : (x : Option Return) → firsts (of_result x) ≡ return_sites x
result_same None = refl
result_same (Some x) = expression_same x.value

method_same : (classes : List Class) (m : Method) → firsts (method_sites classes m) ≡ firsts (of_method m)
method_same classes m =
    let pc = m.begin.number ∷ [] in
    both_same (block_sites classes m.locals m.body pc) (all_under pc (return_sites m.result)) (flat_map of_statement m.body) (of_result m.result)
    (body_same classes m.locals m.body pc) (placed_same pc (return_sites m.result) (of_result m.result) (result_same m.result))

methods_same : (classes : List Class) (ms : List Method) → firsts (flat_map (method_sites classes) ms) ≡ firsts (of_methods ms)
methods_same classes [] = refl
methods_same classes (m ∷ ms) =
    ap firsts (flat_map-cons (method_sites classes) m ms)
    ∙ both_same (method_sites classes m) (flat_map (method_sites classes) ms) (of_method m) (of_methods ms) (method_same classes m) (methods_same classes ms)
    ∙ sym (ap firsts (flat_map-cons of_method m ms))

-- ---- numbers from 0 on

abbrev head_of : List ℕ → ℕ
head_of [] = 0
head_of (n ∷ ns) = n

abbrev rest_of : List ℕ → List ℕ
rest_of [] = []
rest_of (n ∷ ns) = ns

-- what has the numbers of an enumeration is one itself
enumerated : {A B : Type 0} (xs : List (ℕ × A)) (k : ℕ) (ys : List B) → firsts xs ≡ firsts (enumerate_from k ys) → xs ≡ enumerate_from k (map (λ x. x.1) xs)
enumerated [] k ys same = refl
enumerated (x ∷ xs) k [] same = let no : suc (length (firsts xs)) ≡ 0 = ap length same in absurd (omega (arith, no))
enumerated {A} (x ∷ xs) k (y ∷ ys) same =
    ap (λ (n : ℕ). (n, x.1) ∷ xs) (ap head_of same) ∙ ap (λ (l : List (ℕ × A)). (k, x.1) ∷ l) (enumerated xs (k + 1) ys (ap rest_of same))

as_many : {A B : Type 0} (xs : List (ℕ × A)) (k : ℕ) (ys : List B) → firsts xs ≡ firsts (enumerate_from k ys) → length (map (λ x. x.1) xs) ≡ length ys
as_many [] k [] same = refl
as_many [] k (y ∷ ys) same = let no : 0 ≡ suc (length (firsts (enumerate_from (k + 1) ys))) = ap length same in absurd (omega (arith, no))
as_many (x ∷ xs) k [] same = let no : suc (length (firsts xs)) ≡ 0 = ap length same in absurd (omega (arith, no))
as_many (x ∷ xs) k (y ∷ ys) same = ap suc (as_many xs (k + 1) ys (ap rest_of same))

numbers_are : (start : Start) → firsts (sites_of (resolved start)) ≡ firsts (enumerate_from 0 (site_places start.program))
numbers_are start = methods_same (resolved start).classes (resolved start).methods ∙ ap firsts ((methods_orders start start.program.methods).order 0)

pub sites_enumerated : (start : Start) → sites_of (resolved start) ≡ enumerate_from 0 (pcs_of (resolved start))
sites_enumerated start = enumerated (sites_of (resolved start)) 0 (site_places start.program) (numbers_are start)

pub as_many_as_places : (start : Start) → length (pcs_of (resolved start)) ≡ length (site_places start.program)
as_many_as_places start = as_many (sites_of (resolved start)) 0 (site_places start.program) (numbers_are start)
