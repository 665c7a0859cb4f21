-- A bundle with labels for its holes has the numbers of the one with holes, but for those of its locals' labels.
use Rattle.std.proofs.Common.{◌≡◌, ℕ, zero, suc, true, false, cond, if◌then◌else◌, List, [], ◌∷◌, ◌++◌, map, length, option_map, Option, Some, None, refl, sym, ap, ◌∙◌, subst}
use Rattle.std.specs.List.{flat_map}
use Rattle.std.proofs.lemmas.List.{map-append, length-map}
use Rattle.fab_tree.specs.declared.name.Name.{Name}
use Rattle.fab_tree.specs.declared.declaration.Field.{Field}
use Rattle.fab_tree.specs.declared.expression.Expression.{Expression, fold-Expression}
use Rattle.fab_tree.specs.declared.expression.Form.TheOpen as f
use Rattle.fab_tree.specs.declared.statement.Right.{Right}
use Rattle.fab_tree.specs.declared.statement.Right.TheVariants as rights
use Rattle.fab_tree.specs.declared.statement.Statement.{Statement, roll-Statement, map-Statement, ind-Statement, fold-roll-Statement}
use Rattle.fab_tree.specs.declared.statement.Statement.TheOpen as o
use Rattle.fab_tree.specs.declared.statement.Statement.TheVariants as made
use Rattle.fab_tree.specs.declared.program.Parameter.{Parameter}
use Rattle.fab_tree.specs.declared.program.Return.{Return}
use Rattle.fab_tree.specs.declared.program.Method.{Method}
use Rattle.fab_tree.specs.declared.start.Start.{Start}
use Rattle.fab_tree.specs.declared.resolved.Expression.{Expression as NumberedExpression}
use Rattle.fab_tree.specs.declared.resolved.Form.{Form as NumberedForm}
use Rattle.fab_tree.specs.declared.resolved.Form.TheVariants as nf
use Rattle.fab_tree.specs.declared.resolved.Operand.{Operand as NumberedOperand}
use Rattle.fab_tree.specs.declared.resolved.Right.TheVariants as nr
use Rattle.fab_tree.specs.declared.resolved.Statement.{Statement as NumberedStatement}
use Rattle.fab_tree.specs.declared.resolved.Statement.TheVariants as ns
use Rattle.fab_tree.specs.declared.resolved.Return.{Return as NumberedReturn}
use Rattle.fab_tree.specs.declared.resolved.Method.{Method as NumberedMethod}
use Rattle.fab_tree.specs.Limits.{joined, declared_in, declared_step, locals_of}
use Rattle.fab_language.specs.Names.{is_same_name, named, number_of, local_name, method_name, field_name}
use Rattle.fab_language.specs.Uses.{class_use, node_use, label_use, principal_use, fields_of_local, field_number}
use Rattle.fab_language.specs.MethodNumbers.{Numbered, siteless, made_of, made_of_two, made_of_three, at_site, in_turn, form_step, expression_step, operand_step, expression_of, expressions_of, right_of, statement_step, statement_of, block_of, result_of, numbered_local, returns_of, method_of}
use Rattle.fab_language.proofs.NumberedForms.{statement_numbers}
use Rattle.fab_holes.specs.Holes.{filled_name, filled_parameter, filled_step, filled_statement, filled_method, filled}

-- ---- what is made in turn

in_turn_append : {A : Type 0} (xs ys : List (Numbered A)) (h : ℕ) → in_turn (xs ++ ys) h ≡ ((in_turn xs h).0 ++ (in_turn ys (in_turn xs h).1).0, (in_turn ys (in_turn xs h).1).1)
in_turn_append [] ys h = refl
in_turn_append (x ∷ xs) ys h = ap (λ t. ((x h).0 ∷ t.0, t.1)) (in_turn_append xs ys (x h).1)

pub as_many : {A : Type 0} (xs : List (Numbered A)) (h : ℕ) → length (in_turn xs h).0 ≡ length xs
as_many [] h = refl
as_many (x ∷ xs) h = ap suc (as_many xs (x h).1)

-- the first before the others
abbrev before : {A : Type 0} → Numbered A → Numbered (List A) → Numbered (List A)
before m t n = let a = m n in let b = t a.1 in (a.0 ∷ b.0, b.1)

module _ (start : Start) (choice : List ℕ) where
  abbrev pub new : Start
  new = filled start choice

  abbrev pub parameters : List Parameter → Numbered (List Parameter)
  parameters ps = in_turn (map (filled_parameter start choice) ps)

  abbrev pub statements : List Statement → Numbered (List Statement)
  statements xs = in_turn (map (filled_statement start choice) xs)

  abbrev pub methods : List Method → Numbered (List Method)
  methods ms = in_turn (map (filled_method start choice) ms)

  parameters_append : (ps qs : List Parameter) (h : ℕ) → parameters (ps ++ qs) h ≡ ((parameters ps h).0 ++ (parameters qs (parameters ps h).1).0, (parameters qs (parameters ps h).1).1)
  parameters_append ps qs h =
      ap (λ l. in_turn l h) (map-append (filled_parameter start choice) ps qs)
      ∙ in_turn_append (map (filled_parameter start choice) ps) (map (filled_parameter start choice) qs) h

  -- ---- numbers of names

  local_stays : (ps : List Parameter) (h : ℕ) (x : Name) → number_of local_name (parameters ps h).0 x ≡ number_of local_name ps x
  local_stays [] h x = refl
  local_stays (p ∷ ps) h x = ap (λ k. if is_same_name p.name x then zero else suc k) (local_stays ps (filled_parameter start choice p h).1 x)

  fields_stay : (ps : List Parameter) (h : ℕ) (x : Name) → fields_of_local new (named local_name (parameters ps h).0 x) ≡ fields_of_local start (named local_name ps x)
  fields_stay [] h x = refl
  fields_stay (p ∷ ps) h x =
      let q = filled_parameter start choice p h in
      (elim (is_same_name p.name x) as (λ v. fields_of_local new (cond v (Some q.0) (named local_name (parameters ps q.1).0 x)) ≡ fields_of_local start (cond v (Some p) (named local_name ps x)))
      [ true ↦ refl | false ↦ fields_stay ps q.1 x ])

  field_stays : (ps : List Parameter) (h : ℕ) (x y : Name) → field_number new (parameters ps h).0 x y ≡ field_number start ps x y
  field_stays ps h x y = ap (λ (fs : List Field). number_of field_name fs y) (fields_stay ps h x)

  method_number_stays : (ms : List Method) (h : ℕ) (x : Name) → number_of method_name (methods ms h).0 x ≡ number_of method_name ms x
  method_number_stays [] h x = refl
  method_number_stays (m ∷ ms) h x = ap (λ k. if is_same_name m.name x then zero else suc k) (method_number_stays ms (filled_method start choice m h).1 x)

  pub method_stays : (x : Name) → number_of method_name new.program.methods x ≡ number_of method_name start.program.methods x
  method_stays x = method_number_stays start.program.methods 0 x

  -- ---- expressions and statements, over locals of which holes are counted from some number

  declared_is : (x : Statement) (y : o.Statement-F Statement) → x ≡ roll-Statement y → declared_in x ≡ declared_step (map-Statement Statement (List Parameter) declared_in y)
  declared_is x y is = ap declared_in is ∙ fold-roll-Statement (List Parameter) declared_step y

  module _ (locals : List Parameter) (from : ℕ) where
    abbrev others : List Parameter
    others = (parameters locals from).0

    steps : (y : f.Form-F (Numbered NumberedForm) (Numbered NumberedExpression) (Numbered NumberedOperand)) → form_step new others y ≡ form_step start locals y
    steps (f.Number k) = refl
    steps f.Null = refl
    steps (f.Local x) = λ i. siteless (nf.Local (record { number = local_stays locals from x i; at = x.at }))
    steps (f.Read x y) = λ i. λ n. (nf.Read (record { number = local_stays locals from x i; at = x.at }) (field_stays locals from x y i) n, suc n)
    steps (f.Unary o e) = refl
    steps (f.Chain e us) = refl
    steps (f.Compared e c g) = refl

    expression_stays : (e : Expression) → expression_of new others e ≡ expression_of start locals e
    expression_stays e =
        λ i. fold-Expression (Numbered NumberedForm) (Numbered NumberedExpression) (Numbered NumberedOperand) (λ y. steps y i) (expression_step start locals) (operand_step start locals) e

    expressions_stay : (es : List Expression) → expressions_of new others es ≡ expressions_of start locals es
    expressions_stay es = λ i. in_turn (map (λ e. expression_stays e i) es)

    right_stays : (x : Right) → right_of new others x ≡ right_of start locals x
    right_stays (rights.Plain e) = λ i. made_of nr.Plain (expression_stays e i)
    right_stays (rights.Call x es) = λ i. made_of (nr.Call (record { number = method_stays x i; at = x.at })) (expressions_stay es i)
    right_stays (rights.New x y es at) = λ i. at_site (λ n vs. nr.New (class_use start x) (node_use start y) vs n at) (expressions_stay es i)
    right_stays (rights.Downgrade d e x y at) = λ i. at_site (λ n v. nr.Downgrade d v (label_use start x) (label_use start y) n at) (expression_stays e i)

    -- the numbers stay, and so do the locals that are declared, with labels for their holes
    record Stays (fills : Numbered Statement) (numbers : Numbered NumberedStatement) (ps : List Parameter) : Type 0 where
      pub numbered : (h : ℕ) → statement_of new others (fills h).0 ≡ numbers
      pub declares : (h : ℕ) → (declared_in (fills h).0, (fills h).1) ≡ parameters ps h

    abbrev StatementStays : Statement → Type 0
    StatementStays x = Stays (filled_statement start choice x) (statement_of start locals x) (declared_in x)

    abbrev Known : Type 0
    Known = (x : Statement) × StatementStays x

    abbrev bare : List Known → List Statement
    bare ks = map (λ (k : Known). k.0) ks

    abbrev declares_all : List Statement → List Parameter
    declares_all xs = joined (map declared_in xs)

    block : (ks : List Known) (h : ℕ) → block_of new others (statements (bare ks) h).0 ≡ block_of start locals (bare ks)
    block [] h = refl
    block (k ∷ ks) h = λ i. before (k.1.numbered h i) (block ks (filled_statement start choice k.0 h).1 i)

    declared : (ks : List Known) (h : ℕ) → (declares_all (statements (bare ks) h).0, (statements (bare ks) h).1) ≡ parameters (declares_all (bare ks)) h
    declared [] h = refl
    declared (k ∷ ks) h =
        let a = filled_statement start choice k.0 h in
        let rest = declares_all (bare ks) in
        ap (λ (t : List Parameter × ℕ). (declared_in a.0 ++ t.0, t.1)) (declared ks a.1)
        ∙ ap (λ (t : List Parameter × ℕ). (t.0 ++ (parameters rest t.1).0, (parameters rest t.1).1)) (k.1.declares h)
        ∙ sym (parameters_append (declared_in k.0) rest h)

    both_declared : (ks ls : List Known) (h : ℕ) → (declares_all (statements (bare ks) h).0 ++ declares_all (statements (bare ls) (statements (bare ks) h).1).0, (statements (bare ls) (statements (bare ks) h).1).1)
        ≡ parameters (declares_all (bare ks) ++ declares_all (bare ls)) h
    both_declared ks ls h =
        let a = statements (bare ks) h in
        let rest = declares_all (bare ls) in
        ap (λ (t : List Parameter × ℕ). (declares_all a.0 ++ t.0, t.1)) (declared ls a.1)
        ∙ ap (λ (t : List Parameter × ℕ). (t.0 ++ (parameters rest t.1).0, (parameters rest t.1).1)) (declared ks h)
        ∙ sym (parameters_append (declares_all (bare ks)) rest h)

    abbrev pieces : o.Statement-F Known → o.Statement-F Statement
    pieces = map-Statement Known Statement (λ k. k.0)

    abbrev fills_layer : o.Statement-F Known → Numbered Statement
    fills_layer y = filled_step start choice (map-Statement Statement (Numbered Statement) (filled_statement start choice) (pieces y))

    abbrev numbers_layer : o.Statement-F Known → Numbered NumberedStatement
    numbers_layer y = statement_step start locals (map-Statement Statement (Numbered NumberedStatement) (statement_of start locals) (pieces y))

    abbrev declared_layer : o.Statement-F Known → List Parameter
    declared_layer y = declared_step (map-Statement Statement (List Parameter) declared_in (pieces y))

    layer : (y : o.Statement-F Known) → Stays (fills_layer y) (numbers_layer y) (declared_layer y)
    layer (o.Declare t x l e at) = record {
      numbered = λ h. let w = (filled_name start choice l h).0 in
          statement_numbers new others (made.Declare t x w e at) (o.Declare t x w e at) (sym (made.rolls-Declare t x w e at))
          ∙ (λ i. made_of (λ v. ns.Assign (local_stays locals from x i) (nr.Plain v) at) (expression_stays e i));
      declares = λ h. let w = filled_name start choice l h in
          ap (λ d. (d, w.1)) (declared_is (made.Declare t x w.0 e at) (o.Declare t x w.0 e at) (sym (made.rolls-Declare t x w.0 e at)));
    }
    layer (o.Assign x r) = record {
      numbered = λ h. statement_numbers new others (made.Assign x r) (o.Assign x r) (sym (made.rolls-Assign x r))
          ∙ (λ i. made_of (λ v. ns.Assign (local_stays locals from x i) v x.at) (right_stays r i));
      declares = λ h. ap (λ d. (d, h)) (declared_is (made.Assign x r) (o.Assign x r) (sym (made.rolls-Assign x r)));
    }
    layer (o.Write x y e) = record {
      numbered = λ h. statement_numbers new others (made.Write x y e) (o.Write x y e) (sym (made.rolls-Write x y e))
          ∙ (λ i. at_site (λ n v. ns.Write (record { number = local_stays locals from x i; at = x.at }) (field_stays locals from x y i) v n) (expression_stays e i));
      declares = λ h. ap (λ d. (d, h)) (declared_is (made.Write x y e) (o.Write x y e) (sym (made.rolls-Write x y e)));
    }
    layer (o.Call x es) = record {
      numbered = λ h. statement_numbers new others (made.Call x es) (o.Call x es) (sym (made.rolls-Call x es))
          ∙ (λ i. made_of (ns.Call (record { number = method_stays x i; at = x.at })) (expressions_stay es i));
      declares = λ h. ap (λ d. (d, h)) (declared_is (made.Call x es) (o.Call x es) (sym (made.rolls-Call x es)));
    }
    layer (o.If e ks None) = record {
      numbered = λ h. let b = statements (bare ks) h in
          statement_numbers new others (made.If e b.0 None) (o.If e b.0 None) (sym (made.rolls-If e b.0 None))
          ∙ (λ i. made_of_three ns.If (expression_stays e i) (block ks h i) (siteless []));
      declares = λ h. let b = statements (bare ks) h in
          ap (λ d. (d, b.1)) (declared_is (made.If e b.0 None) (o.If e b.0 None) (sym (made.rolls-If e b.0 None))) ∙ declared ks h;
    }
    layer (o.If e ks (Some ls)) = record {
      numbered = λ h. let b = statements (bare ks) h in let d = statements (bare ls) b.1 in
          statement_numbers new others (made.If e b.0 (Some d.0)) (o.If e b.0 (Some d.0)) (sym (made.rolls-If e b.0 (Some d.0)))
          ∙ (λ i. made_of_three ns.If (expression_stays e i) (block ks h i) (block ls b.1 i));
      declares = λ h. let b = statements (bare ks) h in let d = statements (bare ls) b.1 in
          ap (λ z. (z, d.1)) (declared_is (made.If e b.0 (Some d.0)) (o.If e b.0 (Some d.0)) (sym (made.rolls-If e b.0 (Some d.0)))) ∙ both_declared ks ls h;
    }
    layer (o.While e ks) = record {
      numbered = λ h. let b = statements (bare ks) h in
          statement_numbers new others (made.While e b.0) (o.While e b.0) (sym (made.rolls-While e b.0))
          ∙ (λ i. made_of_two ns.While (expression_stays e i) (block ks h i));
      declares = λ h. let b = statements (bare ks) h in
          ap (λ d. (d, b.1)) (declared_is (made.While e b.0) (o.While e b.0) (sym (made.rolls-While e b.0))) ∙ declared ks h;
    }
    layer (o.Atomic x ks ls at) = record {
      numbered = λ h. let b = statements (bare ks) h in let d = statements (bare ls) b.1 in
          statement_numbers new others (made.Atomic x b.0 d.0 at) (o.Atomic x b.0 d.0 at) (sym (made.rolls-Atomic x b.0 d.0 at))
          ∙ (λ i. made_of_two (λ v w. ns.Atomic (label_use start x) v w at) (block ks h i) (block ls b.1 i));
      declares = λ h. let b = statements (bare ks) h in let d = statements (bare ls) b.1 in
          ap (λ z. (z, d.1)) (declared_is (made.Atomic x b.0 d.0 at) (o.Atomic x b.0 d.0 at) (sym (made.rolls-Atomic x b.0 d.0 at))) ∙ both_declared ks ls h;
    }
    layer (o.Fail at) = record {
      numbered = λ h. statement_numbers new others (made.Fail at) (o.Fail at) (sym (made.rolls-Fail at));
      declares = λ h. ap (λ d. (d, h)) (declared_is (made.Fail at) (o.Fail at) (sym (made.rolls-Fail at)));
    }

    statement_case : (y : o.Statement-F Known) → StatementStays (roll-Statement (pieces y))
    statement_case y =
        let x = roll-Statement (pieces y) in
        subst (λ w. Stays w (statement_of start locals x) (declared_in x)) (sym (fold-roll-Statement (Numbered Statement) (filled_step start choice) (pieces y)))
        (subst (λ w. Stays (fills_layer y) w (declared_in x)) (sym (statement_numbers start locals x (pieces y) refl))
        (subst (λ w. Stays (fills_layer y) (numbers_layer y) w) (sym (declared_is x (pieces y) refl))
        (layer y)))

    statement_stays : (x : Statement) → StatementStays x
    statement_stays = ind-Statement StatementStays (λ x y is. subst (λ z. StatementStays (roll-Statement z)) is (statement_case y))

    -- of each statement this is known
    abbrev known : List Statement → List Known
    known xs = map (λ x. (x, statement_stays x)) xs

    bare_is : (xs : List Statement) → bare (known xs) ≡ xs
    bare_is [] = refl
    bare_is (x ∷ xs) = ap (λ l. x ∷ l) (bare_is xs)

    block_stays : (xs : List Statement) (h : ℕ) → block_of new others (statements xs h).0 ≡ block_of start locals xs
    block_stays xs h = subst (λ l. block_of new others (statements l h).0 ≡ block_of start locals l) (bare_is xs) (block (known xs) h)

    joined_map : (xs : List Statement) → joined (map declared_in xs) ≡ flat_map declared_in xs
    joined_map [] = refl
    joined_map (x ∷ xs) = ap (λ l. declared_in x ++ l) (joined_map xs)

    declares_stay : (xs : List Statement) (h : ℕ) → (flat_map declared_in (statements xs h).0, (statements xs h).1) ≡ parameters (flat_map declared_in xs) h
    declares_stay xs h =
        ap (λ l. (l, (statements xs h).1)) (sym (joined_map (statements xs h).0))
        ∙ subst (λ l. (declares_all (statements l h).0, (statements l h).1) ≡ parameters (declares_all l) h) (bare_is xs) (declared (known xs) h)
        ∙ ap (λ l. parameters l h) (joined_map xs)

    result_stays : (x : Option Return) → result_of new others x ≡ result_of start locals x
    result_stays None = refl
    result_stays (Some x) = λ i. made_of (λ v. Some (record { value = v; at = x.at })) (expression_stays x.value i)

  -- ---- methods

  -- the locals of a method with labels for their holes, and the number of the hole behind them
  pub locals_filled : (m : Method) (h : ℕ) → (locals_of (filled_method start choice m h).0, (filled_method start choice m h).1) ≡ parameters (locals_of m) h
  locals_filled m h =
      let a = parameters m.parameters h in
      ap (λ (t : List Parameter × ℕ). (a.0 ++ t.0, t.1)) (declares_stay (locals_of m) h m.body a.1)
      ∙ sym (parameters_append m.parameters (flat_map declared_in m.body) h)

  -- a method with these locals, of this many parameters, with this body and this result
  abbrev of_parts : Method → List Parameter → ℕ → Numbered (List NumberedStatement) → Numbered (Option NumberedReturn) → Numbered NumberedMethod
  of_parts m ls many = made_of_two (λ body result. record {
    name = m.name;
    parameters = many;
    locals = map (numbered_local start) ls;
    returns = option_map (returns_of start) m.returns;
    begin = label_use start m.begin;
    fails = m.fails;
    authority = map (principal_use start) m.authority;
    body = body;
    result = result;
  })

  -- only the labels of its locals change
  pub method_filled : (m : Method) (h k : ℕ) → method_of new (filled_method start choice m h).0 k
      ≡ (record (method_of start m k).0 { locals = map (numbered_local start) (parameters (locals_of m) h).0 }, (method_of start m k).1)
  method_filled m h k =
      let x = (filled_method start choice m h).0 in
      let a = parameters m.parameters h in
      let is : locals_of x ≡ (parameters (locals_of m) h).0 = ap (λ (t : List Parameter × ℕ). t.0) (locals_filled m h) in
      let body : block_of new (locals_of x) x.body ≡ block_of start (locals_of m) m.body = ap (λ l. block_of new l x.body) is ∙ block_stays (locals_of m) h m.body a.1 in
      let result : result_of new (locals_of x) m.result ≡ result_of start (locals_of m) m.result = ap (λ l. result_of new l m.result) is ∙ result_stays (locals_of m) h m.result in
      let many : length x.parameters ≡ length m.parameters = as_many (map (filled_parameter start choice) m.parameters) h ∙ length-map m.parameters (filled_parameter start choice) in
      λ i. of_parts m (is i) (many i) (body i) (result i) k
