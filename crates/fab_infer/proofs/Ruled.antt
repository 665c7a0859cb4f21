-- Two bundles that differ in the labels for holes alone: where the one keeps the rules of names and types, the other does.
use Rattle.std.proofs.Common.{◌≡◌, ℕ, Bool, true, false, cond, ◌||◌, if◌then◌else◌, List, [], ◌∷◌, ◌++◌, map, filter, length, Option, Some, None, option_map, refl, sym, ap, ◌∙◌}
use Rattle.std.specs.List.{flat_map, list_any}
use Rattle.std.proofs.lemmas.List.{map-append, length-map}
use Rattle.fab_base.proofs.Lists.{left_nil, right_nil}
use Rattle.fab_base.specs.declared.object.Width.TheVariants as widths
use Rattle.fab_tree.specs.declared.name.Name.{Name}
use Rattle.fab_tree.specs.declared.declaration.Sort.{Sort}
use Rattle.fab_tree.specs.declared.declaration.Class.{Class}
use Rattle.fab_tree.specs.declared.expression.Expression.{Expression, fold-Expression}
use Rattle.fab_tree.specs.declared.expression.Form.TheOpen as f
use Rattle.fab_tree.specs.declared.statement.Right.{Right}
use Rattle.fab_tree.specs.declared.statement.Right.TheVariants as rights
use Rattle.fab_tree.specs.declared.program.Parameter.{Parameter}
use Rattle.fab_tree.specs.declared.program.Returns.{Returns}
use Rattle.fab_tree.specs.declared.program.Method.{Method}
use Rattle.fab_tree.specs.declared.start.Start.{Start}
use Rattle.fab_tree.specs.Limits.{locals_of}
use Rattle.fab_language.specs.declared.rule.Fault.{Fault}
use Rattle.fab_language.specs.declared.rule.NameRule.TheVariants.{Doubled}
use Rattle.fab_language.specs.Heads.{Locals, Head, declare, assign, write, call, test, atomic, result}
use Rattle.fab_language.specs.Kinds.{Kind, number, class_of_local, class_of_sort, kind_of_local, kind_of_sort, kind_of_returns, kind_of_field, fields_of}
use Rattle.fab_language.specs.Kinds as k
use Rattle.fab_language.specs.Names.{is_same_name, named, class_name, field_name, label_name, local_name, method_name, node_name, root_name, session_name}
use Rattle.fab_language.specs.Unknown as u
use Rattle.fab_language.specs.Unknown.{if_found, in_label}
use Rattle.fab_language.specs.Doubled as d
use Rattle.fab_language.specs.Doubled.{repeats, repeats_behind}
use Rattle.fab_language.specs.Roles as r
use Rattle.fab_language.specs.Arity as a
use Rattle.fab_language.specs.Arity.{if_as_many}
use Rattle.fab_language.specs.Types as t
use Rattle.fab_language.specs.Types.{Checked}
use Rattle.fab_language.specs.MethodNumbers.{Numbered, in_turn}
use Rattle.fab_holes.specs.Holes.{filled_name, filled_parameter, filled_method, filled}
use Rattle.fab_holes.proofs.Filling.{locals_filled, parameters}
use Rattle.fab_infer.proofs.Near.{bare, bares, Alike, same, declares}

-- ---- names that are looked up

-- of locals without their labels
look_bare : (ps : Locals) (x : Name) → option_map bare (named local_name ps x) ≡ named (λ (p : Sort × Name). p.1) (bares ps) x
look_bare [] x = refl
look_bare (p ∷ ps) x = elim (is_same_name p.name x) as (λ v. option_map bare (cond v (Some p) (named local_name ps x)) ≡ cond v (Some (bare p)) (named (λ (q : Sort × Name). q.1) (bares ps) x)) [ true ↦ refl | false ↦ look_bare ps x ]

looks : (ka kb : Locals) (x : Name) → bares ka ≡ bares kb → option_map bare (named local_name ka x) ≡ option_map bare (named local_name kb x)
looks ka kb x e = look_bare ka x ∙ ap (λ ps. named (λ (p : Sort × Name). p.1) ps x) e ∙ sym (look_bare kb x)

-- what is shown of a method where it is called
abbrev Shown : Type 0
Shown = (Name × List (Sort × Name)) × Option Returns

abbrev shown : Method → Shown
shown m = ((m.name, bares m.parameters), m.returns)

look_shown : (ms : List Method) (x : Name) → option_map shown (named method_name ms x) ≡ named (λ (m : Shown). m.0.0) (map shown ms) x
look_shown [] x = refl
look_shown (m ∷ ms) x = elim (is_same_name m.name x) as (λ v. option_map shown (cond v (Some m) (named method_name ms x)) ≡ cond v (Some (shown m)) (named (λ (q : Shown). q.0.0) (map shown ms) x)) [ true ↦ refl | false ↦ look_shown ms x ]

found_bare : {A B : Type 0} (g : A → B) (o : Option A) (x : Name) → if_found (option_map g o) x ≡ if_found o x
found_bare g None x = refl
found_bare g (Some y) x = refl

-- ---- names that are repeated

any_name : {A : Type 0} (name : A → Name) (p : Name → Bool) (xs : List A) → list_any (λ y. p (name y)) xs ≡ list_any p (map name xs)
any_name name p [] = refl
any_name name p (x ∷ xs) = ap (λ b. p (name x) || b) (any_name name p xs)

repeats_named : {A : Type 0} (name : A → Name) (front xs : List A) → repeats_behind name front xs ≡ repeats_behind (λ (n : Name). n) (map name front) (map name xs)
repeats_named name front [] = refl
repeats_named name front (x ∷ xs) =
    ap (λ b. (if b then record { rule = Doubled; at = (name x).at } ∷ [] else []) ++ repeats_behind name (front ++ x ∷ []) xs) (any_name name (λ (n : Name). is_same_name n (name x)) front)
    ∙ ap (λ l. (if list_any (λ n. is_same_name n (name x)) (map name front) then record { rule = Doubled; at = (name x).at } ∷ [] else []) ++ l)
    (repeats_named name (front ++ x ∷ []) xs ∙ ap (λ ns. repeats_behind (λ (n : Name). n) ns (map name xs)) (map-append name front (x ∷ [])))

same_repeats : {A : Type 0} (name : A → Name) (xs ys : List A) → map name xs ≡ map name ys → repeats name xs ≡ repeats name ys
same_repeats name xs ys e = repeats_named name [] xs ∙ ap (λ ns. repeats_behind (λ (n : Name). n) [] ns) e ∙ sym (repeats_named name [] ys)

-- ---- with other labels for holes

module _ (start : Start) (c : List ℕ) where
  abbrev pub new : Start
  new = filled start c

  abbrev methods : List Method → Numbered (List Method)
  methods ms = in_turn (map (filled_method start c) ms)

  bares_stay : (ps : List Parameter) (h : ℕ) → bares (in_turn (map (filled_parameter start c) ps) h).0 ≡ bares ps
  bares_stay [] h = refl
  bares_stay (p ∷ ps) h = ap (λ l. bare p ∷ l) (bares_stay ps (filled_name start c p.label h).1)

  names_stay : (ps : List Parameter) (h : ℕ) → map local_name (parameters start c ps h).0 ≡ map local_name ps
  names_stay [] h = refl
  names_stay (p ∷ ps) h = ap (λ l. p.name ∷ l) (names_stay ps (filled_name start c p.label h).1)

  shown_stay : (ms : List Method) (h : ℕ) → map shown (methods ms h).0 ≡ map shown ms
  shown_stay [] h = refl
  shown_stay (m ∷ ms) h = λ i. ((m.name, bares_stay m.parameters h i), m.returns) ∷ shown_stay ms (filled_method start c m h).1 i

  method_names_stay : (ms : List Method) (h : ℕ) → map method_name (methods ms h).0 ≡ map method_name ms
  method_names_stay [] h = refl
  method_names_stay (m ∷ ms) h = ap (λ l. m.name ∷ l) (method_names_stay ms (filled_method start c m h).1)

  doubled_in : (ms : List Method) (h : ℕ) → flat_map d.in_method (methods ms h).0 ≡ flat_map d.in_method ms
  doubled_in [] h = refl
  doubled_in (m ∷ ms) h =
      let x = filled_method start c m h in
      let here : d.in_method x.0 ≡ d.in_method m = same_repeats local_name (locals_of x.0) (locals_of m) (ap (λ (v : List Parameter × ℕ). map local_name v.0) (locals_filled start c m h) ∙ names_stay (locals_of m) h) in
      λ i. here i ++ doubled_in ms x.1 i

  -- a call is of what it is without labels for holes
  called : (x : Name) → option_map shown (named method_name new.program.methods x) ≡ option_map shown (named method_name start.program.methods x)
  called x = look_shown new.program.methods x ∙ ap (λ ms. named (λ (m : Shown). m.0.0) ms x) (shown_stay start.program.methods 0) ∙ sym (look_shown start.program.methods x)

  pub doubled_stays : d.doubled new ≡ d.doubled start
  doubled_stays =
      λ i. repeats node_name start.program.nodes
      ++ repeats label_name start.program.labels
      ++ repeats class_name start.program.classes
      ++ flat_map d.in_class start.program.classes
      ++ same_repeats method_name new.program.methods start.program.methods (method_names_stay start.program.methods 0) i
      ++ doubled_in start.program.methods 0 i
      ++ repeats root_name start.roots
      ++ repeats session_name (filter (d.is_workers start) start.sessions)

module _ (start : Start) (c e : List ℕ) where
  abbrev A : Start
  A = filled start c

  abbrev B : Start
  B = filled start e

  calls : (x : Name) → option_map shown (named method_name A.program.methods x) ≡ option_map shown (named method_name B.program.methods x)
  calls x = called start c x ∙ sym (called start e x)

  abbrev shown_length : Option Shown → ℕ → Name → List Fault
  shown_length None given x = []
  shown_length (Some m) given x = if_as_many (length m.0.1) given x

  length_shown : (o : Option Method) (given : ℕ) (x : Name) → shown_length (option_map shown o) given x ≡ a.for_method o given x
  length_shown None given x = refl
  length_shown (Some m) given x = ap (λ n. if_as_many n given x) (length-map m.parameters bare)

  abbrev shown_kinds : Option Shown → List Kind
  shown_kinds None = []
  shown_kinds (Some m) = map (λ (p : Sort × Name). kind_of_sort start p.0) m.0.1

  bare_kinds : (ps : List Parameter) → map (λ (p : Sort × Name). kind_of_sort start p.0) (bares ps) ≡ map (λ (p : Parameter). kind_of_sort start p.sort) ps
  bare_kinds [] = refl
  bare_kinds (p ∷ ps) = ap (λ l. kind_of_sort start p.sort ∷ l) (bare_kinds ps)

  kinds_shown : (o : Option Method) → shown_kinds (option_map shown o) ≡ t.parameter_kinds start o
  kinds_shown None = refl
  kinds_shown (Some m) = bare_kinds m.parameters

  abbrev shown_returned : Option Shown → Option Kind
  shown_returned None = Some k.unknown
  shown_returned (Some m) = kind_of_returns start m.1

  returned_shown : (ks : Locals) (o : Option Method) → shown_returned (option_map shown o) ≡ t.returned start ks o
  returned_shown ks None = refl
  returned_shown ks (Some m) = refl

  pub same_found : (x : Name) → u.in_method_name A x ≡ u.in_method_name B x
  same_found x = sym (found_bare shown (named method_name A.program.methods x) x) ∙ ap (λ o. if_found o x) (calls x) ∙ found_bare shown (named method_name B.program.methods x) x

  pub same_count : (x : Name) (given : ℕ) → a.in_call A x given ≡ a.in_call B x given
  same_count x given = sym (length_shown (named method_name A.program.methods x) given x) ∙ ap (λ o. shown_length o given x) (calls x) ∙ length_shown (named method_name B.program.methods x) given x

  pub same_kinds : (x : Name) → t.parameter_kinds A (named method_name A.program.methods x) ≡ t.parameter_kinds B (named method_name B.program.methods x)
  same_kinds x = sym (kinds_shown (named method_name A.program.methods x)) ∙ ap shown_kinds (calls x) ∙ kinds_shown (named method_name B.program.methods x)

  -- ---- over locals that differ in their labels

  module _ (ka kb : Locals) (near : bares ka ≡ bares kb) where
    seen : (x : Name) → option_map bare (named local_name ka x) ≡ option_map bare (named local_name kb x)
    seen x = looks ka kb x near

    same_local : (x : Name) → u.in_local A ka x ≡ u.in_local B kb x
    same_local x = sym (found_bare bare (named local_name ka x) x) ∙ ap (λ o. if_found o x) (seen x) ∙ found_bare bare (named local_name kb x) x

    abbrev class_of_bare : Option (Sort × Name) → Option Class
    class_of_bare None = None
    class_of_bare (Some p) = class_of_sort start p.0

    class_bare : (o : Option Parameter) → class_of_bare (option_map bare o) ≡ class_of_local start o
    class_bare None = refl
    class_bare (Some p) = refl

    same_class : (x : Name) → class_of_local start (named local_name ka x) ≡ class_of_local start (named local_name kb x)
    same_class x = sym (class_bare (named local_name ka x)) ∙ ap class_of_bare (seen x) ∙ class_bare (named local_name kb x)

    abbrev kind_of_bare : Option (Sort × Name) → Kind
    kind_of_bare None = k.unknown
    kind_of_bare (Some p) = kind_of_sort start p.0

    kind_bare : (o : Option Parameter) → kind_of_bare (option_map bare o) ≡ kind_of_local start o
    kind_bare None = refl
    kind_bare (Some p) = refl

    same_kind : (x : Name) → kind_of_local start (named local_name ka x) ≡ kind_of_local start (named local_name kb x)
    same_kind x = sym (kind_bare (named local_name ka x)) ∙ ap kind_of_bare (seen x) ∙ kind_bare (named local_name kb x)

    same_reach : (x y : Name) → u.in_reach A ka x y ≡ u.in_reach B kb x y
    same_reach x y = λ i. same_local x i ++ u.in_field_of start ka (same_class x i) y

    -- ---- names that aren't declared

    unknown_steps : (y : f.Form-F (List Fault) (List Fault) (List Fault)) → u.in_form A ka y ≡ u.in_form B kb y
    unknown_steps (f.Number n) = refl
    unknown_steps f.Null = refl
    unknown_steps (f.Local x) = same_local x
    unknown_steps (f.Read x y) = same_reach x y
    unknown_steps (f.Unary o p) = refl
    unknown_steps (f.Chain p others) = refl
    unknown_steps (f.Compared p how q) = refl

    unknown_expression : (x : Expression) → u.in_expression A ka x ≡ u.in_expression B kb x
    unknown_expression x = λ i. fold-Expression (List Fault) (List Fault) (List Fault) (λ y. unknown_steps y i) (λ v. v.form) (λ v. v.operand) x

    unknown_right : (x : Right) → u.in_right A ka x ≡ u.in_right B kb x
    unknown_right (rights.Plain v) = unknown_expression v
    unknown_right (rights.Call m es) = λ i. same_found m i ++ flat_map (λ v. unknown_expression v i) es
    unknown_right (rights.New x st es at) = λ i. u.in_class_name start x ++ u.in_principal start st ++ flat_map (λ v. unknown_expression v i) es
    unknown_right (rights.Downgrade how v x y at) = λ i. unknown_expression v i ++ in_label start x ++ in_label start y

    unknown_same : (x : Head) → u.in_head A ka x ≡ u.in_head B kb x
    unknown_same (declare s x l v) = λ i. u.in_sort start s ++ in_label start l ++ unknown_expression v i
    unknown_same (assign x v) = λ i. same_local x i ++ unknown_right v i
    unknown_same (write x y v) = λ i. same_reach x y i ++ unknown_expression v i
    unknown_same (call m es) = λ i. same_found m i ++ flat_map (λ v. unknown_expression v i) es
    unknown_same (test v) = unknown_expression v
    unknown_same (atomic l) = refl
    unknown_same (result v) = unknown_expression v.value

    pub unknown_head : (x y : Head) → Alike start x y → u.in_head A ka x ≡ [] → u.in_head B kb y ≡ []
    unknown_head x y (same h) nil = sym (unknown_same h) ∙ nil
    unknown_head x y (declares s n l m v knows) nil =
        let first = left_nil (u.in_sort start s ++ in_label start l) (u.in_expression A ka v) nil in
        let sort = left_nil (u.in_sort start s) (in_label start l) first in
        let label = knows (right_nil (u.in_sort start s) (in_label start l) first) in
        let value = sym (unknown_expression v) ∙ right_nil (u.in_sort start s ++ in_label start l) (u.in_expression A ka v) nil in
        λ i. sort i ++ label i ++ value i

    -- ---- types

    typed_steps : (y : f.Form-F (ℕ → Checked) Checked Checked) → t.in_form A ka y ≡ t.in_form B kb y
    typed_steps (f.Number n) = refl
    typed_steps f.Null = refl
    typed_steps (f.Local x) = λ i. λ at. record { value = record { kind = same_kind x i; at = at }; faults = [] }
    typed_steps (f.Read x y) = λ i. λ at. record {
      value = record { kind = kind_of_field start (named field_name (fields_of start (same_class x i)) y); at = at };
      faults = t.if_so (t.is_reachable (same_kind x i)) at;
    }
    typed_steps (f.Unary o p) = refl
    typed_steps (f.Chain p others) = refl
    typed_steps (f.Compared p how q) = refl

    typed_expression : (x : Expression) → t.checked A ka x ≡ t.checked B kb x
    typed_expression x = λ i. fold-Expression (ℕ → Checked) Checked Checked (λ y. typed_steps y i) (λ v. v.form v.at) (λ v. v.operand) x

    typed_arguments : (takers others : List Kind) (es : List Expression) → takers ≡ others → t.in_arguments A ka takers es ≡ t.in_arguments B kb others es
    typed_arguments takers others es s = λ i. flat_map (λ v. (typed_expression v i).faults) es ++ t.each_given (s i) (map (λ v. (typed_expression v i).value) es)

    typed_returned : (x : Name) → t.returned A ka (named method_name A.program.methods x) ≡ t.returned B kb (named method_name B.program.methods x)
    typed_returned x = sym (returned_shown ka (named method_name A.program.methods x)) ∙ ap shown_returned (calls x) ∙ returned_shown kb (named method_name B.program.methods x)

    typed_right : (p q : Kind) (x : Right) → p ≡ q → t.in_right A ka p x ≡ t.in_right B kb q x
    typed_right p q (rights.Plain v) s = λ i. (typed_expression v i).faults ++ t.given_to (s i) (typed_expression v i).value
    typed_right p q (rights.Call m es) s = λ i. typed_arguments (t.parameter_kinds A (named method_name A.program.methods m)) (t.parameter_kinds B (named method_name B.program.methods m)) es (same_kinds m) i ++ t.if_value start ka (typed_returned m i) (s i) m.at
    typed_right p q (rights.New x st es at) s = λ i. typed_arguments (t.field_kinds start (k.class_of start x)) (t.field_kinds start (k.class_of start x)) es refl i ++ t.given_to (s i) (record { kind = k.kind_of_class start (k.class_of start x); at = at })
    typed_right p q (rights.Downgrade how v x y at) s = λ i. (typed_expression v i).faults ++ t.given_to (s i) (record { kind = (typed_expression v i).value.kind; at = at })

    typed_same : (returns : Option Returns) (x : Head) → t.in_head A ka returns x ≡ t.in_head B kb returns x
    typed_same returns (declare s x l v) = λ i. (typed_expression v i).faults ++ t.given_to (kind_of_sort start s) (typed_expression v i).value
    typed_same returns (assign x v) = typed_right (t.local_kind A ka x) (t.local_kind B kb x) v (same_kind x)
    typed_same returns (write x y v) = λ i. t.if_so (t.is_reachable (same_kind x i)) x.at ++ (typed_expression v i).faults ++ t.given_to (kind_of_field start (named field_name (fields_of start (same_class x i)) y)) (typed_expression v i).value
    typed_same returns (call m es) = typed_arguments (t.parameter_kinds A (named method_name A.program.methods m)) (t.parameter_kinds B (named method_name B.program.methods m)) es (same_kinds m)
    typed_same returns (test v) = λ i. (typed_expression v i).faults ++ t.given_to (number widths.Int) (typed_expression v i).value
    typed_same returns (atomic l) = refl
    typed_same returns (result v) = λ i. (typed_expression v.value i).faults ++ t.given_to (t.result_kind start ka returns) (typed_expression v.value i).value

    pub typed_head : (returns : Option Returns) (x y : Head) → Alike start x y → t.in_head A ka returns x ≡ t.in_head B kb returns y
    typed_head returns x y (same h) = typed_same returns h
    typed_head returns x y (declares s n l m v knows) = λ i. (typed_expression v i).faults ++ t.given_to (kind_of_sort start s) (typed_expression v i).value

  -- ---- kinds of principals, and counts

  pub placed_head : (x y : Head) → Alike start x y → r.in_head A x ≡ r.in_head B y
  placed_head x y (same h) = placed h
    where
      right : (v : Right) → r.in_right A v ≡ r.in_right B v
      right (rights.Plain v) = refl
      right (rights.Call m es) = refl
      right (rights.New n st es at) = refl
      right (rights.Downgrade how v n m at) = refl

      placed : (z : Head) → r.in_head A z ≡ r.in_head B z
      placed (declare s n l v) = refl
      placed (assign n v) = right v
      placed (write n m v) = refl
      placed (call m es) = refl
      placed (test v) = refl
      placed (atomic l) = refl
      placed (result v) = refl
  placed_head x y (declares s n l m v knows) = refl

  pub counted_head : (x y : Head) → Alike start x y → a.in_head A x ≡ a.in_head B y
  counted_head x y (same h) = counted h
    where
      right : (v : Right) → a.in_right A v ≡ a.in_right B v
      right (rights.Plain v) = refl
      right (rights.Call m es) = same_count m (length es)
      right (rights.New n st es at) = refl
      right (rights.Downgrade how v n m at) = refl

      counted : (z : Head) → a.in_head A z ≡ a.in_head B z
      counted (declare s n l v) = refl
      counted (assign n v) = right v
      counted (write n m v) = refl
      counted (call m es) = same_count m (length es)
      counted (test v) = refl
      counted (atomic l) = refl
      counted (result v) = refl
  counted_head x y (declares s n l m v knows) = refl
