-- A bundle with labels for its holes has as many of all that has a limit.
use Rattle.std.proofs.Common.{◌≡◌, ℕ, ◌≤◌, nat_lt, Bool, true, false, cond, List, [], ◌∷◌, ◌++◌, map, length, All, Option, Some, None, find, refl, sym, ap, ◌∙◌, subst, arith}
use Rattle.std.specs.List.{flat_map}
use Rattle.std.proofs.lemmas.Bool.{ltb-false}
use Rattle.std.proofs.lemmas.List.{length-map}
use Rattle.std.proofs.lemmas.List.Elements.{All-nil, All-cons}
use Rattle.fab_base.specs.declared.limit.What.{What}
use Rattle.fab_base.specs.declared.limit.What.TheVariants as w
use Rattle.fab_tree.specs.declared.statement.Statement.{Statement, roll-Statement, map-Statement, ind-Statement, fold-roll-Statement}
use Rattle.fab_tree.specs.declared.statement.Statement.TheOpen as o
use Rattle.fab_tree.specs.declared.statement.Statement.TheVariants as made
use Rattle.fab_tree.specs.declared.program.Parameter.{Parameter}
use Rattle.fab_tree.specs.declared.program.Method.{Method}
use Rattle.fab_tree.specs.declared.start.Start.{Start}
use Rattle.fab_tree.specs.declared.resolved.Method.{Method as NumberedMethod}
use Rattle.fab_tree.specs.Limits.{count_of, first_passed, greatest, limit_of, locals_of, order, passes}
use Rattle.fab_tree.specs.Sites.{in_expression, in_method, in_result, in_statement, in_statement_step, joined}
use Rattle.fab_language.specs.MethodNumbers.{Numbered, in_turn, method_of, methods_of, numbered_local}
use Rattle.fab_holes.specs.Holes.{filled_name, filled_parameter, filled_step, filled_statement, filled_method, filled}
use Rattle.fab_holes.proofs.Filling.{as_many, locals_filled, parameters}

module _ (start : Start) (choice : List ℕ) where
  abbrev one : Statement → Numbered Statement
  one = filled_statement start choice

  abbrev all : List Statement → Numbered (List Statement)
  all xs = in_turn (map one xs)

  -- ---- sites

  sites_is : (x : Statement) (y : o.Statement-F Statement) → x ≡ roll-Statement y → in_statement x ≡ in_statement_step (map-Statement Statement (List ℕ) in_statement y)
  sites_is x y is = ap in_statement is ∙ fold-roll-Statement (List ℕ) in_statement_step y

  abbrev SitesStay : Statement → Type 0
  SitesStay x = (h : ℕ) → in_statement (one x h).0 ≡ in_statement x

  abbrev Known : Type 0
  Known = (x : Statement) × SitesStay x

  abbrev plain : List Known → List Statement
  plain ks = map (λ (k : Known). k.0) ks

  block : (ks : List Known) (h : ℕ) → map in_statement (all (plain ks) h).0 ≡ map in_statement (plain ks)
  block [] h = refl
  block (k ∷ ks) h = λ i. k.1 h i ∷ block ks (one k.0 h).1 i

  abbrev pieces : o.Statement-F Known → o.Statement-F Statement
  pieces = map-Statement Known Statement (λ k. k.0)

  abbrev layer_of : o.Statement-F Known → Numbered Statement
  layer_of y = filled_step start choice (map-Statement Statement (Numbered Statement) one (pieces y))

  layer : (y : o.Statement-F Known) (h : ℕ) → in_statement (layer_of y h).0 ≡ in_statement_step (map-Statement Statement (List ℕ) in_statement (pieces y))
  layer (o.Declare t x l e at) h = let m = (filled_name start choice l h).0 in sites_is (made.Declare t x m e at) (o.Declare t x m e at) (sym (made.rolls-Declare t x m e at))
  layer (o.Assign x r) h = sites_is (made.Assign x r) (o.Assign x r) (sym (made.rolls-Assign x r))
  layer (o.Write x y e) h = sites_is (made.Write x y e) (o.Write x y e) (sym (made.rolls-Write x y e))
  layer (o.Call m es) h = sites_is (made.Call m es) (o.Call m es) (sym (made.rolls-Call m es))
  layer (o.If e ks None) h =
      let b = all (plain ks) h in
      sites_is (made.If e b.0 None) (o.If e b.0 None) (sym (made.rolls-If e b.0 None)) ∙ (λ i. in_expression e ++ joined (block ks h i) ++ [])
  layer (o.If e ks (Some ls)) h =
      let b = all (plain ks) h in
      let d = all (plain ls) b.1 in
      sites_is (made.If e b.0 (Some d.0)) (o.If e b.0 (Some d.0)) (sym (made.rolls-If e b.0 (Some d.0))) ∙ (λ i. in_expression e ++ joined (block ks h i) ++ joined (block ls b.1 i))
  layer (o.While e ks) h =
      let b = all (plain ks) h in
      sites_is (made.While e b.0) (o.While e b.0) (sym (made.rolls-While e b.0)) ∙ (λ i. in_expression e ++ joined (block ks h i))
  layer (o.Atomic x ks ls at) h =
      let b = all (plain ks) h in
      let d = all (plain ls) b.1 in
      sites_is (made.Atomic x b.0 d.0 at) (o.Atomic x b.0 d.0 at) (sym (made.rolls-Atomic x b.0 d.0 at)) ∙ (λ i. joined (block ks h i) ++ joined (block ls b.1 i))
  layer (o.Fail at) h = sites_is (made.Fail at) (o.Fail at) (sym (made.rolls-Fail at))

  statement_case : (y : o.Statement-F Known) → SitesStay (roll-Statement (pieces y))
  statement_case y h =
      ap (λ (m : Numbered Statement). in_statement (m h).0) (fold-roll-Statement (Numbered Statement) (filled_step start choice) (pieces y))
      ∙ layer y h
      ∙ sym (sites_is (roll-Statement (pieces y)) (pieces y) refl)

  statement_stays : (x : Statement) → SitesStay x
  statement_stays = ind-Statement SitesStay (λ x y is. subst (λ z. SitesStay (roll-Statement z)) is (statement_case y))

  body_stays : (xs : List Statement) (h : ℕ) → flat_map in_statement (all xs h).0 ≡ flat_map in_statement xs
  body_stays [] h = refl
  body_stays (x ∷ xs) h = λ i. statement_stays x h i ++ body_stays xs (one x h).1 i

  -- ---- methods

  abbrev method : Method → Numbered Method
  method = filled_method start choice

  abbrev methods : List Method → Numbered (List Method)
  methods ms = in_turn (map method ms)

  sites_stay : (ms : List Method) (h : ℕ) → flat_map in_method (methods ms h).0 ≡ flat_map in_method ms
  sites_stay [] h = refl
  sites_stay (m ∷ ms) h = λ i. (body_stays m.body (in_turn (map (filled_parameter start choice) m.parameters) h).1 i ++ in_result m.result) ++ sites_stay ms (method m h).1 i

  many_parameters : (ps : List Parameter) (h : ℕ) → length (parameters start choice ps h).0 ≡ length ps
  many_parameters ps h = as_many (map (filled_parameter start choice) ps) h ∙ length-map ps (filled_parameter start choice)

  parameters_stay : (ms : List Method) (h : ℕ) → map (λ (m : Method). length m.parameters) (methods ms h).0 ≡ map (λ (m : Method). length m.parameters) ms
  parameters_stay [] h = refl
  parameters_stay (m ∷ ms) h = λ i. many_parameters m.parameters h i ∷ parameters_stay ms (method m h).1 i

  many_locals : (m : Method) (h : ℕ) → length (locals_of (method m h).0) ≡ length (locals_of m)
  many_locals m h = ap (λ (v : List Parameter × ℕ). length v.0) (locals_filled start choice m h) ∙ many_parameters (locals_of m) h

  locals_stay : (ms : List Method) (h : ℕ) → map (λ (m : Method). length (locals_of m)) (methods ms h).0 ≡ map (λ (m : Method). length (locals_of m)) ms
  locals_stay [] h = refl
  locals_stay (m ∷ ms) h = λ i. many_locals m h i ∷ locals_stay ms (method m h).1 i

  abbrev new : Start
  new = filled start choice

  counts_stay : (what : What) → count_of what new ≡ count_of what start
  counts_stay w.Bytes = refl
  counts_stay w.Depth = refl
  counts_stay w.Principals = refl
  counts_stay w.Nodes = refl
  counts_stay w.Labels = refl
  counts_stay w.Classes = refl
  counts_stay w.Fields = refl
  counts_stay w.Methods = as_many (map method start.program.methods) 0 ∙ length-map start.program.methods method
  counts_stay w.Parameters = ap greatest (parameters_stay start.program.methods 0)
  counts_stay w.Locals = ap greatest (locals_stay start.program.methods 0)
  counts_stay w.Sites = ap (λ (l : List ℕ). length l) (sites_stay start.program.methods 0)
  counts_stay w.Roots = refl
  counts_stay w.Requests = refl
  counts_stay w.Posts = refl
  counts_stay w.Crashes = refl
  counts_stay w.Events = refl
  counts_stay w.Cache = refl

  passed : (whats : List What) → find (passes new) whats ≡ find (passes start) whats
  passed [] = refl
  passed (x ∷ xs) = λ i. cond (nat_lt (limit_of x) (counts_stay x i)) (Some x) (passed xs i)

  pub limits_stay : first_passed new ≡ first_passed start
  limits_stay = passed order

-- ---- a bundle within the limits

fails : {A : Type 0} (b : Bool) (x : A) (rest : Option A) → cond b (Some x) rest ≡ None → (b ≡ false) × (rest ≡ None)
fails true x rest e = absurd (cc)
fails false x rest e = (refl, e)

few : (m n : ℕ) → nat_lt m n ≡ false → n ≤ m
few m n e = ltb-false m n e

module _ (s : Start) (within : first_passed s ≡ None) where
  abbrev from : List What → Option What
  from whats = find (passes s) whats

  labels_on : from (w.Labels ∷ w.Classes ∷ w.Fields ∷ w.Methods ∷ w.Parameters ∷ w.Locals ∷ w.Sites ∷ w.Roots ∷ w.Requests ∷ w.Posts ∷ w.Crashes ∷ w.Events ∷ w.Cache ∷ []) ≡ None
  labels_on = (fails (passes s w.Nodes) w.Nodes _ (fails (passes s w.Principals) w.Principals _ within).1).1

  methods_on : from (w.Methods ∷ w.Parameters ∷ w.Locals ∷ w.Sites ∷ w.Roots ∷ w.Requests ∷ w.Posts ∷ w.Crashes ∷ w.Events ∷ w.Cache ∷ []) ≡ None
  methods_on = (fails (passes s w.Fields) w.Fields _ (fails (passes s w.Classes) w.Classes _ (fails (passes s w.Labels) w.Labels _ labels_on).1).1).1

  locals_on : from (w.Locals ∷ w.Sites ∷ w.Roots ∷ w.Requests ∷ w.Posts ∷ w.Crashes ∷ w.Events ∷ w.Cache ∷ []) ≡ None
  locals_on = (fails (passes s w.Parameters) w.Parameters _ (fails (passes s w.Methods) w.Methods _ methods_on).1).1

  pub few_labels : length s.program.labels ≤ 64
  few_labels = few 64 (length s.program.labels) (fails (passes s w.Labels) w.Labels _ labels_on).0

  pub few_methods : length s.program.methods ≤ 256
  few_methods = few 256 (length s.program.methods) (fails (passes s w.Methods) w.Methods _ methods_on).0

  pub few_locals : greatest (map (λ (m : Method). length (locals_of m)) s.program.methods) ≤ 256
  few_locals = few 256 (greatest (map (λ (m : Method). length (locals_of m)) s.program.methods)) (fails (passes s w.Locals) w.Locals _ locals_on).0

-- of methods with numbers for names, too
pub numbered_locals : (s : Start) (ms : List Method) (n bound : ℕ) → greatest (map (λ (m : Method). length (locals_of m)) ms) ≤ bound → All (λ (m : NumberedMethod). length m.locals ≤ bound) (methods_of s ms n).0
numbered_locals s [] n bound small = All-nil (λ (m : NumberedMethod). length m.locals ≤ bound)
numbered_locals s (m ∷ ms) n bound small =
    let long = length-map (locals_of m) (numbered_local s) in
    All-cons (λ (x : NumberedMethod). length x.locals ≤ bound) (method_of s m n).0 (methods_of s ms (method_of s m n).1).0
    (subst (λ k. k ≤ bound) (sym long) (omega (arith, small)))
    (numbered_locals s ms (method_of s m n).1 bound (omega (arith, small)))
