-- In a bundle whose names are all declared each label that the program uses is.
use Rattle.std.proofs.Common.{◌≡◌, ℕ, suc, ◌<◌, List, [], ◌∷◌, ◌++◌, map, length, option_map, Option, Some, None, refl, sym, ap, ◌∙◌, subst}
use Rattle.std.specs.Prelude.{slice_get}
use Rattle.std.specs.List.{AllByRecursion, flat_map}
use Rattle.std.proofs.lemmas.List.{length-map}
use Rattle.fab_base.proofs.Lists.{all_append, left_nil, right_nil, each_nil, all_split, all_map, at_index, all_along}
use Rattle.fab_tree.specs.declared.name.Name.{Name}
use Rattle.fab_tree.specs.declared.declaration.Class.{Class}
use Rattle.fab_tree.specs.declared.declaration.Field.{Field}
use Rattle.fab_tree.specs.declared.statement.Right.{Right}
use Rattle.fab_tree.specs.declared.statement.Right.TheVariants as rights
use Rattle.fab_tree.specs.declared.statement.Statement.{Statement, roll-Statement, map-Statement, ind-Statement, fold-roll-Statement}
use Rattle.fab_tree.specs.declared.statement.Statement.TheOpen as o
use Rattle.fab_tree.specs.declared.program.Parameter.{Parameter}
use Rattle.fab_tree.specs.declared.program.Returns.{Returns}
use Rattle.fab_tree.specs.declared.program.Method.{Method}
use Rattle.fab_tree.specs.declared.start.Start.{Start}
use Rattle.fab_tree.specs.declared.resolved.Class.{Class as NumberedClass}
use Rattle.fab_tree.specs.declared.resolved.Statement.{Statement as NumberedStatement, roll-Statement as roll-NumberedStatement, map-Statement as map-NumberedStatement, fold-roll-Statement as fold-roll-NumberedStatement}
use Rattle.fab_tree.specs.declared.resolved.Statement.TheVariants as ns
use Rattle.fab_tree.specs.declared.resolved.Statement.TheOpen as nso
use Rattle.fab_tree.specs.declared.resolved.Right.TheVariants as nr
use Rattle.fab_tree.specs.Limits.{joined, declared_in, declared_step, locals_of}
use Rattle.fab_language.specs.Doubled.{doubled}
use Rattle.fab_language.specs.Roles.{misplaced}
use Rattle.fab_language.specs.Arity.{miscounted}
use Rattle.fab_language.specs.Types.{mistyped}
use Rattle.fab_language.specs.Faults.{faults}
use Rattle.fab_language.specs.Heads.{Locals, Head, Walk, in_row, walk_step, walk, heads_in, heads_of, result_heads}
use Rattle.fab_language.specs.Names.{label_name}
use Rattle.fab_language.specs.Unknown.{in_sort, in_label, in_local, in_expression, in_right, in_head, in_parameter, in_returns, in_principal, in_heading, in_class, in_method, in_delegation, in_label_text, in_root, in_session, in_post, in_crash, in_event, unknown}
use Rattle.fab_language.specs.Uses.{label_use, local_use, local_number, field_number, method_use}
use Rattle.fab_language.specs.MethodNumbers.{Numbered, in_turn, expression_of, expressions_of, right_of, statement_step, statement_of, block_of, numbered_local, returns_of, method_of, methods_of}
use Rattle.fab_language.specs.Numbers.{label_of, class_of, resolved}
use Rattle.fab_language.proofs.NumberedForms.{statement_numbers}
use Rattle.fab_language.proofs.Named.{number_below}
use Rattle.fab_labelling.specs.Obligations.{label_of_returns}
use Rattle.fab_views.proofs.Labels.{named_by_right, labels_step, labels_in, labels_in_block, AreBelow, IsLabelledLocal, IsLabelledClass, IsLabelledMethod, HasLabels}

module _ (s : Start) where
  abbrev many : ℕ
  many = length (resolved s).labels

  label_below : (x : Name) → in_label s x ≡ [] → (label_use s x).number < many
  label_below x e = subst (λ n. (label_use s x).number < n) (sym (length-map s.program.labels (label_of s))) (number_below label_name s.program.labels x e)

  -- ---- statements

  abbrev AreLabelled : List Parameter → Type 0
  AreLabelled ps = AllByRecursion (λ p. in_label s p.label ≡ []) ps

  abbrev AreNamed : List (Locals × Head) → Type 0
  AreNamed hs = AllByRecursion (λ h. in_head s h.0 h.1 ≡ []) hs

  module _ (locals : List Parameter) where
    below_by : (x : NumberedStatement) (y : nso.Statement-F NumberedStatement) → x ≡ roll-NumberedStatement y → AreBelow many (labels_step (map-NumberedStatement NumberedStatement (List ℕ) labels_in y)) → AreBelow many (labels_in x)
    below_by x y is h = subst (AreBelow many) (sym (ap labels_in is ∙ fold-roll-NumberedStatement (List ℕ) labels_step y)) h

    right_below : (known : Locals) (w : Right) (k : ℕ) → in_right s known w ≡ [] → AreBelow many (named_by_right (right_of s locals w k).0)
    right_below known (rights.Plain e) k h = tt
    right_below known (rights.Call x es) k h = tt
    right_below known (rights.New x y es at) k h = tt
    right_below known (rights.Downgrade d e x y at) k h =
        let front = left_nil (in_expression s known e ++ in_label s x) (in_label s y) h in
        (label_below x (right_nil (in_expression s known e) (in_label s x) front), (label_below y (right_nil (in_expression s known e ++ in_label s x) (in_label s y) h), tt))

    -- what is shown of each: the labels of what it declares are, and so are those that it names
    abbrev Names : Walk → List Parameter → Numbered NumberedStatement → Type 0
    Names w ps made = (known : Locals) (k : ℕ) → AreNamed (w known).heads → AreLabelled ps × AreBelow many (labels_in (made k).0)

    abbrev StatementNames : Statement → Type 0
    StatementNames x = Names (walk x) (declared_in x) (statement_of s locals x)

    abbrev BlockNames : Walk → List Parameter → Numbered (List NumberedStatement) → Type 0
    BlockNames w ps made = (known : Locals) (k : ℕ) → AreNamed (w known).heads → AreLabelled ps × AreBelow many (labels_in_block (made k).0)

    -- a statement, whose parts are some for which this is known
    module _ (S : Type 0) (statement : S → Statement) (of_statement : (k : S) → StatementNames (statement k)) where
      abbrev pieces : o.Statement-F S → o.Statement-F Statement
      pieces = map-Statement S Statement statement

      abbrev walked : List S → Walk
      walked ks = in_row (map walk (map statement ks))

      abbrev declares : List S → List Parameter
      declares ks = joined (map declared_in (map statement ks))

      abbrev made : List S → Numbered (List NumberedStatement)
      made ks = in_turn (map (statement_of s locals) (map statement ks))

      block_layer : (ks : List S) → BlockNames (walked ks) (declares ks) (made ks)
      block_layer [] known k r = (tt, tt)
      block_layer (x ∷ xs) known k r =
          let hs = all_split (λ h. in_head s h.0 h.1 ≡ []) (walk (statement x) known).heads (walked xs (walk (statement x) known).behind).heads r in
          let next = (statement_of s locals (statement x) k).1 in
          let here = of_statement x known k hs.0 in
          let rest = block_layer xs (walk (statement x) known).behind next hs.1 in (
            all_append (λ p. in_label s p.label ≡ []) (declared_in (statement x)) (declares xs) here.0 rest.0,
            all_append (λ l. l < many) (labels_in (statement_of s locals (statement x) k).0) (labels_in_block (made xs next).0) here.1 rest.1,
          )

      -- what two blocks declare and name
      two_layer : (known : Locals) (xs ys : List S) (k : ℕ) → AreNamed ((walked xs known).heads ++ (walked ys known).heads)
          → AreLabelled (declares xs ++ declares ys) × AreBelow many (labels_in_block (made xs k).0 ++ labels_in_block (made ys (made xs k).1).0)
      two_layer known xs ys k r =
          let hs = all_split (λ h. in_head s h.0 h.1 ≡ []) (walked xs known).heads (walked ys known).heads r in
          let a = block_layer xs known k hs.0 in
          let b = block_layer ys known (made xs k).1 hs.1 in (
            all_append (λ p. in_label s p.label ≡ []) (declares xs) (declares ys) a.0 b.0,
            all_append (λ l. l < many) (labels_in_block (made xs k).0) (labels_in_block (made ys (made xs k).1).0) a.1 b.1,
          )

      abbrev walk_layer : o.Statement-F S → Walk
      walk_layer y = walk_step (map-Statement Statement Walk walk (pieces y))

      abbrev declared_layer : o.Statement-F S → List Parameter
      declared_layer y = declared_step (map-Statement Statement (List Parameter) declared_in (pieces y))

      abbrev made_layer : o.Statement-F S → Numbered NumberedStatement
      made_layer y = statement_step s locals (map-Statement Statement (Numbered NumberedStatement) (statement_of s locals) (pieces y))

      statement_layer : (y : o.Statement-F S) → Names (walk_layer y) (declared_layer y) (made_layer y)
      statement_layer (o.Declare d x l e at) known k r =
          let v = nr.Plain (expression_of s locals e k).0 in
          let front = left_nil (in_sort s d ++ in_label s l) (in_expression s known e) r.0 in
          ((right_nil (in_sort s d) (in_label s l) front, tt), below_by (ns.Assign (local_number locals x) v at) (nso.Assign (local_number locals x) v at) (sym (ns.rolls-Assign (local_number locals x) v at)) tt)
      statement_layer (o.Assign x w) known k r =
          let v = (right_of s locals w k).0 in
          (tt, below_by (ns.Assign (local_number locals x) v x.at) (nso.Assign (local_number locals x) v x.at) (sym (ns.rolls-Assign (local_number locals x) v x.at)) (right_below known w k (right_nil (in_local s known x) (in_right s known w) r.0)))
      statement_layer (o.Write x y e) known k r =
          let v = (expression_of s locals e (suc k)).0 in
          let field = field_number s locals x y in
          (tt, below_by (ns.Write (local_use locals x) field v k) (nso.Write (local_use locals x) field v k) (sym (ns.rolls-Write (local_use locals x) field v k)) tt)
      statement_layer (o.Call x es) known k r =
          let v = (expressions_of s locals es k).0 in
          (tt, below_by (ns.Call (method_use s x) v) (nso.Call (method_use s x) v) (sym (ns.rolls-Call (method_use s x) v)) tt)
      statement_layer (o.If e xs None) known k r =
          let c = expression_of s locals e k in
          let b = made xs c.1 in
          let hs = all_split (λ h. in_head s h.0 h.1 ≡ []) (walked xs known).heads [] r.1 in
          let t = block_layer xs known c.1 hs.0 in
          (t.0, below_by (ns.If c.0 b.0 []) (nso.If c.0 b.0 []) (sym (ns.rolls-If c.0 b.0 [])) (all_append (λ l. l < many) (labels_in_block b.0) [] t.1 tt))
      statement_layer (o.If e xs (Some ys)) known k r =
          let c = expression_of s locals e k in
          let b = made xs c.1 in
          let d = made ys b.1 in
          let t = two_layer known xs ys c.1 r.1 in
          (t.0, below_by (ns.If c.0 b.0 d.0) (nso.If c.0 b.0 d.0) (sym (ns.rolls-If c.0 b.0 d.0)) t.1)
      statement_layer (o.While e xs) known k r =
          let c = expression_of s locals e k in
          let b = made xs c.1 in
          let t = block_layer xs known c.1 r.1 in
          (t.0, below_by (ns.While c.0 b.0) (nso.While c.0 b.0) (sym (ns.rolls-While c.0 b.0)) t.1)
      statement_layer (o.Atomic x xs ys at) known k r =
          let b = made xs k in
          let d = made ys b.1 in
          let t = two_layer known xs ys k r.1 in
          (t.0, below_by (ns.Atomic (label_use s x) b.0 d.0 at) (nso.Atomic (label_use s x) b.0 d.0 at) (sym (ns.rolls-Atomic (label_use s x) b.0 d.0 at)) (label_below x r.0, t.1))
      statement_layer (o.Fail at) known k r = (tt, below_by (ns.Fail at) (nso.Fail at) (sym (ns.rolls-Fail at)) tt)

      statement_case : (y : o.Statement-F S) → StatementNames (roll-Statement (pieces y))
      statement_case y =
          let x = roll-Statement (pieces y) in
          subst (λ w. Names (walk x) (declared_in x) w) (sym (statement_numbers s locals x (pieces y) refl))
          (subst (λ w. Names (walk x) w (made_layer y)) (sym (fold-roll-Statement (List Parameter) declared_step (pieces y)))
          (subst (λ w. Names w (declared_layer y) (made_layer y)) (sym (fold-roll-Statement Walk walk_step (pieces y)))
          (statement_layer y)))

    statement_names : (x : Statement) → StatementNames x
    statement_names = ind-Statement StatementNames (λ x y is. subst (λ z. StatementNames (roll-Statement z)) is (statement_case _ (λ k. k.0) (λ k. k.1) y))

    block_names : (xs : List Statement) → BlockNames (heads_in xs) (flat_map declared_in xs) (block_of s locals xs)
    block_names [] known k r = (tt, tt)
    block_names (x ∷ xs) known k r =
        let hs = all_split (λ h. in_head s h.0 h.1 ≡ []) (walk x known).heads (heads_in xs (walk x known).behind).heads r in
        let next = (statement_of s locals x k).1 in
        let here = statement_names x known k hs.0 in
        let rest = block_names xs (walk x known).behind next hs.1 in (
          all_append (λ p. in_label s p.label ≡ []) (declared_in x) (flat_map declared_in xs) here.0 rest.0,
          all_append (λ l. l < many) (labels_in (statement_of s locals x k).0) (labels_in_block (block_of s locals xs next).0) here.1 rest.1,
        )

  -- ---- methods and classes

  returns_below : (x : Option Returns) → in_returns s x ≡ [] → AreBelow many (label_of_returns (option_map (returns_of s) x))
  returns_below None e = tt
  returns_below (Some x) e = (label_below x.label (right_nil (in_sort s x.sort) (in_label s x.label) e), tt)

  method_labelled : (m : Method) (k : ℕ) → in_method s m ≡ [] → IsLabelledMethod many (method_of s m k).0
  method_labelled m k e =
      let in_heads = flat_map (λ (h : Locals × Head). in_head s h.0 h.1) (heads_of m) in
      let ps = flat_map (in_parameter s) m.parameters in
      let rs = in_returns s m.returns in
      let heading = left_nil (in_heading s m) in_heads e in
      let three = left_nil (ps ++ rs ++ in_label s m.begin) (flat_map (in_principal s) m.authority) heading in
      let two = left_nil (ps ++ rs) (in_label s m.begin) three in
      let body = heads_in m.body m.parameters in
      let heads = all_split (λ h. in_head s h.0 h.1 ≡ []) body.heads (result_heads m.result body.behind) (each_nil (λ (h : Locals × Head). in_head s h.0 h.1) (heads_of m) (right_nil (in_heading s m) in_heads e)) in
      let names = block_names (locals_of m) m.body m.parameters k heads.0 in
      let parameters = all_along (λ p. in_parameter s p ≡ []) (λ p. in_label s p.label ≡ []) (λ p h. right_nil (in_sort s p.sort) (in_label s p.label) h) m.parameters (each_nil (in_parameter s) m.parameters (left_nil ps rs two)) in
      record {
        locals = all_map (IsLabelledLocal many) (numbered_local s) (locals_of m)
            (all_along (λ p. in_label s p.label ≡ []) (λ p. (label_use s p.label).number < many) (λ p h. label_below p.label h) (locals_of m)
            (all_append (λ p. in_label s p.label ≡ []) m.parameters (flat_map declared_in m.body) parameters names.0));
        returns = returns_below m.returns (right_nil ps rs two);
        begin = label_below m.begin (right_nil (ps ++ rs) (in_label s m.begin) three);
        body = names.1;
      }

  methods_labelled : (ms : List Method) (k : ℕ) → AllByRecursion (λ m. in_method s m ≡ []) ms → AllByRecursion (IsLabelledMethod many) (methods_of s ms k).0
  methods_labelled [] k h = tt
  methods_labelled (m ∷ ms) k h = (method_labelled m k h.0, methods_labelled ms (method_of s m k).1 h.1)

  class_labelled : (c : Class) → in_class s c ≡ [] → IsLabelledClass many (class_of s c)
  class_labelled c e =
      let both = left_nil (in_label s c.label ++ in_label s c.access) (flat_map (λ (f : Field). in_sort s f.sort) c.fields) e in
      record {
        label = label_below c.label (left_nil (in_label s c.label) (in_label s c.access) both);
        access = label_below c.access (right_nil (in_label s c.label) (in_label s c.access) both);
      }

  record Unknowns : Type 0 where
    classes : flat_map (in_class s) s.program.classes ≡ []
    methods : flat_map (in_method s) s.program.methods ≡ []

  unknowns : unknown s ≡ [] → Unknowns
  unknowns e =
      let a = flat_map (in_delegation s) s.program.delegations in
      let b = flat_map (in_label_text s) s.program.labels in
      let c = flat_map (in_class s) s.program.classes in
      let d = flat_map (in_method s) s.program.methods in
      let r = flat_map (in_root s) s.roots in
      let f = flat_map (in_session s) s.sessions in
      let g = flat_map (in_post s) s.posts in
      let h = flat_map (in_crash s) s.crashes in
      let i = flat_map (in_event s) s.schedule in
      let six = left_nil (a ++ b ++ c ++ d ++ r ++ f) g (left_nil (a ++ b ++ c ++ d ++ r ++ f ++ g) h (left_nil (a ++ b ++ c ++ d ++ r ++ f ++ g ++ h) i e)) in
      let four = left_nil (a ++ b ++ c ++ d) r (left_nil (a ++ b ++ c ++ d ++ r) f six) in
      record {
        classes = right_nil (a ++ b) c (left_nil (a ++ b ++ c) d four);
        methods = right_nil (a ++ b ++ c) d four;
      }

  no_unknowns : faults s ≡ [] → unknown s ≡ []
  no_unknowns e =
      left_nil (unknown s) (doubled s) (left_nil (unknown s ++ doubled s) (misplaced s)
      (left_nil (unknown s ++ doubled s ++ misplaced s) (miscounted s) (left_nil (unknown s ++ doubled s ++ misplaced s ++ miscounted s) (mistyped s) e)))

pub labels_declared : (s : Start) → faults s ≡ [] → HasLabels (resolved s)
labels_declared s e =
    let names = unknowns s (no_unknowns s e) in
    record {
      classes = all_map (IsLabelledClass (many s)) (class_of s) s.program.classes
          (all_along (λ c. in_class s c ≡ []) (λ c. IsLabelledClass (many s) (class_of s c)) (class_labelled s) s.program.classes (each_nil (in_class s) s.program.classes names.classes));
      methods = methods_labelled s s.program.methods 0 (each_nil (in_method s) s.program.methods names.methods);
    }

-- the label of a class is declared
pub class_label_declared : (s : Start) → faults s ≡ [] → (n : ℕ) (class : NumberedClass) → slice_get (resolved s).classes n ≡ Some class → class.label.number < length (resolved s).labels
class_label_declared s e n class is = (at_index (IsLabelledClass (many s)) (resolved s).classes n class (labels_declared s e).classes is).label
