-- What is said of methods before their bodies, and what calls and new objects are given.
use Rattle.std.proofs.Common.{◌≡◌, ℕ, zero, suc, Bool, true, false, cond, ◌==◌, List, [], ◌∷◌, ◌++◌, map, length, take, option_map, Option, Some, None, refl, sym, ap, ◌∙◌, subst, arith}
use Rattle.std.specs.Prelude.{slice_get}
use Rattle.std.specs.List.{AllByRecursion, flat_map}
use Rattle.std.proofs.lemmas.Bool.{eq-eqb, eqb-true}
use Rattle.std.proofs.lemmas.List.{length-map}
use Rattle.fab_base.proofs.Lists.{left_nil, right_nil}
use Rattle.fab_tree.specs.declared.name.Name.{Name}
use Rattle.fab_tree.specs.declared.declaration.Field.{Field}
use Rattle.fab_tree.specs.declared.expression.Expression.{Expression}
use Rattle.fab_tree.specs.declared.statement.Right.{Right}
use Rattle.fab_tree.specs.declared.statement.Right.TheVariants as rights
use Rattle.fab_tree.specs.declared.program.Parameter.{Parameter}
use Rattle.fab_tree.specs.declared.program.Returns.{Returns}
use Rattle.fab_tree.specs.declared.program.Method.{Method}
use Rattle.fab_tree.specs.declared.start.Start.{Start}
use Rattle.fab_tree.specs.declared.resolved.Local.{Local}
use Rattle.fab_tree.specs.declared.resolved.Expression.{Expression as NumberedExpression}
use Rattle.fab_tree.specs.declared.resolved.Method.{Method as NumberedMethod}
use Rattle.fab_tree.specs.Limits.{declared_in}
use Rattle.fab_language.specs.declared.rule.Fault.{Fault}
use Rattle.fab_language.specs.declared.rule.NameRule.TheVariants.{Arity}
use Rattle.fab_language.specs.Arity.{if_as_many}
use Rattle.fab_language.specs.Arity as a
use Rattle.fab_language.specs.Heads.{Locals}
use Rattle.fab_language.specs.Kinds.{Kind, takes, kind_of_sort, kind_of_class, kind_of_returns, class_of as known_class, method_of as known_method}
use Rattle.fab_language.specs.Names.{named, number_of, is_same_name, class_name, method_name}
use Rattle.fab_language.specs.Types.{if_so, given_to, if_value}
use Rattle.fab_language.specs.Types as t
use Rattle.fab_language.specs.Unknown.{in_sort, in_returns, in_label, in_principal}
use Rattle.fab_language.specs.Unknown as u
use Rattle.fab_language.specs.Uses.{class_number, method_number}
use Rattle.fab_language.specs.MethodNumbers.{expression_of, expressions_of, right_of, numbered_local, returns_of, method_of, methods_of}
use Rattle.fab_laws.specs.Kinds as n
use Rattle.fab_laws.specs.Shapes.{is_met}
use Rattle.fab_shapes.proofs.Agreement.{Holds, AllHold, held, fits, own_number, sort_holds, class_at, fields_hold}
use Rattle.fab_shapes.proofs.Expressions.{expression_agrees}
use Rattle.fab_shapes.proofs.Locals.{classes_in, allowed, IsDeclared, IsKnown, local_kinds}
use Rattle.fab_shapes.proofs.Named.{found, of_named}

-- a claim that is met
abbrev pub Met : n.Claim → Type 0
Met c = is_met c ≡ true

-- the types in a method's heading are declared
pub record HasHeading (s : Start) (m : Method) : Type 0 where
  pub parameters : AllByRecursion (λ p. in_sort s p.sort ≡ []) m.parameters
  pub returns : in_returns s m.returns ≡ []

-- so many are given as are wanted
pub as_many : (wanted given : ℕ) (x : Name) → if_as_many wanted given x ≡ [] → wanted ≡ given
as_many wanted given x e = by (wanted == given) refl e
  where
    by : (b : Bool) → (wanted == given) ≡ b → cond {A = List Fault} b [] (record { rule = Arity; at = x.at } ∷ []) ≡ [] → wanted ≡ given
    by true i g = eqb-true wanted given i
    by false i g = absurd (omega (arith, ap length g))

-- wherever it would be told
pub if_so_at : (b : Bool) (at place : ℕ) → if_so b at ≡ [] → if_so b place ≡ []
if_so_at true at place e = refl
if_so_at false at place e = absurd (omega (arith, ap length e))

-- ---- methods with numbers

abbrev pub methods_in : Start → List NumberedMethod
methods_in s = (methods_of s s.program.methods 0).0

module _ (s : Start) where
  -- a method at its number, wherever its sites begin
  pub record StandsAt (ms : List NumberedMethod) (i : ℕ) (m : Method) : Type 0 where
    pub begins : ℕ
    pub there : slice_get ms i ≡ Some (method_of s m begins).0

  pub method_at : (ms : List Method) (k : ℕ) (x : Name) (m : Method) → named method_name ms x ≡ Some m → StandsAt (methods_of s ms k).0 (number_of method_name ms x) m
  method_at [] k x m e = absurd (cc)
  method_at (y ∷ ys) k x m e = by (is_same_name y.name x) e (λ g. method_at ys (method_of s y k).1 x m g)
    where
      by : (b : Bool) → cond b (Some y) (named method_name ys x) ≡ Some m
          → (named method_name ys x ≡ Some m → StandsAt (methods_of s ys (method_of s y k).1).0 (number_of method_name ys x) m)
          → StandsAt (methods_of s (y ∷ ys) k).0 (cond b zero (suc (number_of method_name ys x))) m
      by true g later = let same : y ≡ m = cc in record { begins = k; there = ap (λ w. Some (method_of s w k).0) same }
      by false g later = let w = later g in record { begins = w.begins; there = w.there }

  pub parameters_hold : (ps rest : List Parameter) → AllByRecursion (λ p. in_sort s p.sort ≡ []) ps
      → AllHold s (map (λ p. kind_of_sort s p.sort) ps) (take (length ps) (map (λ (x : Local). n.kind_of_sort x.sort) (map (numbered_local s) (ps ++ rest))))
  parameters_hold [] rest h = tt
  parameters_hold (p ∷ ps) rest h = (sort_holds s p.sort h.0, parameters_hold ps rest h.1)

  pub hold_length : (ks : List Kind) (js : List n.Kind) → AllHold s ks js → length ks ≡ length js
  hold_length [] [] h = refl
  hold_length [] (j ∷ js) h = absurd h
  hold_length (k ∷ ks) [] h = absurd h
  hold_length (k ∷ ks) (j ∷ js) h = ap suc (hold_length ks js h.1)

  -- what is given to a method's parameters and had of its result, by its number
  pub parameters_at : (x : Name) (m : Method) → named method_name s.program.methods x ≡ Some m → HasHeading s m
      → AllHold s (t.parameter_kinds s (Some m)) (n.parameter_kinds (slice_get (methods_in s) (method_number s x)))
  parameters_at x m e h =
      let w = method_at s.program.methods 0 x m e in
      subst (λ o. AllHold s (t.parameter_kinds s (Some m)) (n.parameter_kinds o)) (sym w.there) (parameters_hold m.parameters (flat_map declared_in m.body) h.parameters)

  result_holds : (r : Option Returns) (x : Returns) → r ≡ Some x → in_returns s r ≡ [] → Holds s (kind_of_sort s x.sort) (n.returns_kind (option_map (returns_of s) r))
  result_holds r x e h =
      subst (λ o. Holds s (kind_of_sort s x.sort) (n.returns_kind (option_map (returns_of s) o))) (sym e)
      (sort_holds s x.sort (left_nil (in_sort s x.sort) (in_label s x.label) (subst (λ o. in_returns s o ≡ []) e h)))

  pub result_at : (x : Name) (m : Method) (r : Returns) → named method_name s.program.methods x ≡ Some m → HasHeading s m → m.returns ≡ Some r
      → Holds s (kind_of_sort s r.sort) (n.result_kind (slice_get (methods_in s) (method_number s x)))
  result_at x m r e h is =
      let w = method_at s.program.methods 0 x m e in
      subst (λ o. Holds s (kind_of_sort s r.sort) (n.result_kind o)) (sym w.there) (result_holds m.returns r is h.returns)

-- ---- what is given in turn

module _ (s : Start) (classes : AllByRecursion (IsDeclared s) s.program.classes) (headings : AllByRecursion (HasHeading s) s.program.methods) (locals : List Parameter) (known : Locals) (knows : AllByRecursion (IsKnown s locals) known) where
  abbrev kind_of : NumberedExpression → n.Kind
  kind_of = n.kind_of (classes_in s) (methods_in s) (local_kinds s locals)

  -- a value is given to what holds it
  pub given_fits : (taker : Kind) (i : n.Kind) (e : Expression) (k : ℕ) → Holds s taker i → u.in_expression s known e ≡ [] → t.in_expression s known e ≡ [] → given_to taker (t.typed s known e) ≡ []
      → Met (n.given i (kind_of (expression_of s locals e k).0))
  given_fits taker i e k h a b c =
      fits s taker (t.typed s known e).kind i (kind_of (expression_of s locals e k).0) h
      (expression_agrees s classes (methods_in s) locals known knows e k a b)
      (allowed (takes taker (t.typed s known e).kind) (t.typed s known e).at c)

  each_fits : (ks : List Kind) (js : List n.Kind) (es : List Expression) (k : ℕ) → AllHold s ks js → flat_map (u.in_expression s known) es ≡ [] → flat_map (t.in_expression s known) es ≡ [] → t.each_given ks (map (t.typed s known) es) ≡ [] → length ks ≡ length es
      → AllByRecursion Met (n.each_given js (map kind_of (expressions_of s locals es k).0))
  each_fits [] [] [] k h a b c l = tt
  each_fits [] [] (e ∷ es) k h a b c l = absurd (omega (arith, l))
  each_fits [] (j ∷ js) es k h a b c l = absurd h
  each_fits (taker ∷ ks) [] es k h a b c l = absurd h
  each_fits (taker ∷ ks) (j ∷ js) [] k h a b c l = absurd (omega (arith, l))
  each_fits (taker ∷ ks) (j ∷ js) (e ∷ es) k h a b c l = (
    given_fits taker j e k h.0 (left_nil (u.in_expression s known e) (flat_map (u.in_expression s known) es) a) (left_nil (t.in_expression s known e) (flat_map (t.in_expression s known) es) b)
        (left_nil (given_to taker (t.typed s known e)) (t.each_given ks (map (t.typed s known) es)) c),
    each_fits ks js es (expression_of s locals e k).1 h.1
        (right_nil (u.in_expression s known e) (flat_map (u.in_expression s known) es) a)
        (right_nil (t.in_expression s known e) (flat_map (t.in_expression s known) es) b)
        (right_nil (given_to taker (t.typed s known e)) (t.each_given ks (map (t.typed s known) es)) c)
        (omega (arith, l)),
  )

  made_length : (es : List Expression) (k : ℕ) → length es ≡ length (map kind_of (expressions_of s locals es k).0)
  made_length [] k = refl
  made_length (e ∷ es) k = ap suc (made_length es (expression_of s locals e k).1)

  pub all_fit : (ks : List Kind) (js : List n.Kind) (es : List Expression) (k : ℕ) → AllHold s ks js → flat_map (u.in_expression s known) es ≡ [] → t.in_arguments s known ks es ≡ [] → length ks ≡ length es
      → AllByRecursion Met (n.all_given js (map kind_of (expressions_of s locals es k).0))
  all_fit ks js es k h a b l = (
    eq-eqb (length js) (length (map kind_of (expressions_of s locals es k).0)) (sym (hold_length s ks js h) ∙ l ∙ made_length es k),
    each_fits ks js es k h a (left_nil (flat_map (t.in_expression s known) es) (t.each_given ks (map (t.typed s known) es)) b) (right_nil (flat_map (t.in_expression s known) es) (t.each_given ks (map (t.typed s known) es)) b) l,
  )

  -- the method that a call names
  pub record Calls (x : Name) (es : List Expression) : Type 0 where
    pub method : Method
    pub is : named method_name s.program.methods x ≡ Some method
    pub heading : HasHeading s method
    pub fitting : (k : ℕ) → AllByRecursion Met (n.call_claims (classes_in s) (methods_in s) (local_kinds s locals) (method_number s x) (expressions_of s locals es k).0)

  pub call_fits : (x : Name) (es : List Expression) → u.in_method_name s x ++ flat_map (u.in_expression s known) es ≡ [] → a.in_call s x (length es) ≡ [] → t.in_call s known x es ≡ [] → Calls x es
  call_fits x es e c g =
      let w = found (named method_name s.program.methods x) x (left_nil (u.in_method_name s x) (flat_map (u.in_expression s known) es) e) in
      let heading : HasHeading s w.0 = of_named method_name (HasHeading s) s.program.methods x w.0 headings w.1 in
      let many : length w.0.parameters ≡ length es = as_many (length w.0.parameters) (length es) x (subst (λ o. a.for_method o (length es) x ≡ []) w.1 c) in
      record {
        method = w.0;
        is = w.1;
        heading = heading;
        fitting = λ k.
            all_fit (t.parameter_kinds s (Some w.0)) (n.parameter_kinds (slice_get (methods_in s) (method_number s x))) es k
            (parameters_at s x w.0 w.1 heading)
            (right_nil (u.in_method_name s x) (flat_map (u.in_expression s known) es) e)
            (subst (λ o. t.in_arguments s known (t.parameter_kinds s o) es ≡ []) w.1 g)
            (length-map w.0.parameters (λ (p : Parameter). kind_of_sort s p.sort) ∙ many);
      }

  -- ---- what is assigned to a local

  abbrev right_kind : Right → ℕ → n.Kind
  right_kind r k = n.right_kind (classes_in s) (methods_in s) (local_kinds s locals) (right_of s locals r k).0

  abbrev right_claims : Right → ℕ → List n.Claim
  right_claims r k = n.right_claims (classes_in s) (methods_in s) (local_kinds s locals) (right_of s locals r k).0

  -- what a method returns is given to what holds it
  returned_fits : (taker : Kind) (i : n.Kind) (x : Name) (m : Method) → Holds s taker i → named method_name s.program.methods x ≡ Some m → HasHeading s m → (r : Option Returns) → m.returns ≡ r → if_value s known (kind_of_returns s r) taker x.at ≡ []
      → Met (n.given i (n.result_kind (slice_get (methods_in s) (method_number s x))))
  returned_fits taker i x m h is heading None e f = absurd (omega (arith, ap length f))
  returned_fits taker i x m h is heading (Some r) e f =
      let j = n.result_kind (slice_get (methods_in s) (method_number s x)) in
      fits s taker (kind_of_sort s r.sort) i j h
      (held s (kind_of_sort s r.sort) j (result_at s x m r is heading e))
      (allowed (takes taker (kind_of_sort s r.sort)) x.at f)

  call_right : (taker : Kind) (i : n.Kind) (x : Name) (es : List Expression) (k : ℕ) → Holds s taker i → u.in_right s known (rights.Call x es) ≡ [] → a.in_right s (rights.Call x es) ≡ [] → t.in_right s known taker (rights.Call x es) ≡ []
      → AllByRecursion Met (n.given i (right_kind (rights.Call x es) k) ∷ right_claims (rights.Call x es) k)
  call_right taker i x es k h e c g =
      let given = if_value s known (t.returned s known (known_method s x)) taker x.at in
      let w = call_fits x es e c (left_nil (t.in_call s known x es) given g) in (
        returned_fits taker i x w.method h w.is w.heading w.method.returns refl
            (subst (λ o. if_value s known (t.returned s known o) taker x.at ≡ []) w.is (right_nil (t.in_call s known x es) given g)),
        w.fitting k,
      )

  new_right : (taker : Kind) (i : n.Kind) (x y : Name) (es : List Expression) (at k : ℕ) → Holds s taker i → u.in_right s known (rights.New x y es at) ≡ [] → a.in_right s (rights.New x y es at) ≡ [] → t.in_right s known taker (rights.New x y es at) ≡ []
      → AllByRecursion Met (n.given i (right_kind (rights.New x y es at) k) ∷ right_claims (rights.New x y es at) k)
  new_right taker i x y es at k h e c g =
      let unknown_class = u.in_class_name s x in
      let w = found (named class_name s.program.classes x) x (left_nil unknown_class (u.in_principal s y) (left_nil (unknown_class ++ u.in_principal s y) (flat_map (u.in_expression s known) es) e)) in
      let arguments = t.in_arguments s known (t.field_kinds s (known_class s x)) es in
      let given = given_to taker (record { kind = kind_of_class s (known_class s x); at = at }) in
      let many : length w.0.fields ≡ length es = as_many (length w.0.fields) (length es) x (subst (λ o. a.for_class o (length es) x ≡ []) w.1 c) in (
        fits s taker (kind_of_class s (Some w.0)) i (n.object (class_number s x)) h (ap n.object (own_number s x w.0 w.1))
            (allowed (takes taker (kind_of_class s (Some w.0))) at (subst (λ o. given_to taker (record { kind = kind_of_class s o; at = at }) ≡ []) w.1 (right_nil arguments given g))),
        (
          refl,
          all_fit (t.field_kinds s (Some w.0)) (n.class_kinds (classes_in s) (class_number s x)) es (suc k)
              (subst (λ js. AllHold s (t.field_kinds s (Some w.0)) js) (sym (class_at s x w.0 w.1)) (fields_hold s w.0.fields (of_named class_name (IsDeclared s) s.program.classes x w.0 classes w.1)))
              (right_nil (unknown_class ++ u.in_principal s y) (flat_map (u.in_expression s known) es) e)
              (subst (λ o. t.in_arguments s known (t.field_kinds s o) es ≡ []) w.1 (left_nil arguments given g))
              (length-map w.0.fields (λ (f : Field). kind_of_sort s f.sort) ∙ many),
        ),
      )

  -- the kind of what is assigned fits, and what is claimed on the way is met
  pub right_fits : (r : Right) (taker : Kind) (i : n.Kind) (k : ℕ) → Holds s taker i → u.in_right s known r ≡ [] → a.in_right s r ≡ [] → t.in_right s known taker r ≡ []
      → AllByRecursion Met (n.given i (right_kind r k) ∷ right_claims r k)
  right_fits (rights.Plain e) taker i k h a b c = (given_fits taker i e k h a (left_nil (t.in_expression s known e) (given_to taker (t.typed s known e)) c) (right_nil (t.in_expression s known e) (given_to taker (t.typed s known e)) c), tt)
  right_fits (rights.Call x es) taker i k h a b c = call_right taker i x es k h a b c
  right_fits (rights.New x y es at) taker i k h a b c = new_right taker i x y es at k h a b c
  right_fits (rights.Downgrade d e x y at) taker i k h a b c =
      let given = given_to taker (record { kind = (t.typed s known e).kind; at = at }) in (
        given_fits taker i e (suc k) h (left_nil (u.in_expression s known e) (u.in_label s x) (left_nil (u.in_expression s known e ++ u.in_label s x) (u.in_label s y) a))
            (left_nil (t.in_expression s known e) given c)
            (if_so_at (takes taker (t.typed s known e).kind) at (t.typed s known e).at (right_nil (t.in_expression s known e) given c)),
        tt,
      )
