-- The objects of roots, and what requests give.
use Rattle.std.proofs.Common.{◌≡◌, ℕ, zero, suc, ◌+◌, Bool, true, false, ◌==◌, cond, List, [], ◌∷◌, ◌++◌, map, length, Option, Some, None, refl, sym, ap, ◌∙◌, subst, arith}
use Rattle.std.specs.Prelude.{slice_get}
use Rattle.std.specs.List.{AllByRecursion, flat_map}
use Rattle.std.proofs.lemmas.Bool.{false≢true, eq-eqb}
use Rattle.std.proofs.lemmas.List.{length-map}
use Rattle.std.proofs.lemmas.Slice.Eq.{bytes_eq-Decides}
use Rattle.fab_base.specs.declared.object.Oid.{Oid}
use Rattle.fab_base.specs.declared.object.Object.{Object}
use Rattle.fab_base.specs.declared.object.Value.TheVariants.{Int, Null, Ref}
use Rattle.fab_base.specs.FlatMap.{FlatMap}
use Rattle.fab_base.proofs.Lists.{left_nil, right_nil, all_always, all_flat, all_along}
use Rattle.fab_base.specs.declared.object.Width.TheVariants as widths
use Rattle.fab_tree.specs.declared.name.Name.{Name}
use Rattle.fab_tree.specs.declared.declaration.Class.{Class}
use Rattle.fab_tree.specs.declared.declaration.Field.{Field}
use Rattle.fab_tree.specs.declared.program.Parameter.{Parameter}
use Rattle.fab_tree.specs.declared.start.Literal.{Literal}
use Rattle.fab_tree.specs.declared.start.Literal.TheVariants as literals
use Rattle.fab_tree.specs.declared.start.Given.{Given}
use Rattle.fab_tree.specs.declared.start.Root.{Root}
use Rattle.fab_tree.specs.declared.start.RequestText.{RequestText}
use Rattle.fab_tree.specs.declared.start.Session.{Session}
use Rattle.fab_tree.specs.declared.start.Start.{Start}
use Rattle.fab_tree.specs.declared.resolved.Asked.{Asked}
use Rattle.fab_tree.specs.declared.resolved.Request.{Request}
use Rattle.fab_tree.specs.declared.resolved.Root.{Root as NumberedRoot}
use Rattle.fab_tree.specs.declared.expression.Number.TheVariants as numbers
use Rattle.fab_language.specs.Arity as a
use Rattle.fab_language.specs.Evaluation.{rows_of, map_at_start, asked_at, nodes_of, requests_of}
use Rattle.fab_language.specs.Faults.{faults}
use Rattle.fab_language.specs.Kinds.{Kind, number, object, nothing, unknown, takes, kind_of_sort, kind_of_class, kind_of_root, kind_of_literal, class_of as known_class, method_of as known_method}
use Rattle.fab_language.specs.Names.{named, number_of, class_name, method_name, root_name}
use Rattle.fab_language.specs.Types as t
use Rattle.fab_language.specs.Types.{given_to, each_given, given_value}
use Rattle.fab_language.specs.Unknown as u
use Rattle.fab_language.specs.Unknown.{in_literal, in_given, in_class_name, in_method_name, in_principal}
use Rattle.fab_language.specs.Uses.{class_number, method_number}
use Rattle.fab_language.specs.Numbers.{oid_of, reference_to, value_of, values_of, root_of, roots_from, request_of, asked_from, session_of, resolved}
use Rattle.fab_laws.specs.Closed.{HasOne, IsThere, AreThere, IsClosed}
use Rattle.fab_laws.specs.Kinds as n
use Rattle.fab_laws.specs.Shapes.{suits, AllSuit, IsShaped, AreShaped, IsFitting}
use Rattle.fab_shapes.proofs.Agreement.{Holds, AllHold, number_at, made_at, own_number, class_at, fields_hold}
use Rattle.fab_shapes.proofs.Faultless.{IsRightRoot, IsRightRequest, IsFaultless, faultless}
use Rattle.fab_shapes.proofs.Lists.{of_all}
use Rattle.fab_shapes.proofs.Locals.{classes_in, allowed, IsDeclared}
use Rattle.fab_shapes.proofs.Maps.{each_of_map, has_row}
use Rattle.fab_shapes.proofs.Methods.{HasHeading, as_many, methods_in, parameters_at}
use Rattle.fab_shapes.proofs.Named.{found, of_named, at_number}
use Rattle.fab_shapes.proofs.Programs.{headings_of}

-- ---- all requests

module _ (s : Start) (P : Request → Type 0) where
  all_asked : (xs : List RequestText) → AllByRecursion (λ x. (worker k : ℕ) → P (request_of s worker k x)) xs → (worker k : ℕ) → AllByRecursion P (map (λ (w : Asked). w.request) (asked_from s worker k xs))
  all_asked [] h worker k = tt
  all_asked (x ∷ xs) h worker k = (h.0 worker k, all_asked xs h.1 worker (suc k))

  of_node : (b : Bool) (xs : List Request) → AllByRecursion P xs → AllByRecursion P (cond b xs [])
  of_node true xs h = h
  of_node false xs h = tt

  all_at : (node : ℕ) (xs : List Session) → AllByRecursion (λ x. AllByRecursion (λ y. (worker k : ℕ) → P (request_of s worker k y)) x.requests) xs → AllByRecursion P (flat_map (asked_at node) (map (session_of s) xs))
  all_at node xs h = all_flat P (asked_at node) (map (session_of s) xs) (each_asked xs h)
    where
      each_asked : (ys : List Session) → AllByRecursion (λ x. AllByRecursion (λ y. (worker k : ℕ) → P (request_of s worker k y)) x.requests) ys → AllByRecursion (λ x. AllByRecursion P (asked_at node x)) (map (session_of s) ys)
      each_asked [] h = tt
      each_asked (y ∷ ys) h =
          let z = session_of s y in
          (of_node (z.worker.number == node) (map (λ (w : Asked). w.request) z.requests) (all_asked y.requests h.0 z.worker.number 1), each_asked ys h.1)

  pub all_requests : AllByRecursion (λ (x : Session). AllByRecursion (λ y. (worker k : ℕ) → P (request_of s worker k y)) x.requests) s.sessions → AllByRecursion P (requests_of (resolved s))
  all_requests h = of_all P (λ node. flat_map (asked_at node) (map (session_of s) s.sessions)) (nodes_of (resolved s)) (λ node. all_at node s.sessions h)

-- ---- references lead to the objects of roots, whatever the bundle is

module _ (s : Start) where
  abbrev objects : FlatMap
  objects = map_at_start (resolved s)

  abbrev row_of : NumberedRoot → Oid × Object
  row_of x = (x.oid, record { class = x.oid.class; fields = x.values })

  root_at : (roots : List Root) (k i : ℕ) (x : Root) → slice_get roots i ≡ Some x → slice_get (roots_from s k roots) i ≡ Some (root_of s (k + i) x)
  root_at [] k i x e = absurd (cc)
  root_at (y ∷ ys) k zero x e =
      let same : y ≡ x = cc in
      let number : k ≡ k + 0 = omega arith in
      ap (λ w. Some (root_of s k w)) same ∙ ap (λ j. Some (root_of s j x)) number
  root_at (y ∷ ys) k (suc i) x e =
      let number : suc k + i ≡ k + suc i = omega arith in
      root_at ys (suc k) i x e ∙ ap (λ j. Some (root_of s j x)) number

  root_there : (i : ℕ) (x : Root) → slice_get s.roots i ≡ Some x → HasOne objects (oid_of s i x)
  root_there i x e =
      let number : 0 + i ≡ i = omega arith in
      let at = root_at s.roots 0 i x e ∙ ap (λ j. Some (root_of s j x)) number in
      has_row (rows_of (roots_from s 0 s.roots)) [] i (row_of (root_of s i x)) (made_at row_of (roots_from s 0 s.roots) i (root_of s i x) at)

  literal_there : (l : Literal) → IsThere objects (value_of s l)
  literal_there (literals.Number (numbers.Int i)) = tt
  literal_there literals.Null = tt
  literal_there (literals.Root x) = by (named root_name s.roots x) refl
    where
      by : (o : Option Root) → named root_name s.roots x ≡ o → IsThere objects (reference_to s (number_of root_name s.roots x) o)
      by None e = tt
      by (Some y) e = root_there (number_of root_name s.roots x) y (at_number root_name s.roots x y e)

  values_there : (gs : List Given) → AreThere objects (values_of s gs)
  values_there [] = tt
  values_there (g ∷ gs) = (literal_there g.literal, values_there gs)

  roots_there : (roots : List Root) (k : ℕ) → AllByRecursion (λ row. AreThere objects row.1.fields) (rows_of (roots_from s k roots))
  roots_there [] k = tt
  roots_there (x ∷ xs) k = (values_there x.values, roots_there xs (suc k))

  pub closed : IsClosed objects
  closed = each_of_map (λ o x. AreThere objects x.fields) (rows_of (roots_from s 0 s.roots)) (roots_there s.roots 0)

  pub given_there : AllByRecursion (λ r. AreThere objects r.args) (requests_of (resolved s))
  given_there =
      all_requests s (λ r. AreThere objects r.args)
      (all_always (λ (x : Session). AllByRecursion (λ y. (worker k : ℕ) → AreThere objects (request_of s worker k y).args) x.requests)
      (λ x. all_always (λ y. (worker k : ℕ) → AreThere objects (request_of s worker k y).args) (λ y worker k. values_there y.arguments) x.requests) s.sessions)

-- ---- values suit their places

module _ (s : Start) (right : IsFaultless s) where
  -- the object of a root suits what holds its class
  root_suits : (taker : Kind) (i : n.Kind) (k : ℕ) (r : Root) → Holds s taker i → (o : Option Class) → named class_name s.program.classes r.class ≡ o → takes taker (kind_of_class s o) ≡ true → u.if_found o r.class ≡ [] → suits i (Ref (oid_of s k r)) ≡ true
  root_suits taker i k r h None is e f = absurd (omega (arith, ap length f))
  root_suits (number w) i k r h (Some c) is e f = absurd (false≢true e)
  root_suits (object z) i k r h (Some c) is e f =
      let same : z ≡ c.name.text = (bytes_eq-Decides z c.name.text).0 e in
      ap (λ j. suits j (Ref (oid_of s k r))) h
      ∙ eq-eqb (class_number s r.class) (number_at s z) (own_number s r.class c is ∙ ap (number_at s) (sym same))
  root_suits nothing i k r h (Some c) is e f = absurd h
  root_suits unknown i k r h (Some c) is e f = absurd h

  named_suits : (taker : Kind) (i : n.Kind) (x : Name) (o : Option Root) → named root_name s.roots x ≡ o → Holds s taker i → takes taker (kind_of_root s o) ≡ true → u.if_found o x ≡ [] → suits i (reference_to s (number_of root_name s.roots x) o) ≡ true
  named_suits taker i x None is h e f = absurd (omega (arith, ap length f))
  named_suits taker i x (Some r) is h e f =
      let fine : IsRightRoot s r = of_named root_name (IsRightRoot s) s.roots x r right.roots is in
      root_suits taker i (number_of root_name s.roots x) r h (known_class s r.class) refl e
      (left_nil (in_class_name s r.class) (in_principal s r.store) (left_nil (in_class_name s r.class ++ in_principal s r.store) (flat_map (in_given s) r.values) fine.declared))

  literal_suits : (l : Literal) (taker : Kind) (i : n.Kind) → Holds s taker i → in_literal s l ≡ [] → takes taker (kind_of_literal s l) ≡ true → suits i (value_of s l) ≡ true
  literal_suits (literals.Number (numbers.Int v)) (number widths.Int) i h f e = ap (λ j. suits j (Int v)) h
  literal_suits (literals.Number v) (object z) i h f e = absurd (false≢true e)
  literal_suits (literals.Number v) nothing i h f e = absurd h
  literal_suits (literals.Number v) unknown i h f e = absurd h
  literal_suits literals.Null (number w) i h f e = absurd (false≢true e)
  literal_suits literals.Null (object z) i h f e = ap (λ j. suits j Null) h
  literal_suits literals.Null nothing i h f e = absurd h
  literal_suits literals.Null unknown i h f e = absurd h
  literal_suits (literals.Root x) taker i h f e = named_suits taker i x (named root_name s.roots x) refl h e f

  values_suit : (ks : List Kind) (js : List n.Kind) (gs : List Given) → AllHold s ks js → flat_map (in_given s) gs ≡ [] → each_given ks (map (given_value s) gs) ≡ [] → length ks ≡ length gs → AllSuit js (values_of s gs)
  values_suit [] [] [] h f e l = tt
  values_suit [] [] (g ∷ gs) h f e l = absurd (omega (arith, l))
  values_suit [] (j ∷ js) gs h f e l = absurd h
  values_suit (k ∷ ks) [] gs h f e l = absurd h
  values_suit (k ∷ ks) (j ∷ js) [] h f e l = absurd (omega (arith, l))
  values_suit (k ∷ ks) (j ∷ js) (g ∷ gs) h f e l =
      let v = given_value s g in
      let rest = each_given ks (map (given_value s) gs) in (
        literal_suits g.literal k j h.0 (left_nil (in_given s g) (flat_map (in_given s) gs) f) (allowed (takes k v.kind) v.at (left_nil (given_to k v) rest e)),
        values_suit ks js gs h.1 (right_nil (in_given s g) (flat_map (in_given s) gs) f) (right_nil (given_to k v) rest e) (omega (arith, l)),
      )

  -- ---- the objects of roots

  object_shaped : (k : ℕ) (x : Root) → IsRightRoot s x → IsShaped (classes_in s) (oid_of s k x) (record { class = class_number s x.class; fields = values_of s x.values })
  object_shaped k x r =
      let names = in_class_name s x.class ++ in_principal s x.store in
      let given = flat_map (in_given s) x.values in
      let w = found (known_class s x.class) x.class (left_nil (in_class_name s x.class) (in_principal s x.store) (left_nil names given r.declared)) in
      let many : length w.0.fields ≡ length x.values = as_many (length w.0.fields) (length x.values) x.name (subst (λ o. a.for_class o (length x.values) x.name ≡ []) w.1 r.counted) in
      record {
        class = refl;
        fields = values_suit (t.field_kinds s (Some w.0)) (n.class_kinds (classes_in s) (class_number s x.class)) x.values
            (subst (λ js. AllHold s (t.field_kinds s (Some w.0)) js) (sym (class_at s x.class w.0 w.1)) (fields_hold s w.0.fields (of_named class_name (IsDeclared s) s.program.classes x.class w.0 right.classes w.1)))
            (right_nil names given r.declared)
            (subst (λ o. each_given (t.field_kinds s o) (map (given_value s) x.values) ≡ []) w.1 r.typed)
            (length-map w.0.fields (λ (f : Field). kind_of_sort s f.sort) ∙ many);
      }

  rows_shaped : (roots : List Root) (k : ℕ) → AllByRecursion (IsRightRoot s) roots → AllByRecursion (λ row. IsShaped (classes_in s) row.0 row.1) (rows_of (roots_from s k roots))
  rows_shaped [] k h = tt
  rows_shaped (x ∷ xs) k h = (object_shaped k x h.0, rows_shaped xs (suc k) h.1)

  shaped : AreShaped (classes_in s) (map_at_start (resolved s))
  shaped = each_of_map (IsShaped (classes_in s)) (rows_of (roots_from s 0 s.roots)) (rows_shaped s.roots 0 right.roots)

  -- ---- what requests give

  request_fits : (x : RequestText) (worker k : ℕ) → IsRightRequest s x → IsFitting (resolved s) (request_of s worker k x)
  request_fits x worker k r =
      let name = in_method_name s x.method in
      let given = flat_map (in_given s) x.arguments in
      let w = found (known_method s x.method) x.method (left_nil name given r.declared) in
      let heading : HasHeading s w.0 = of_named method_name (HasHeading s) s.program.methods x.method w.0 (headings_of s right) w.1 in
      let many : length w.0.parameters ≡ length x.arguments = as_many (length w.0.parameters) (length x.arguments) x.method (subst (λ o. a.for_method o (length x.arguments) x.method ≡ []) w.1 r.counted) in
      values_suit (t.parameter_kinds s (Some w.0)) (n.parameter_kinds (slice_get (methods_in s) (method_number s x.method))) x.arguments
      (parameters_at s x.method w.0 w.1 heading)
      (right_nil name given r.declared)
      (subst (λ o. each_given (t.parameter_kinds s o) (map (given_value s) x.arguments) ≡ []) w.1 r.typed)
      (length-map w.0.parameters (λ (p : Parameter). kind_of_sort s p.sort) ∙ many)

  requests_fitting : AllByRecursion (IsFitting (resolved s)) (requests_of (resolved s))
  requests_fitting =
      all_requests s (IsFitting (resolved s))
      (all_along (λ (x : Session). AllByRecursion (IsRightRequest s) x.requests) (λ (x : Session). AllByRecursion (λ y. (worker k : ℕ) → IsFitting (resolved s) (request_of s worker k y)) x.requests)
      (λ x h. all_along (IsRightRequest s) (λ y. (worker k : ℕ) → IsFitting (resolved s) (request_of s worker k y)) (λ y r worker k. request_fits y worker k r) x.requests h)
      s.sessions right.sessions)

pub objects_have_shapes : (s : Start) → faults s ≡ [] → AreShaped (resolved s).classes (map_at_start (resolved s))
objects_have_shapes s e = shaped s (faultless s e)

pub requests_have_kinds : (s : Start) → faults s ≡ [] → AllByRecursion (IsFitting (resolved s)) (requests_of (resolved s))
requests_have_kinds s e = requests_fitting s (faultless s e)
