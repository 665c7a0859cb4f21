-- The locals that are known at a place, among all those of a method.
use Rattle.std.proofs.Common.{◌≡◌, ℕ, Bool, true, false, List, [], map, length, Option, Some, None, refl, sym, ap, ◌∙◌, subst, arith}
use Rattle.std.specs.List.{AllByRecursion}
use Rattle.std.proofs.lemmas.Bool.{false≢true}
use Rattle.fab_base.proofs.Lists.{left_nil, right_nil}
use Rattle.fab_base.specs.declared.object.Width.TheVariants as widths
use Rattle.fab_tree.specs.declared.name.Name.{Name}
use Rattle.fab_tree.specs.declared.declaration.Sort.{Sort}
use Rattle.fab_tree.specs.declared.declaration.Sort.TheVariants as sorts
use Rattle.fab_tree.specs.declared.declaration.Class.{Class}
use Rattle.fab_tree.specs.declared.program.Parameter.{Parameter}
use Rattle.fab_tree.specs.declared.start.Start.{Start}
use Rattle.fab_tree.specs.declared.resolved.Class.{Class as NumberedClass}
use Rattle.fab_tree.specs.declared.resolved.Local.{Local}
use Rattle.fab_language.specs.Heads.{Locals}
use Rattle.fab_language.specs.Kinds.{kind_of_sort, kind_of_local, kind_of_field, fields_of, class_of_sort, class_of_local, local_of, field_of}
use Rattle.fab_language.specs.Names.{named, number_of, class_name, field_name, local_name}
use Rattle.fab_language.specs.Types.{if_so, is_reachable, local_kind}
use Rattle.fab_language.specs.Types as t
use Rattle.fab_language.specs.Unknown.{if_found, in_sort, in_local, in_field_of}
use Rattle.fab_language.specs.Unknown as u
use Rattle.fab_language.specs.Uses.{class_number, sort_of, local_number, fields_in, fields_of_sort, fields_of_local, field_number}
use Rattle.fab_language.specs.MethodNumbers.{numbered_local}
use Rattle.fab_language.specs.Numbers.{class_of}
use Rattle.fab_language.specs.Numbers as numbers
use Rattle.fab_laws.specs.Kinds as n
use Rattle.fab_shapes.proofs.Agreement.{Holds, sort_holds, class_at, kind_at_made, made_kinds}
use Rattle.fab_shapes.proofs.Named.{named_same, has_name, found, of_named, at_number}

-- whether a place holds what a test allows
pub allowed : (b : Bool) (at : ℕ) → if_so b at ≡ [] → b ≡ true
allowed true at e = refl
allowed false at e = absurd (omega (arith, ap length e))

-- the types of a class's fields are declared
abbrev pub IsDeclared : Start → Class → Type 0
IsDeclared s c = AllByRecursion (λ f. in_sort s f.sort ≡ []) c.fields

-- among these locals it is the one that its name stands for, and its type is declared
pub record IsKnown (s : Start) (locals : List Parameter) (p : Parameter) : Type 0 where
  pub itself : named local_name locals p.name ≡ Some p
  pub declared : in_sort s p.sort ≡ []

-- a name stands for one local among those that are known and among all
pub record StandsFor (s : Start) (locals : List Parameter) (known : Locals) (x : Name) : Type 0 where
  pub local : Parameter
  pub known_as : named local_name known x ≡ Some local
  pub first : named local_name locals x ≡ Some local
  pub declared : in_sort s local.sort ≡ []

-- the classes with numbers, and the kinds of these locals over numbers
abbrev pub classes_in : Start → List NumberedClass
classes_in s = map (class_of s) s.program.classes

abbrev pub local_kinds : Start → List Parameter → List n.Kind
local_kinds s locals = map (λ (x : Local). n.kind_of_sort x.sort) (map (numbered_local s) locals)

module _ (s : Start) (classes : AllByRecursion (IsDeclared s) s.program.classes) (locals : List Parameter) where
  pub kind_of_first : (x : Name) (p : Parameter) → named local_name locals x ≡ Some p → n.kind_at (local_kinds s locals) (local_number locals x) ≡ n.kind_of_sort (sort_of s p.sort)
  kind_of_first x p e = kind_at_made (λ (y : Local). n.kind_of_sort y.sort) (numbered_local s) locals (local_number locals x) p (at_number local_name locals x p e)

  -- a field behind what is of this type
  module _ (y : Name) where
    field_in_class : (z : Name) (o : Option Class) → named class_name s.program.classes z ≡ o → if_found o z ≡ [] → in_field_of s [] o y ≡ []
        → Holds s (kind_of_field s (named field_name (fields_of s o) y)) (n.kind_at (n.class_kinds (classes_in s) (class_number s z)) (number_of field_name (fields_in o) y))
    field_in_class z None is e f = absurd (omega (arith, ap length e))
    field_in_class z (Some c) is e f =
        let w = found (named field_name c.fields y) y f in
        let declared : in_sort s w.0.sort ≡ [] = of_named field_name (λ x. in_sort s x.sort ≡ []) c.fields y w.0 (of_named class_name (IsDeclared s) s.program.classes z c classes is) w.1 in
        let kind : n.kind_at (made_kinds s c) (number_of field_name c.fields y) ≡ n.kind_of_sort (sort_of s w.0.sort) =
        kind_at_made (λ x. n.kind_of_sort x.sort) (numbers.field_of s) c.fields (number_of field_name c.fields y) w.0 (at_number field_name c.fields y w.0 w.1) in
        subst (λ k. Holds s (kind_of_field s (named field_name c.fields y)) k) (sym (ap (λ ks. n.kind_at ks (number_of field_name c.fields y)) (class_at s z c is) ∙ kind))
        (subst (λ o. Holds s (kind_of_field s o) (n.kind_of_sort (sort_of s w.0.sort))) (sym w.1) (sort_holds s w.0.sort declared))

    field_in_type : (t : Sort) → in_sort s t ≡ [] → in_field_of s [] (class_of_sort s t) y ≡ [] → is_reachable (kind_of_sort s t) ≡ true
        → Holds s (kind_of_field s (named field_name (fields_of s (class_of_sort s t)) y)) (n.field_kind (classes_in s) (n.kind_of_sort (sort_of s t)) (number_of field_name (fields_of_sort s t) y))
    field_in_type (sorts.Number widths.Int) e f r = absurd (false≢true r)
    field_in_type (sorts.Class z) e f r = field_in_class z (named class_name s.program.classes z) refl e f

  module _ (known : Locals) (knows : AllByRecursion (IsKnown s locals) known) where
    pub stands_for : (x : Name) → in_local s known x ≡ [] → StandsFor s locals known x
    stands_for x e =
        let w = found (named local_name known x) x e in
        let k : IsKnown s locals w.0 = of_named local_name (IsKnown s locals) known x w.0 knows w.1 in
        record {
          local = w.0;
          known_as = w.1;
          first = named_same local_name locals x w.0.name (sym (has_name local_name known x w.0 w.1)) ∙ k.itself;
          declared = k.declared;
        }

    pub local_holds : (x : Name) → in_local s known x ≡ [] → Holds s (local_kind s known x) (n.kind_at (local_kinds s locals) (local_number locals x))
    local_holds x e =
        let w = stands_for x e in
        subst (λ k. Holds s (local_kind s known x) k) (sym (kind_of_first x w.local w.first))
        (subst (λ o. Holds s (kind_of_local s o) (n.kind_of_sort (sort_of s w.local.sort))) (sym w.known_as) (sort_holds s w.local.sort w.declared))

    pub field_holds : (x y : Name) (at : ℕ) → u.in_reach s known x y ≡ [] → t.in_reach s known x at ≡ []
        → Holds s (kind_of_field s (field_of s known x y)) (n.field_kind (classes_in s) (n.kind_at (local_kinds s locals) (local_number locals x)) (field_number s locals x y))
    field_holds x y at e r =
        let w = stands_for x (left_nil (in_local s known x) (in_field_of s known (class_of_local s (local_of s known x)) y) e) in
        let f : in_field_of s known (class_of_local s (local_of s known x)) y ≡ [] = right_nil (in_local s known x) (in_field_of s known (class_of_local s (local_of s known x)) y) e in
        let here = field_in_type y w.local.sort w.declared
        (subst (λ o. in_field_of s known (class_of_local s o) y ≡ []) w.known_as f)
        (subst (λ o. is_reachable (kind_of_local s o) ≡ true) w.known_as (allowed (is_reachable (local_kind s known x)) at r)) in
        subst (λ k. Holds s (kind_of_field s (field_of s known x y)) (n.field_kind (classes_in s) k (field_number s locals x y))) (sym (kind_of_first x w.local w.first))
        (subst (λ o. Holds s (kind_of_field s (field_of s known x y)) (n.field_kind (classes_in s) (n.kind_of_sort (sort_of s w.local.sort)) (number_of field_name (fields_of_local s o) y))) (sym w.first)
        (subst (λ o. Holds s (kind_of_field s (named field_name (fields_of s (class_of_local s o)) y)) (n.field_kind (classes_in s) (n.kind_of_sort (sort_of s w.local.sort)) (number_of field_name (fields_of_sort s w.local.sort) y))) (sym w.known_as) here))
