-- What methods claim is met.
use Rattle.std.proofs.Common.{◌≡◌, ℕ, true, List, [], ◌∷◌, option_map, Option, Some, None, refl}
use Rattle.std.specs.List.{AllByRecursion, flat_map}
use Rattle.std.proofs.lemmas.Bool.{false≢true}
use Rattle.fab_base.proofs.Lists.{all_append, left_nil, right_nil, all_split, all_along, all_two}
use Rattle.fab_tree.specs.declared.program.Parameter.{Parameter}
use Rattle.fab_tree.specs.declared.program.Returns.{Returns}
use Rattle.fab_tree.specs.declared.program.Return.{Return}
use Rattle.fab_tree.specs.declared.program.Method.{Method}
use Rattle.fab_tree.specs.declared.start.Start.{Start}
use Rattle.fab_tree.specs.Limits.{declared_in, locals_of}
use Rattle.fab_language.specs.Faults.{faults}
use Rattle.fab_language.specs.Heads.{Locals, result, result_heads, heads_in}
use Rattle.fab_language.specs.Kinds.{kind_of_sort}
use Rattle.fab_language.specs.Types as t
use Rattle.fab_language.specs.Types.{given_to, says_so}
use Rattle.fab_language.specs.Unknown.{in_sort, in_label, in_returns}
use Rattle.fab_language.specs.Uses.{sort_of}
use Rattle.fab_language.specs.MethodNumbers.{block_of, result_of, returns_of, method_of, methods_of}
use Rattle.fab_language.specs.Numbers.{resolved}
use Rattle.fab_laws.specs.Kinds as n
use Rattle.fab_laws.specs.Shapes.{is_met, is_fitting}
use Rattle.fab_shapes.proofs.Agreement.{sort_holds}
use Rattle.fab_shapes.proofs.Faultless.{IsRightMethod, IsFaultless, faultless}
use Rattle.fab_shapes.proofs.Lists.{all_pass}
use Rattle.fab_shapes.proofs.Locals.{classes_in, IsDeclared, IsKnown, local_kinds}
use Rattle.fab_shapes.proofs.Methods.{Met, HasHeading, methods_in, given_fits}
use Rattle.fab_shapes.proofs.Statements.{IsRight, IsFirst, block_fits}

module _ (s : Start) (classes : AllByRecursion (IsDeclared s) s.program.classes) (headings : AllByRecursion (HasHeading s) s.program.methods) where
  abbrev returned : (locals : List Parameter) → Option Return → ℕ → n.Kind
  returned locals r k = n.returned_kind (classes_in s) (methods_in s) (local_kinds s locals) (result_of s locals r k).0

  -- what a method returns is of the kind that it says
  result_fits : (locals : List Parameter) (known : Locals) (returns : Option Returns) (r : Option Return) (k : ℕ) → AllByRecursion (IsKnown s locals) known → in_returns s returns ≡ [] → says_so s returns r ≡ true → AllByRecursion (IsRight s returns) (result_heads r known)
      → Met (n.given (n.returns_kind (option_map (returns_of s) returns)) (returned locals r k))
  result_fits locals known None None k h e says rs = refl
  result_fits locals known None (Some y) k h e says rs = absurd (false≢true says)
  result_fits locals known (Some x) None k h e says rs = absurd (false≢true says)
  result_fits locals known (Some x) (Some y) k h e says rs =
      let head : IsRight s (Some x) (known, result y) = rs.0 in
      given_fits s classes headings locals known h (kind_of_sort s x.sort) (n.kind_of_sort (sort_of s x.sort)) y.value k
      (sort_holds s x.sort (left_nil (in_sort s x.sort) (in_label s x.label) e))
      head.declared
      (left_nil (t.in_expression s known y.value) (given_to (kind_of_sort s x.sort) (t.typed s known y.value)) head.typed)
      (right_nil (t.in_expression s known y.value) (given_to (kind_of_sort s x.sort) (t.typed s known y.value)) head.typed)

  method_fits : (m : Method) (k : ℕ) → IsRightMethod s m → AllByRecursion Met (n.method_claims (classes_in s) (methods_in s) (method_of s m k).0)
  method_fits m k right =
      let locals = locals_of m in
      let ps = all_split (IsFirst locals) m.parameters (flat_map declared_in m.body) right.once in
      let known : AllByRecursion (IsKnown s locals) m.parameters = all_two (IsFirst locals) (λ (p : Parameter). in_sort s p.sort ≡ []) (IsKnown s locals) (λ p i d. record { itself = i; declared = d }) m.parameters ps.0 right.heading.parameters in
      let body = heads_in m.body m.parameters in
      let hs = all_split (IsRight s m.returns) body.heads (result_heads m.result body.behind) right.heads in
      let b = block_fits s classes headings locals m.returns m.body m.parameters k known ps.1 hs.0 in
      (result_fits locals body.behind m.returns m.result (block_of s locals m.body k).1 b.0 right.heading.returns right.says hs.1, b.1)

  methods_fit : (ms : List Method) (k : ℕ) → AllByRecursion (IsRightMethod s) ms → AllByRecursion Met (flat_map (n.method_claims (classes_in s) (methods_in s)) (methods_of s ms k).0)
  methods_fit [] k h = tt
  methods_fit (m ∷ ms) k h =
      all_append Met (n.method_claims (classes_in s) (methods_in s) (method_of s m k).0) (flat_map (n.method_claims (classes_in s) (methods_in s)) (methods_of s ms (method_of s m k).1).0)
      (method_fits m k h.0) (methods_fit ms (method_of s m k).1 h.1)

-- the methods of a bundle that breaks no rule have headings whose types are declared
pub headings_of : (s : Start) → IsFaultless s → AllByRecursion (HasHeading s) s.program.methods
headings_of s right = all_along (IsRightMethod s) (HasHeading s) (λ m h. h.heading) s.program.methods right.methods

pub program_fits : (s : Start) → faults s ≡ [] → is_fitting (resolved s) ≡ true
program_fits s e =
    let right = faultless s e in
    all_pass is_met (n.claims_of (resolved s)) (methods_fit s right.classes (headings_of s right) s.program.methods 0 right.methods)
