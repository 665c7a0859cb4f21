-- What the requests of a well labelled bundle leave, one after the other.
use Rattle.std.proofs.Common.{◌≡◌, List, [], ◌∷◌, Some, Option, None}
use Rattle.std.specs.List.{AllByRecursion}
use Rattle.fab_base.specs.declared.object.Oid.{Oid}
use Rattle.fab_base.specs.declared.object.Object.{Object}
use Rattle.fab_base.specs.declared.object.Value.{Value}
use Rattle.fab_base.specs.FlatMap.{FlatMap, get}
use Rattle.fab_tree.specs.declared.resolved.Root.{Root}
use Rattle.fab_tree.specs.declared.resolved.Resolved.{Resolved}
use Rattle.fab_tree.specs.declared.start.Start.{Start}
use Rattle.fab_language.specs.Evaluation.{rows_of, map_at_start, requests_of, course_of}
use Rattle.fab_language.specs.Numbers.{resolved}
use Rattle.fab_labelling.specs.Claims.{IsWellLabelled}
use Rattle.fab_laws.specs.Closed.{IsThere, AreThere, HasOne}
use Rattle.fab_shapes.proofs.Maps.{each_of_map}
use Rattle.fab_shapes.proofs.Objects.{closed, given_there}
use Rattle.fab_held.specs.Held.{IsHeld, RefersToHeld, AllHeld, HasOnlyHeld}
use Rattle.fab_held.proofs.Made.{roots_held}
use Rattle.fab_held.proofs.Requests.{course_held}
use Rattle.fab_base.specs.Values.{referred}
use Rattle.fab_base.proofs.Lists.{all_along}
use Rattle.std.specs.Prelude.{IfSome}

module _ (r : Resolved) where
  rows_held : (xs : List Root) → AllByRecursion (λ x. IsHeld r x.oid) xs → AllByRecursion (λ row. IsHeld r row.0) (rows_of xs)
  rows_held [] h = tt
  rows_held (x ∷ xs) h = (h.0, rows_held xs h.1)

  -- what leads to an object of a map
  there_held : (m : FlatMap) → ((o : Oid) (x : Object) → get m o ≡ Some x → IsHeld r o) → (v : Value) → IsThere m v → RefersToHeld r v
  there_held m names v = by (referred v)
    where
      by : (o : Option Oid) → IfSome o (HasOne m) → IfSome o (IsHeld r)
      by None h = tt
      by (Some o) h = names o h.0 h.1

  all_there : (m : FlatMap) → ((o : Oid) (x : Object) → get m o ≡ Some x → IsHeld r o) → (vs : List Value) → AreThere m vs → AllHeld r vs
  all_there m names vs h = all_along (IsThere m) (RefersToHeld r) (there_held m names) vs h

module _ (s : Start) (well : IsWellLabelled (resolved s)) where
  roots_named : (o : Oid) (x : Object) → get (map_at_start (resolved s)) o ≡ Some x → IsHeld (resolved s) o
  roots_named = each_of_map (λ o x. IsHeld (resolved s) o) (rows_of (resolved s).roots) (rows_held (resolved s) (resolved s).roots (roots_held (resolved s) well))

  pub held_at_end : HasOnlyHeld (resolved s) (course_of (resolved s)).map
  held_at_end =
      let r = resolved s in
      let start = map_at_start r in
      course_held r well start (requests_of r)
      (all_along (λ q. AreThere start q.args) (λ q. AllHeld r q.args) (λ q h. all_there r start roots_named q.args h) (requests_of r) (given_there s))
      (record { names = roots_named; references = λ o x e. all_there r start roots_named x.fields (closed s o x e) })
