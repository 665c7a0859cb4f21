-- Requests one after the other: what each keeps of the map, all of them keep.
use Rattle.std.proofs.Common.{List, [], ◌∷◌}
use Rattle.std.specs.List.{AllByRecursion}
use Rattle.fab_base.specs.FlatMap.{FlatMap}
use Rattle.fab_tree.specs.declared.resolved.Request.{Request}
use Rattle.fab_tree.specs.declared.resolved.Resolved.{Resolved}
use Rattle.fab_language.specs.declared.ending.Ending.{Ending}
use Rattle.fab_language.specs.declared.ending.Ending.TheVariants.{Ended, Failed, Stopped, Missing}
use Rattle.fab_language.specs.Evaluation.{meant, if_ended, map_behind, in_turn}

-- what holds of the map before a request and of the one behind it holds of the one that is left
behind_ending : (K : FlatMap → Type 0) (e : Ending) (after before : FlatMap) → K after → K before → K (if_ended e after before)
behind_ending K (Ended result) after before h k = h
behind_ending K Failed after before h k = k
behind_ending K (Stopped stop) after before h k = k
behind_ending K (Missing site o) after before h k = k

-- over what is kept, what is known of each request, and how each ends
module _ (program : Resolved) (K : FlatMap → Type 0) (Given : Request → Type 0) (Ends : Ending → Type 0)
    (keeps : (known : FlatMap) (request : Request) → K known → Given request → Ends (meant program known request).ending × K (meant program known request).map) where
  pub course_keeps : (known : FlatMap) (requests : List Request) → K known → AllByRecursion Given requests
      → AllByRecursion Ends (in_turn program known requests).endings × K (in_turn program known requests).map
  course_keeps known [] h a = (tt, h)
  course_keeps known (request ∷ requests) h a =
      let k = keeps known request h a.0 in
      let t = course_keeps (map_behind program known request) requests (behind_ending K (meant program known request).ending (meant program known request).map known k.1 h) a.1 in
      ((k.0, t.0), t.1)
