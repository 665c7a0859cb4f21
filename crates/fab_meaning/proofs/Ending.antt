-- From a run to what was meant.
use Rattle.std.proofs.Common.{◌≡◌, ℕ, true, List, [], ◌∷◌, Some, Ok, Err, ap, ◌∙◌, subst}
use Rattle.std.specs.Prelude.{slice_get}
use Rattle.fab_base.specs.declared.object.Tid.{Tid}
use Rattle.fab_base.specs.declared.object.Value.{Value}
use Rattle.fab_base.specs.FlatMap.{FlatMap, ascends}
use Rattle.fab_tree.specs.declared.resolved.Method.{Method}
use Rattle.fab_tree.specs.declared.resolved.Resolved.{Resolved}
use Rattle.fab_tree.specs.declared.resolved.Request.{Request}
use Rattle.fab_language.specs.Meaning.{State, Meant, meant_at, meant_by}
use Rattle.fab_erasure.specs.Erased.{erased, locals_at_start}
use Rattle.fab_left.specs.ErasedActs.{meanings}
use Rattle.fab_left.specs.Left as left
use Rattle.fab_left.specs.Left.{AllStem, Means, Place, at_start, rest}
use Rattle.fab_left.proofs.Beginning.{all_known, erased_begins}
use Rattle.fab_stack.specs.declared.halt.End.TheVariants.{Failed, Stopped, Missing}
use Rattle.fab_stack.specs.declared.stepping.Way.{Way}
use Rattle.fab_stack.specs.declared.stepping.Way.TheVariants.{Over, Lacks}
use Rattle.fab_stack.specs.Points.{Point, point_over, with_locals}
use Rattle.fab_stack.specs.Stepping.{Runs}
use Rattle.fab_meaning.specs.declared.setting.Sight.{Sight}
use Rattle.fab_meaning.specs.Ends.{ended_by, ending_of}
use Rattle.fab_meaning.specs.Sights.{sees, shows}

-- what stands at the end of a run is what it means
ends_so : (m : Means) (first : Place) (tid : Tid) (known : FlatMap) (js : List left.Entry) (s : State) (ks : List left.Entry) (t : State) (way : Way)
    → Runs m first tid known way js s ks t → meant_by (left.left m first js s []) ≡ meant_at (ending_of (ended_by way)) t
ends_so m first tid known js s ks t (Over (Ok v)) r = ap meant_by r
ends_so m first tid known js s ks t (Over (Err Failed)) r = ap meant_by r
ends_so m first tid known js s ks t (Over (Err (Stopped stop))) r = ap meant_by r
ends_so m first tid known js s ks t (Over (Err (Missing site o))) r = absurd r
ends_so m first tid known js s ks t (Lacks site o fuel pairs objects) r = ap meant_by r.0

module _ (sight : Sight) (program : Resolved) (known : FlatMap) (request : Request) (tid : Tid) (fuel : ℕ) (given : List Value) where
  abbrev meant : Meant
  meant = erased (sees sight) (shows sight) program known request tid fuel given

  -- where there is a method, and it is seen
  module _ (first : Method) (is : slice_get program.methods request.method ≡ Some first) (seen : sees sight first.begin.number ≡ true) (up : ascends known ≡ true)
      (way : Way) (ks : List left.Entry) (q : State) where
    abbrev start : Point
    start = with_locals (locals_at_start (sees sight) (shows sight) first request.args) (point_over tid fuel known given)

    abbrev Made : List left.Entry → Point → Type 0
    Made js p = (k : FlatMap) → AllStem p.base.tid k js p.state → Runs (meanings (sees sight) (shows sight) program p.base.tid) (at_start first) p.base.tid k way js p.state ks q

    made : Made (rest (at_start first) first.body ∷ []) start → meant ≡ meant_at (ending_of (ended_by way)) q
    made h =
        let js = rest (at_start first) first.body ∷ [] in
        let locals = locals_at_start (sees sight) (shows sight) first request.args in
        ap meant_by (erased_begins program tid request fuel known first is (sees sight) (shows sight) given seen [] tt)
        ∙ ends_so (meanings (sees sight) (shows sight) program tid) (at_start first) tid known js start.state ks q way (h known (all_known tid known first fuel locals given up))

    pub run_meant : (js : List left.Entry) (p : Point) (locals : List Value) → js ≡ rest (at_start first) first.body ∷ [] → locals ≡ locals_at_start (sees sight) (shows sight) first request.args
        → p ≡ with_locals locals (point_over tid fuel known given) → Made js p → meant ≡ meant_at (ending_of (ended_by way)) q
    run_meant js p locals entries from at h =
        let at_begin : p ≡ start = at ∙ ap (λ (l : List Value). with_locals l (point_over tid fuel known given)) from in
        made (subst (Made (rest (at_start first) first.body ∷ [])) at_begin (subst (λ (l : List left.Entry). Made l p) entries h))
