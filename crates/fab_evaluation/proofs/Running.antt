-- From the run of a request to what it means.
use Rattle.std.proofs.Common.{◌≡◌, Bool, true, false, ◌||◌, if◌then◌else◌, List, [], ◌∷◌, Some, None, Ok, Err, refl, sym, ap, ◌∙◌, subst}
use Rattle.std.specs.Prelude.{filter, slice_get}
use Rattle.fab_base.specs.declared.object.Oid.{Oid}
use Rattle.fab_base.specs.declared.object.Tid.{Tid}
use Rattle.fab_base.specs.FlatMap.{FlatMap, ascends, get, is_among, put_all}
use Rattle.fab_map.proofs.Made.{distinct_from_ascends, first_of, get-put_all}
use Rattle.fab_map.proofs.Rows.{ascends-put_all, same_from_get}
use Rattle.fab_tree.specs.declared.resolved.Method.{Method}
use Rattle.fab_tree.specs.declared.resolved.Request.{Request}
use Rattle.fab_tree.specs.declared.resolved.Resolved.{Resolved}
use Rattle.fab_language.specs.declared.ending.Ending.{Ending}
use Rattle.fab_language.specs.declared.ending.Ending.TheVariants.{Ended, Failed, Stopped, Missing}
use Rattle.fab_language.specs.Meaning.{Meant, State, locals_at_start, meant_at, meant_by, state_at_start}
use Rattle.fab_language.specs.Evaluation.{if_ended, meant, tid_of}
use Rattle.fab_laws.specs.Changes.{OnlyChanges}
use Rattle.fab_laws.specs.Closed.{HasOne}
use Rattle.fab_laws.proofs.Changes.{leaves}
use Rattle.fab_left.specs.Acts.{meanings}
use Rattle.fab_left.specs.Left as left
use Rattle.fab_left.specs.Left.{AllStem, Means, Place, at_start, rest}
use Rattle.fab_left.proofs.Beginning.{all_known, plain_begins, plain_none}
use Rattle.fab_nested.proofs.Over.{ascends_only, get_only}
use Rattle.fab_stack.specs.declared.halt.End.TheVariants as end
use Rattle.fab_stack.specs.declared.stepping.Way.{Way}
use Rattle.fab_stack.specs.declared.stepping.Way.TheVariants.{Over, Lacks}
use Rattle.fab_stack.specs.Points.{Point, point_over, with_locals}
use Rattle.fab_stack.specs.Stepping.{Runs}
use Rattle.fab_evaluation.specs.declared.single.Single.{Single}
use Rattle.fab_evaluation.specs.Singles.{IsSingle, changes_at, ending_of}

-- ---- what was changed, put into the map

-- the object of a name that was changed is found among those that were put, and else the one that was there
module _ (map known : FlatMap) (o : Oid) (t : Oid → Bool) (there : t o ≡ true → HasOne map o) (same : t o ≡ false → get known o ≡ get map o) where
  put_or_there : (b : Bool) → t o ≡ b → first_of (if b then get map o else None) (get known o) ≡ get map o
  put_or_there true e = let x = there e in ap (λ v. first_of v (get known o)) x.1 ∙ sym x.1
  put_or_there false e = same e

module _ (program : Resolved) (known : FlatMap) (request : Request) (up : ascends known ≡ true) where
  abbrev done : Meant
  done = meant program known request

  changes : OnlyChanges known done
  changes = (leaves known program (tid_of request) request 1000000).changes

  abbrev was_changed : Oid → Bool
  was_changed o = is_among o done.made || is_among o done.written

  changes_make : put_all (filter (λ row. was_changed row.0) done.map) known ≡ done.map
  changes_make =
      let rows = filter (λ row. was_changed row.0) done.map in
      let sorted : ascends rows ≡ true = ascends_only was_changed done.map (changes.ascending up) in
      same_from_get (put_all rows known) done.map (ascends-put_all rows known up) (changes.ascending up)
      (λ o.
      get-put_all rows known o (distinct_from_ascends rows sorted)
      ∙ ap (λ v. first_of v (get known o)) (get_only was_changed done.map o)
      ∙ put_or_there done.map known o was_changed (changes.there o) (λ e. sym (changes.others o e)) (was_changed o) refl)

  behind : (e : Ending) → put_all (if_ended e (filter (λ row. was_changed row.0) done.map) []) known ≡ if_ended e done.map known
  behind (Ended v) = changes_make
  behind Failed = refl
  behind (Stopped stop) = refl
  behind (Missing site o) = refl

  -- a run that ended as it is meant to, with what it left
  pub single_of : (way : Way) (q : State) (s : Single) → done ≡ meant_at (ending_of way) q → s.ending ≡ ending_of way
      → s.changed ≡ changes_at (ending_of way) q.heap → IsSingle program known request s
  single_of way q s is ending changed = record {
    ending = ending ∙ sym (ap (λ (m : Meant). m.ending) is);
    map =
        ap (λ (rows : FlatMap). put_all rows known)
        (changed ∙ sym (ap (λ (m : Meant). if_ended m.ending (filter (λ row. is_among row.0 m.made || is_among row.0 m.written) m.map) []) is))
        ∙ behind done.ending;
  }

-- ---- what was run

-- what stands at the end of a run is what it means
ends_so : (m : Means) (first : Place) (tid : Tid) (known : FlatMap) (js : List left.Entry) (s : State) (ks : List left.Entry) (t : State) (way : Way)
    → Runs m first tid known way js s ks t → meant_by (left.left m first js s []) ≡ meant_at (ending_of way) t
ends_so m first tid known js s ks t (Over (Ok v)) r = ap meant_by r
ends_so m first tid known js s ks t (Over (Err end.Failed)) r = ap meant_by r
ends_so m first tid known js s ks t (Over (Err (end.Stopped stop))) r = ap meant_by r
ends_so m first tid known js s ks t (Over (Err (end.Missing site o))) r = absurd r
ends_so m first tid known js s ks t (Lacks site o fuel pairs objects) r = ap meant_by r.0

module _ (program : Resolved) (known : FlatMap) (request : Request) where
  -- where there is no method
  pub none_single : slice_get program.methods request.method ≡ None → IsSingle program known request (record { ending = Ended None; changed = [] })
  none_single none =
      let is : meant program known request ≡ meant_at (Ended None) (state_at_start known 1000000) =
      ap meant_by (plain_none program (tid_of request) request 1000000 known none) in
      record { ending = sym (ap (λ (m : Meant). m.ending) is); map = sym (ap (λ (m : Meant). if_ended m.ending m.map known) is) }

  module _ (first : Method) (is : slice_get program.methods request.method ≡ Some first) (up : ascends known ≡ true)
      (way : Way) (ks : List left.Entry) (q : State) where
    abbrev start : Point
    start = with_locals (locals_at_start first request.args) (point_over (tid_of request) 1000000 known [])

    abbrev Made : List left.Entry → Point → Type 0
    Made js p = (k : FlatMap) → AllStem p.base.tid k js p.state → Runs (meanings program p.base.tid) (at_start first) p.base.tid k way js p.state ks q

    made : Made (rest (at_start first) first.body ∷ []) start → meant program known request ≡ meant_at (ending_of way) q
    made h =
        let tid = tid_of request in
        let js = rest (at_start first) first.body ∷ [] in
        ap meant_by (plain_begins program tid request 1000000 known first is [] tt)
        ∙ ends_so (meanings program tid) (at_start first) tid known js start.state ks q way
        (h known (all_known tid known first 1000000 (locals_at_start first request.args) [] up))

    pub run_meant : (js : List left.Entry) (p : Point) → js ≡ rest (at_start first) first.body ∷ [] → p ≡ start → Made js p
        → meant program known request ≡ meant_at (ending_of way) q
    run_meant js p entries at h = made (subst (Made (rest (at_start first) first.body ∷ [])) at (subst (λ (l : List left.Entry). Made l p) entries h))
