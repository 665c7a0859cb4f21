-- From the steps of a run to what was meant.
use Rattle.std.proofs.Common.{◌≡◌, List, [], length, take, Option, Some, None, Result, Ok, Err, IfOk, sym, ap, ◌∙◌, subst}
use Rattle.std.specs.declared.alloc.AllocError.{AllocError}
use Rattle.fab_base.specs.declared.object.Tid.{Tid}
use Rattle.fab_base.specs.declared.object.Value.{Value}
use Rattle.fab_base.specs.FlatMap.{FlatMap}
use Rattle.fab_tree.specs.declared.resolved.Method.{Method}
use Rattle.fab_tree.specs.declared.resolved.Resolved.{Resolved}
use Rattle.fab_language.specs.Heaps.{touched}
use Rattle.fab_language.specs.Meaning.{missing, Meant, meant_by, meant_at, ending_at}
use Rattle.fab_left.specs.Acts.{meanings}
use Rattle.fab_left.specs.Left.{AllStem, at_start}
use Rattle.fab_nested.specs.Nested.{versions_of}
use Rattle.fab_stack.specs.declared.halt.End.{End}
use Rattle.fab_stack.specs.declared.halt.End.TheVariants.{Failed, Stopped, Missing}
use Rattle.fab_stack.specs.declared.stack.Entry.{Entry}
use Rattle.fab_stack.specs.declared.stepping.Way.{Way}
use Rattle.fab_stack.specs.declared.stepping.Way.TheVariants.{Over, Lacks}
use Rattle.fab_stack.specs.Points.{Point}
use Rattle.fab_stack.specs.Stacks.{entries_of}
use Rattle.fab_stack.specs.Stepping.{IsMatched, IsSameAttempt, Runs}
use Rattle.fab_eval.specs.declared.found.At.{At}
use Rattle.fab_eval.specs.declared.found.Found.{Found}
use Rattle.fab_eval.specs.declared.job.Job.{Job}
use Rattle.fab_eval.specs.declared.job.Outcome.TheVariants.{Need}
use Rattle.fab_eval.specs.Founds.{IsFound}
use Rattle.fab_eval.specs.Lefts.{IsLeftOf, known_of}
use Rattle.fab_eval.specs.Outcomes.{meant_of, outcome_by}
use Rattle.fab_eval.specs.Settles.{Comes, Settles, ending_of}

-- what steps made of all that is left of a job, they made of the job
module _ (job : Job) (program : Resolved) (is : program ≡ job.program.value) (first : Method) (js : List Entry) (p : Point) (left_is : IsLeftOf job first js p) (ks : List Entry) (q : Point) where
  abbrev Made : Resolved → Tid → Way → Type 0
  Made program tid way = AllStem tid (known_of job) (entries_of js p.base.saved) p.state
      → Runs (meanings program tid) (at_start first) tid (known_of job) way (entries_of js p.base.saved) p.state (entries_of ks q.base.saved) q.state

  made : (way : Way) → Made program p.base.tid way → Runs (meanings job.program.value job.tid) (at_start first) job.tid (known_of job) way (entries_of js p.base.saved) p.state (entries_of ks q.base.saved) q.state
  made way h = subst (λ (t : Tid). Made job.program.value t way) left_is.tid (subst (λ (x : Resolved). Made x p.base.tid way) is h) left_is.stem

  versions_kept : IsSameAttempt q.base p.base → q.base.versions ≡ versions_of job.answers
  versions_kept same = same.versions ∙ left_is.versions

  -- it is over
  pub over_found : (ended : Result (Option Value) End) (f : Found) → Made program p.base.tid (Over ended) → IsSameAttempt q.base p.base → Settles ended q f.outcome f.touches f.downs → f.at ≡ None → IsFound job f
  over_found ended f h same settles none = by ended (made (Over ended) h) settles
    where
      comes : (ended : Result (Option Value) End) → meant_of job ≡ meant_at (ending_of ended) q.state → Settles ended q f.outcome f.touches f.downs → Comes (versions_of job.answers) (meant_of job) f.outcome f.touches f.downs
      comes ended e s = rw (e, sym (versions_kept same)) s

      by : (ended : Result (Option Value) End) → Runs (meanings job.program.value job.tid) (at_start first) job.tid (known_of job) (Over ended) (entries_of js p.base.saved) p.state (entries_of ks q.base.saved) q.state → Settles ended q f.outcome f.touches f.downs → IsFound job f
      by (Ok v) r s = record { comes = comes (Ok v) (ap meant_by (left_is.begun [] tt ∙ r)) s; rests = rw (none, s.outcome_is) tt }
      by (Err Failed) r s = record { comes = comes (Err Failed) (ap meant_by (left_is.begun [] tt ∙ r)) s; rests = rw (none, s.outcome_is) tt }
      by (Err (Stopped stop)) r s = record { comes = comes (Err (Stopped stop)) (ap meant_by (left_is.begun [] tt ∙ r)) s; rests = rw (none, s.outcome_is) tt }
      by (Err (Missing site o)) r s = absurd r

  -- it lacks an object
  pub lacks_found : (at : At) (f : Found) → at.first.now ≡ first → at.stack.items ≡ ks → at.state ≡ q → Made program p.base.tid (Lacks at.site at.oid at.fuel at.pairs at.objects) → IsMatched ks q → IsSameAttempt q.base p.base
      → f.outcome ≡ Need at.site at.oid → f.touches ≡ q.state.touches → f.downs ≡ q.state.downs → f.at ≡ Some at → IsFound job f
  lacks_found at f fi si qi h matched same o t d e =
      let r = made (Lacks at.site at.oid at.fuel at.pairs at.objects) h in
      let meant : meant_of job ≡ meant_at (ending_at (missing at.site at.oid)) q.state = ap meant_by (left_is.begun [] tt ∙ r.0) in
      record {
        comes = record {
          outcome_is = o ∙ sym (ap (outcome_by (versions_of job.answers)) meant);
          touches_are = t ∙ sym (ap (λ (m : Meant). m.touches) meant);
          downs_are = d ∙ sym (ap (λ (m : Meant). m.downs) meant);
        };
        rests = rw e (
          o,
          record {
            rest = rw (fi, si, qi) (record {
              begun = λ more fresh. left_is.begun more fresh ∙ r.1.same more fresh;
              stem = r.1.stem;
              matched = matched;
              tid = same.tid ∙ left_is.tid;
              versions = versions_kept same;
            });
            objects = r.2 ∙ sym (ap (λ (z : Point). length (touched (take at.pairs z.state.touches))) qi);
          },
        );
      }

-- ---- the same, whatever job it is

module _ (program : Resolved) (first : Method) (js : List Entry) (p : Point) (ks : List Entry) (q : Point) where
  abbrev RunsTo : Way → Type 0
  RunsTo way = (known : FlatMap) → AllStem p.base.tid known (entries_of js p.base.saved) p.state
      → Runs (meanings program p.base.tid) (at_start first) p.base.tid known way (entries_of js p.base.saved) p.state (entries_of ks q.base.saved) q.state

  abbrev FoundBy : Found → Type 0
  FoundBy f = (job : Job) → program ≡ job.program.value → IsLeftOf job first js p → IsFound job f

  pub over_goes : (ended : Result (Option Value) End) (r : Result Found AllocError) → RunsTo (Over ended) → IsSameAttempt q.base p.base → IfOk r (λ f. Settles ended q f.outcome f.touches f.downs) → IfOk r (λ f. f.at ≡ None) → IfOk r FoundBy
  over_goes ended (Ok f) h same s n = λ job is rest. over_found job program is first js p rest ks q ended f (h (known_of job)) same s n
  over_goes ended (Err e) h same s n = tt

  pub lacks_goes : (at : At) (r : Result Found AllocError) → at.first.now ≡ first → at.stack.items ≡ ks → at.state ≡ q → RunsTo (Lacks at.site at.oid at.fuel at.pairs at.objects) → IsMatched ks q → IsSameAttempt q.base p.base
      → IfOk r (λ f. f.outcome ≡ Need at.site at.oid) → IfOk r (λ f. f.touches ≡ at.state.state.touches) → IfOk r (λ f. f.downs ≡ at.state.state.downs) → IfOk r (λ f. f.at ≡ Some at) → IfOk r FoundBy
  lacks_goes at (Ok f) fi si qi h matched same o t d e = λ job is rest.
      lacks_found job program is first js p rest ks q at f fi si qi (h (known_of job)) matched same o (t ∙ ap (λ (z : Point). z.state.touches) qi) (d ∙ ap (λ (z : Point). z.state.downs) qi) e
  lacks_goes at (Err x) fi si qi h matched same o t d e = tt

pub found_of : (job : Job) (program : Resolved) (first : Method) (items : List Entry) (p : Point) (r : Result Found AllocError) → program ≡ job.program.value → IsLeftOf job first items p
    → IfOk r (λ f. (other : Job) → program ≡ other.program.value → IsLeftOf other first items p → IsFound other f) → IfOk r (IsFound job)
found_of job program first items p (Ok f) is rest h = h job is rest
found_of job program first items p (Err e) is rest h = tt
