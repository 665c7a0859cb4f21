-- A job is begun, or has no method to begin with.
use Rattle.std.proofs.Common.{◌≡◌, List, [], ◌∷◌, Some, None, Result, Ok, Err, IfOk, refl, sym, ap, ◌∙◌}
use Rattle.std.specs.Prelude.{slice_get}
use Rattle.std.specs.declared.alloc.AllocError.{AllocError}
use Rattle.fab_tree.specs.declared.resolved.Method.{Method}
use Rattle.fab_language.specs.Meaning.{locals_at_start, meant_at, meant_by}
use Rattle.fab_language.specs.declared.ending.Ending.TheVariants.{Ended}
use Rattle.fab_left.specs.Left.{at_start, rest}
use Rattle.fab_left.proofs.Beginning.{all_known, plain_begins, plain_none}
use Rattle.fab_map.proofs.Rows.{ascends-put_all}
use Rattle.fab_nested.specs.Nested.{objects_of, versions_of}
use Rattle.fab_stack.specs.declared.stack.Entry.{Entry}
use Rattle.fab_stack.specs.Points.{Point, point_at_start, with_locals}
use Rattle.fab_stack.specs.Stacks.{entries_of}
use Rattle.fab_stack.specs.Stepping.{IsMatched}
use Rattle.fab_eval.specs.declared.found.Found.{Found}
use Rattle.fab_eval.specs.declared.job.Job.{Job}
use Rattle.fab_eval.specs.Founds.{IsFound}
use Rattle.fab_eval.specs.Lefts.{IsLeftOf, known_of}
use Rattle.fab_eval.specs.Outcomes.{meant_of}
use Rattle.fab_eval.specs.Settles.{Comes, Settles}

-- where its method is there, all of it is left
pub begun_left : (job : Job) (first : Method) (items : List Entry) (p : Point) → slice_get job.program.value.methods job.request.method ≡ Some first
    → p ≡ with_locals (locals_at_start first job.request.args) (point_at_start job.tid 1000000 job.answers)
    → entries_of items p.base.saved ≡ rest (at_start first) first.body ∷ [] → IsMatched items p → IsLeftOf job first items p
begun_left job first items p is at entries matched =
    let up = ascends-put_all (objects_of job.answers) [] refl in
    let locals = locals_at_start first job.request.args in
    record {
      begun = rw (entries, ap (λ (x : Point). x.state) at) (plain_begins job.program.value job.tid job.request 1000000 (known_of job) first is);
      stem = rw (entries, ap (λ (x : Point). x.state) at) (all_known job.tid (known_of job) first 1000000 locals [] up);
      matched = matched;
      tid = ap (λ (x : Point). x.base.tid) at;
      versions = ap (λ (x : Point). x.base.versions) at;
    }

-- where it isn't, the job is over, and gives nothing
none_found : (job : Job) (p : Point) (f : Found) → slice_get job.program.value.methods job.request.method ≡ None → p ≡ point_at_start job.tid 1000000 job.answers
    → Settles (Ok None) p f.outcome f.touches f.downs → f.at ≡ None → IsFound job f
none_found job p f none at settles no_rest =
    let meant : meant_of job ≡ meant_at (Ended None) p.state = ap meant_by (plain_none job.program.value job.tid job.request 1000000 (known_of job) none) ∙ ap (λ (x : Point). meant_at (Ended None) x.state) (sym at) in
    let comes : Comes (versions_of job.answers) (meant_of job) f.outcome f.touches f.downs = rw (meant, sym (ap (λ (x : Point). x.base.versions) at)) settles in
    record { comes = comes; rests = rw (no_rest, settles.outcome_is) tt }

pub none_begun : (job : Job) (p : Point) (r : Result Found AllocError) → slice_get job.program.value.methods job.request.method ≡ None → p ≡ point_at_start job.tid 1000000 job.answers
    → IfOk r (λ f. Settles (Ok None) p f.outcome f.touches f.downs) → IfOk r (λ f. f.at ≡ None) → IfOk r (IsFound job)
none_begun job p (Ok f) none at settles no_rest = none_found job p f none at settles no_rest
none_begun job p (Err e) none at settles no_rest = tt
