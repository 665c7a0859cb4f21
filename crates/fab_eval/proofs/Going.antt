-- What is left of a job, with the answer that it needs.
use Rattle.std.proofs.Common.{◌≡◌, ℕ, true, false, ◌||◌, if◌then◌else◌, List, [], ◌∷◌, ◌++◌, map, Option, Some, None, Result, Ok, Err, OnOk, is_err, refl, sym, ap, ◌∙◌, subst, arith}
use Rattle.std.specs.List.{IsDistinct, list_any}
use Rattle.std.specs.Map.{keys_of}
use Rattle.std.proofs.lemmas.Bool.{true≢false}
use Rattle.std.proofs.lemmas.Bool.Decides.{nat_tests}
use Rattle.std.proofs.lemmas.List.{length-map}
use Rattle.std.proofs.lemmas.List.Folds.{list_any-append}
use Rattle.std.proofs.lemmas.Map.Keys.{IsDistinct-push}
use Rattle.fab_base.specs.declared.object.Object.{Object}
use Rattle.fab_base.specs.declared.object.Oid.{Oid}
use Rattle.fab_base.specs.declared.object.Tid.{Tid}
use Rattle.fab_base.specs.FlatMap.{FlatMap, get, put, map_of, is_same}
use Rattle.fab_base.proofs.Names.{same_flips, same_is_equivalence}
use Rattle.fab_map.proofs.Made.{get-map_of}
use Rattle.fab_map.proofs.Rows.{put_more}
use Rattle.fab_tree.specs.declared.resolved.Method.{Method}
use Rattle.fab_language.specs.declared.ending.Ending.{Ending}
use Rattle.fab_language.specs.declared.ending.Ending.TheVariants as e
use Rattle.fab_language.specs.Heaps.{Heap}
use Rattle.fab_laws.specs.Changes.{IsOf}
use Rattle.fab_laws.proofs.Changes.{missing_is_absent}
use Rattle.fab_left.specs.Acts.{meanings}
use Rattle.fab_left.specs.Left.{AllStem, IsBegun, IsNew, at_start, wider_entry, with_more}
use Rattle.fab_left.proofs.Stacks.{answer_begun, answer_stems}
use Rattle.fab_nested.specs.Nested.{Answers, names_of, objects_of, versions_of}
use Rattle.fab_stack.specs.declared.stack.Entry.{Entry}
use Rattle.fab_stack.specs.Attempts.{is_made_in}
use Rattle.fab_stack.specs.Points.{Point, point_before, with_answer}
use Rattle.fab_stack.specs.Stacks.{entries_of}
use Rattle.fab_stack.proofs.Answering.{entries_wider}
use Rattle.fab_eval.specs.declared.found.At.{At}
use Rattle.fab_eval.specs.declared.job.Job.{Job}
use Rattle.fab_eval.specs.declared.job.Outcome.TheVariants.{Need}
use Rattle.fab_eval.specs.Answered.{answered}
use Rattle.fab_eval.specs.Lefts.{IsLeftOf, asked_by, known_of}
use Rattle.fab_eval.specs.Outcomes.{outcome_at, outcome_of, meant_of}
use Rattle.fab_eval.specs.Pauses.{Resumes, Waits}

-- ---- one answer more

objects_more : (answers : Answers) (a : Oid × ℕ × Object) → objects_of (answers ++ a ∷ []) ≡ objects_of answers ++ (a.0, a.2) ∷ []
objects_more [] a = refl
objects_more (x ∷ answers) a = ap (λ l. (x.0, x.2) ∷ l) (objects_more answers a)

versions_more : (answers : Answers) (a : Oid × ℕ × Object) → versions_of (answers ++ a ∷ []) ≡ versions_of answers ++ (a.0, a.1) ∷ []
versions_more [] a = refl
versions_more (x ∷ answers) a = ap (λ l. (x.0, x.1) ∷ l) (versions_more answers a)

names_more : (answers : Answers) (a : Oid × ℕ × Object) → names_of (answers ++ a ∷ []) ≡ names_of answers ++ a.0 ∷ []
names_more [] a = refl
names_more (x ∷ answers) a = ap (λ l. x.0 ∷ l) (names_more answers a)

known_more : (job : Job) (o : Oid) (version : ℕ) (x : Object) → known_of (answered o version x job) ≡ put o x (known_of job)
known_more job o version x = ap map_of (objects_more job.answers (o, version, x)) ∙ put_more (objects_of job.answers) (o, x) []

-- ---- what is needed is new

needs_missing : (versions : List (Oid × ℕ)) (ending : Ending) (h : Heap) (site : ℕ) (o : Oid) → outcome_at versions ending h ≡ Need site o → ending ≡ e.Missing site o
needs_missing versions (e.Ended v) h site o n = cc
needs_missing versions e.Failed h site o n = cc
needs_missing versions (e.Stopped stop) h site o n = cc
needs_missing versions (e.Missing s p) h site o n = cc

made_of : (t : Tid) (o : Oid) → IsOf t o → is_made_in t o ≡ true
made_of t o is = grind (arith, nat_tests, is.worker, is.boot, is.number)

pub needed_new : (job : Job) (site : ℕ) (o : Oid) → outcome_of job ≡ Need site o → is_made_in job.tid o ≡ false → IsNew job.tid (known_of job) o
needed_new job site o need unmade = record {
  unknown = missing_is_absent (known_of job) job.program.value job.tid job.request 1000000 site o (needs_missing (versions_of job.answers) (meant_of job).ending (record { rows = (meant_of job).map; written = (meant_of job).written; made = (meant_of job).made }) site o need);
  unmade = λ is. absurd (true≢false (sym (made_of job.tid o is) ∙ unmade));
}

-- ---- its name among those of the answers

unanswered : (answers : Answers) (o : Oid) → get (objects_of answers) o ≡ None → list_any (is_same o) (names_of answers) ≡ false
unanswered [] o h = refl
unanswered (a ∷ answers) o h =
    elim (is_same a.0 o) as (λ b. is_same o a.0 ≡ b → (if b then Some a.2 else get (objects_of answers) o) ≡ None → (is_same o a.0 || list_any (is_same o) (names_of answers)) ≡ false) [
      | true ↦ λ i n. let no : Some a.2 ≡ None = n in cc
      | false ↦ λ i n. ap (λ b. b || list_any (is_same o) (names_of answers)) i ∙ unanswered answers o n
    ] (same_flips o a.0) h

names_kept : (answers : Answers) → keys_of (objects_of answers) ≡ names_of answers
names_kept [] = refl
names_kept (a ∷ answers) = ap (λ l. a.0 ∷ l) (names_kept answers)

pub distinct_more : (job : Job) (o : Oid) (version : ℕ) (x : Object) → IsDistinct is_same (names_of job.answers) → IsNew job.tid (known_of job) o → IsDistinct is_same (names_of (answered o version x job).answers)
distinct_more job o version x distinct new =
    let absent = sym (get-map_of (objects_of job.answers) o (subst (IsDistinct is_same) (sym (names_kept job.answers)) distinct)) ∙ new.unknown in
    subst (IsDistinct is_same) (sym (names_more job.answers (o, version, x))) (IsDistinct-push same_is_equivalence (names_of job.answers) o distinct (unanswered job.answers o absent))

pub none_made_more : (t : Tid) (answers : Answers) (a : Oid × ℕ × Object) → list_any (λ (b : Oid × ℕ × Object). is_made_in t b.0) answers ≡ false → is_made_in t a.0 ≡ false → list_any (λ (b : Oid × ℕ × Object). is_made_in t b.0) (answers ++ a ∷ []) ≡ false
none_made_more t answers a before none = list_any-append (λ (b : Oid × ℕ × Object). is_made_in t b.0) answers (a ∷ []) ∙ rw (before, none) refl

-- ---- what is left goes on

module _ (job : Job) (first : Method) (items : List Entry) (p : Point) (o : Oid) (version : ℕ) (x : Object) (new : IsNew job.tid (known_of job) o) (rest : IsLeftOf job first items p) where
  entries_more : entries_of items (with_answer o version x p).base.saved ≡ map (wider_entry ((o, x) ∷ [])) (entries_of items p.base.saved)
  entries_more = entries_wider ((o, x) ∷ []) items p.base.saved (omega (arith, rest.matched))

  pub left_answered : IsLeftOf (answered o version x job) first items (with_answer o version x p)
  left_answered = record {
    begun = subst (λ (k : FlatMap). IsBegun (meanings job.program.value job.tid) (at_start first) job.tid (asked_by job) k (entries_of items (with_answer o version x p).base.saved) (with_answer o version x p).state) (sym (known_more job o version x))
        (rw entries_more (answer_begun o x job.tid (known_of job) new (meanings job.program.value job.tid) (at_start first) (asked_by job) (entries_of items p.base.saved) p.state rest.begun));
    stem = subst (λ (k : FlatMap). AllStem job.tid k (entries_of items (with_answer o version x p).base.saved) (with_answer o version x p).state) (sym (known_more job o version x))
        (rw entries_more (answer_stems o x job.tid (known_of job) new (entries_of items p.base.saved) p.state rest.stem));
    matched = rest.matched ∙ sym (length-map p.base.saved (with_more ((o, x) ∷ [])));
    tid = rest.tid;
    versions = ap (λ l. l ++ (o, version) ∷ []) rest.versions ∙ sym (versions_more job.answers (o, version, x));
  }

-- what a pause keeps goes on as what is left of its job with the answer
pub resumes : (job : Job) (o : Oid) (version : ℕ) (x : Object) → IsNew job.tid (known_of job) o → is_made_in job.tid o ≡ false → (at : Option At) → Waits job at → Resumes (answered o version x job) o version x at
resumes job o version x new unmade None w = tt
resumes job o version x new unmade (Some at) w = record {
  lacks = record {
    absent = w.rest.stem.state.none_new o new;
    unmade = ap (λ (t : Tid). is_made_in t o) w.rest.tid ∙ unmade;
  };
  objects = w.objects;
  rest = left_answered job at.first.now at.stack.items (point_before at.fuel at.pairs at.state) o version x new w.rest;
}

-- a call that didn't fail has done it
pub where_ok : {E : Type 0} (r : Result (Unit {0}) E) (P : Type 0) → is_err r ≡ false → OnOk r P → P
where_ok (Ok u) P e p = p
where_ok (Err x) P e p = absurd (true≢false e)
