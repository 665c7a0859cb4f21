-- What the end of an evaluation says of the attempt that it was for.
use Rattle.std.proofs.Common.{◌≡◌, ℕ, List, [], ◌∷◌, map, length, Option, Some, IsFalse, Result, Ok, Err, IfOk, refl, sym, ap, subst, ◌∙◌}
use Rattle.fab_base.specs.declared.object.Oid.{Oid}
use Rattle.fab_base.specs.declared.object.Object.{Object}
use Rattle.fab_base.specs.declared.object.Stop.{Stop}
use Rattle.fab_base.specs.declared.object.Tid.{Tid}
use Rattle.fab_base.specs.declared.object.Value.{Value}
use Rattle.fab_base.specs.FlatMap.{map_of, is_among}
use Rattle.fab_tree.specs.declared.resolved.Resolved.{Resolved}
use Rattle.fab_language.specs.declared.ending.Ending.{Ending}
use Rattle.fab_language.specs.declared.ending.Ending.TheVariants as endings
use Rattle.fab_language.specs.Heaps.{Heap, touched}
use Rattle.fab_language.specs.Meaning.{Meant, meaning}
use Rattle.fab_nested.specs.Nested.{versions_of, writes_in, creates_in}
use Rattle.fab_eval.specs.declared.job.Job.{Job}
use Rattle.fab_eval.specs.declared.job.Outcome.{Outcome}
use Rattle.fab_eval.specs.declared.job.Outcome.TheVariants as outcomes
use Rattle.fab_eval.specs.Outcomes.{outcome_at, outcome_of, meant_of}
use Rattle.fab_protocol.specs.Versions.{Rows, version_of, objects_of, names_of}
use Rattle.fab_protocol.specs.declared.parts.Parts.{Parts}
use Rattle.fab_world.specs.Attempts.{value_of, parts_of}
use Rattle.fab_attempts.specs.Known.{AreKnown, ArePartsOver}
use Rattle.fab_attempts.specs.Sessions.{IsProgramOf}
use Rattle.fab_laws.proofs.Changes.{missing_is_absent}
use Rattle.fab_attempts.proofs.Rows.{none_among}
use Rattle.fab_attempts.proofs.Parts.{writes_are_parts, parts_over}
use Rattle.fab_worker.specs.Models.{WorkerModel, IsJobOf, tid_at}

-- ---- that the request ended

module _ (versions : List (Oid × ℕ)) (h : Heap) (v : Option Value) (writes : Rows) (creates : List (Oid × Object)) where
  abbrev Ends : Ending → Type 0
  Ends ending = outcome_at versions ending h ≡ outcomes.Ended v writes creates

  ending_ended : (ending : Ending) → Ends ending → ending ≡ endings.Ended v
  ending_ended (endings.Ended u) e = cc
  ending_ended endings.Failed e = cc
  ending_ended (endings.Stopped stop) e = cc
  ending_ended (endings.Missing site o) e = cc

  ending_writes : (ending : Ending) → Ends ending → writes_in versions h.written h.rows ≡ writes
  ending_writes (endings.Ended u) e = cc
  ending_writes endings.Failed e = cc
  ending_writes (endings.Stopped stop) e = cc
  ending_writes (endings.Missing site o) e = cc

  ending_creates : (ending : Ending) → Ends ending → creates_in h.made h.rows ≡ creates
  ending_creates (endings.Ended u) e = cc
  ending_creates endings.Failed e = cc
  ending_creates (endings.Stopped stop) e = cc
  ending_creates (endings.Missing site o) e = cc

abbrev heap_of : Meant → Heap
heap_of meant = record { rows = meant.map; written = meant.written; made = meant.made }

-- the parts are of what was handed over
module _ (x : WorkerModel) (job : Job) (is_job : IsJobOf job x) (outcome : Outcome) (came : outcome ≡ outcome_of job) where
  abbrev meant : Meant
  meant = meant_of job

  module _ (v : Option Value) (writes : Rows) (creates : List (Oid × Object)) (ended : outcome ≡ outcomes.Ended v writes creates) where
    at_end : outcome_at (versions_of x.attempt.answers) meant.ending (heap_of meant) ≡ outcomes.Ended v writes creates
    at_end = ap (λ answers. outcome_at (versions_of answers) meant.ending (heap_of meant)) (sym is_job.answers) ∙ (sym came ∙ ended)

    pub is_ended : meant.ending ≡ endings.Ended v
    is_ended = ending_ended (versions_of x.attempt.answers) (heap_of meant) v writes creates meant.ending at_end

    pub parts_handed : parts_of x.attempt.answers meant ≡ record {
      value = v;
      touched = map (λ o. (o, version_of x.attempt.answers o)) (touched meant.touches);
      writes = writes;
      creates = creates;
    }
    parts_handed =
        let value = ap value_of is_ended in
        let wrote = sym (writes_are_parts x.attempt.answers meant) ∙ ending_writes (versions_of x.attempt.answers) (heap_of meant) v writes creates meant.ending at_end in
        let made = ending_creates (versions_of x.attempt.answers) (heap_of meant) v writes creates meant.ending at_end in
        λ i. record {
          value = value i;
          touched = map (λ o. (o, version_of x.attempt.answers o)) (touched meant.touches);
          writes = wrote i;
          creates = made i;
        }

    -- over the answers that the worker has, and what it was told was touched
    pub parts_built : (answers : Rows) (touches : List (ℕ × Oid)) → answers ≡ x.attempt.answers → touches ≡ meant.touches
        → record { value = v; touched = map (λ o. (o, version_of answers o)) (touched touches); writes = writes; creates = creates } ≡ parts_of x.attempt.answers meant
    parts_built answers touches same_answers same_touches =
        (λ i. record { value = v; touched = map (λ o. (o, version_of (same_answers i) o)) (touched (same_touches i)); writes = writes; creates = creates })
        ∙ sym parts_handed

    pub parts_come : {E : Type 0} (r : Result Parts E) (answers : Rows) (touches : List (ℕ × Oid)) → answers ≡ x.attempt.answers → touches ≡ meant.touches
        → IfOk r (λ parts. parts ≡ record { value = v; touched = map (λ o. (o, version_of answers o)) (touched touches); writes = writes; creates = creates })
        → IfOk r (λ parts. parts ≡ parts_of x.attempt.answers meant)
    parts_come (Ok parts) answers touches same_answers same_touches h = h ∙ parts_built answers touches same_answers same_touches
    parts_come (Err e) answers touches same_answers same_touches h = tt

-- ---- what the job means, of what the worker has

pub meant_at_worker : (x : WorkerModel) (job : Job) → IsJobOf job x → meant_of job ≡ meaning x.program (map_of (objects_of x.attempt.answers)) job.request (tid_at x) 1000000
meant_at_worker x job is_job = λ i. meaning (is_job.program i) (map_of (objects_of (is_job.answers i))) job.request (is_job.tid i) 1000000

pub parts_over_answers : (x : WorkerModel) (job : Job) → IsJobOf job x → IsProgramOf x.program x.node x.rights → AreKnown x.program (tid_at x) x.attempt.answers
    → ArePartsOver x.program (tid_at x) x.attempt.answers (parts_of x.attempt.answers (meant_of job))
parts_over_answers x job is_job fits known =
    subst (λ (meant : Meant). ArePartsOver x.program (tid_at x) x.attempt.answers (parts_of x.attempt.answers meant)) (sym (meant_at_worker x job is_job))
    (parts_over x.program (tid_at x) x.attempt.answers known x.node x.rights fits (length x.kept.outcomes) job.request is_job.request 1000000)

-- ---- an object is needed

ending_missing : (versions : List (Oid × ℕ)) (h : Heap) (site : ℕ) (o : Oid) (ending : Ending) → outcome_at versions ending h ≡ outcomes.Need site o → ending ≡ endings.Missing site o
ending_missing versions h site o (endings.Ended u) e = cc
ending_missing versions h site o endings.Failed e = cc
ending_missing versions h site o (endings.Stopped stop) e = cc
ending_missing versions h site o (endings.Missing at p) e = cc

pub is_missing : (job : Job) (outcome : Outcome) → outcome ≡ outcome_of job → (site : ℕ) (o : Oid) → outcome ≡ outcomes.Need site o
    → (meant_of job).ending ≡ endings.Missing site o
is_missing job outcome came site o need = ending_missing (versions_of job.answers) (heap_of (meant_of job)) site o (meant_of job).ending (sym came ∙ need)

-- what is needed isn't among the answers
pub is_unanswered : (x : WorkerModel) (job : Job) → IsJobOf job x → (outcome : Outcome) → outcome ≡ outcome_of job → (site : ℕ) (o : Oid) → outcome ≡ outcomes.Need site o
    → IsFalse (is_among o (names_of x.attempt.answers))
is_unanswered x job is_job outcome came site o need =
    let missing = sym (ap (λ (meant : Meant). meant.ending) (meant_at_worker x job is_job)) ∙ is_missing job outcome came site o need in
    none_among x.attempt.answers o (missing_is_absent (map_of (objects_of x.attempt.answers)) x.program (tid_at x) job.request 1000000 site o missing)

-- ---- it failed, or came to a limit

ending_failed : (versions : List (Oid × ℕ)) (h : Heap) (ending : Ending) → outcome_at versions ending h ≡ outcomes.Failed → ending ≡ endings.Failed
ending_failed versions h (endings.Ended u) e = cc
ending_failed versions h endings.Failed e = refl
ending_failed versions h (endings.Stopped stop) e = cc
ending_failed versions h (endings.Missing at p) e = cc

pub is_failed : (job : Job) (outcome : Outcome) → outcome ≡ outcome_of job → outcome ≡ outcomes.Failed → (meant_of job).ending ≡ endings.Failed
is_failed job outcome came failed = ending_failed (versions_of job.answers) (heap_of (meant_of job)) (meant_of job).ending (sym came ∙ failed)

ending_stopped : (versions : List (Oid × ℕ)) (h : Heap) (limit : Stop) (ending : Ending) → outcome_at versions ending h ≡ outcomes.Stopped limit → ending ≡ endings.Stopped limit
ending_stopped versions h limit (endings.Ended u) e = cc
ending_stopped versions h limit endings.Failed e = cc
ending_stopped versions h limit (endings.Stopped stop) e = cc
ending_stopped versions h limit (endings.Missing at p) e = cc

pub is_stopped : (job : Job) (outcome : Outcome) → outcome ≡ outcome_of job → (limit : Stop) → outcome ≡ outcomes.Stopped limit → (meant_of job).ending ≡ endings.Stopped limit
is_stopped job outcome came limit stopped = ending_stopped (versions_of job.answers) (heap_of (meant_of job)) limit (meant_of job).ending (sym came ∙ stopped)

-- ---- parts that were built

-- what is so of parts is so of an answer that has them
pub over_come : {E : Type 0} (P : Parts → Type 0) (parts : Parts) (r : Result Parts E) → P parts → IfOk r (λ p. p ≡ parts) → IfOk r P
over_come P parts (Ok p) holds h = subst P (sym h) holds
over_come P parts (Err e) holds h = tt
