-- A job that goes on at a pause.
use Rattle.std.specs.Prelude.{◌≡◌, ℕ, Bool, true, false, [], ◌∷◌, ◌++◌, Option, Some, None, Result, Ok, Err, IfOk, IfSome}
use Rattle.std.specs.Option.{option_map}
use Rattle.std.specs.List.{list_any}
use Rattle.std.proofs.Common.{sym, ap, ◌∙◌, subst}
use Rattle.std.proofs.lemmas.Bool.{or_parts}
use Rattle.std.proofs.lemmas.List.Folds.{list_any-append}
use Rattle.fab_base.specs.declared.object.Object.{Object}
use Rattle.fab_base.specs.declared.object.Oid.{Oid}
use Rattle.fab_base.specs.declared.object.Tid.{Tid}
use Rattle.fab_nested.specs.Nested.{Answers}
use Rattle.fab_eval.specs.Answered.{answered}
use Rattle.fab_tree.specs.declared.resolved.Resolved.{Resolved}
use Rattle.fab_eval.specs.Attempts.{is_made_in}
use Rattle.fab_eval.specs.Turns.{Turns}
use Rattle.fab_eval.specs.declared.job.Job.{Job}
use Rattle.fab_eval.specs.declared.turn.Turn.{Turn}
use Rattle.fab_eval.specs.declared.turn.Turn.TheVariants.{Done, Paused}
use Rattle.fab_pauses.specs.Evaluations.{IsOf, job_of}
use Rattle.fab_pauses.specs.Jobs.{GoesOn, GoesOnOrStays, IsSameJob}

-- a turn is of its job
pub its_job : (job : Job) (turn : Turn) → Turns job turn → job_of turn ≡ job
its_job job (Done d) h = h.0
its_job job (Paused p) h = h.0

pub its_jobs : {E : Type 0} (job : Job) (result : Result Turn E) → IfOk result (Turns job) → IfOk result (λ t. job_of t ≡ job)
its_jobs job (Ok turn) h = its_job job turn h
its_jobs job (Err e) h = tt

-- an answer that was asked for isn't made in the attempt
pub unmade : (before : Job) (o : Oid) (job : Job) → GoesOn before o job → list_any (λ a. is_made_in job.tid a.0) job.answers ≡ false → is_made_in before.tid o ≡ false
unmade before o job h none =
    let asked : Oid × ℕ × Object = (o, h.version, h.object) in
    let made : Tid → Oid × ℕ × Object → Bool = λ t a. is_made_in t a.0 in
    let all : list_any (made before.tid) (before.answers ++ asked ∷ []) ≡ false =
    ap (λ (l : Answers). list_any (made before.tid) l) (sym h.same.answers) ∙ ap (λ (t : Tid). list_any (made t) job.answers) (sym h.same.tid) ∙ none in
    let last : list_any (made before.tid) (asked ∷ []) ≡ false =
    (or_parts (list_any (made before.tid) before.answers) (list_any (made before.tid) (asked ∷ [])) (sym (list_any-append (made before.tid) before.answers (asked ∷ [])) ∙ all)).1 in
    (or_parts (is_made_in before.tid o) false last).0

same_some : {A : Type 0} {x y : A} → Some x ≡ Some y → x ≡ y
same_some h = cc

-- where it goes on with this answer, it is the job
module _ (before : Job) (o : Oid) (job : Job) (h : GoesOn before o job) (p : Oid) (version : ℕ) (x : Object) (given : ◌≡◌ {A = Option (Oid × ℕ × Object)} (Some (o, h.version, h.object)) (Some (p, version, x))) where
  same_asked : ◌≡◌ {A = Oid × ℕ × Object} (o, h.version, h.object) (p, version, x)
  same_asked = same_some given

  same_version : h.version ≡ version
  same_version = ap (λ (a : Oid × ℕ × Object). a.1) same_asked

  same_object : h.object ≡ x
  same_object = ap (λ (a : Oid × ℕ × Object). a.2) same_asked

  same_answered : IsSameJob (answered o version x before) job
  same_answered = record {
    request = sym h.same.request;
    tid = sym h.same.tid;
    answers = ap (λ (v : ℕ). before.answers ++ (o, v, x) ∷ []) (sym same_version) ∙ ap (λ (y : Object). before.answers ++ (o, h.version, y) ∷ []) (sym same_object) ∙ sym h.same.answers;
  }

  pub went_on : {E : Type 0} (result : Result Turn E) → IfOk result (Turns (answered o version x before)) → IfOk result (λ t. IsSameJob (job_of t) job)
  went_on (Ok turn) is = subst (λ (j : Job). IsSameJob j job) (sym (its_job (answered o version x before) turn is)) same_answered
  went_on (Err e) is = tt

-- there is no list that ends in an answer and has no last one
pub is_there : (r : Option (Oid × ℕ × Object)) (a : Oid × ℕ × Object) → r ≡ None → r ≡ Some a → ⊥
is_there r a none some = let no : None ≡ Some a = sym none ∙ some in cc

-- it stays, and is of its program still
pub still_of : (program : Resolved) (old new : Option Turn) → option_map job_of new ≡ option_map job_of old → IfSome old (λ t. IsOf program (job_of t)) → IfSome new (λ t. IsOf program (job_of t))
still_of program old None h is = tt
still_of program None (Some u) h is = let no : Some (job_of u) ≡ None = h in cc
still_of program (Some t) (Some u) h is = ap (λ (j : Job). j.program.value) (same_some h) ∙ is

-- whether it went on or not, it is of its program still
pub of_program : (program : Resolved) (went : Bool) (old new : Option Turn) (o : Oid) (version : ℕ) (x : Object)
    → GoesOnOrStays went (option_map job_of old) o version x (option_map job_of new) → IfSome old (λ t. IsOf program (job_of t)) → IfSome new (λ t. IsOf program (job_of t))
of_program program true None new o version x h is = absurd h
of_program program true (Some t) None o version x h is = tt
of_program program true (Some t) (Some u) o version x h is = ap (λ (j : Job). j.program.value) (same_some h) ∙ is
of_program program false old new o version x h is = still_of program old new h is
