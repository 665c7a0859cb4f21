-- When two jobs are one, and when one goes on where another paused.
use Rattle.std.specs.Prelude.{◌≡◌, ℕ, [], ◌∷◌, ◌++◌, None}
use Rattle.std.proofs.Common.{refl, sym, ap, ◌∙◌, arith, length, length-append}
use Rattle.fab_base.specs.declared.object.Object.{Object}
use Rattle.fab_base.specs.declared.object.Oid.{Oid}
use Rattle.fab_base.specs.declared.object.Tid.{Tid}
use Rattle.fab_eval.specs.Answered.{answered}
use Rattle.fab_eval.specs.declared.job.Job.{Job}
use Rattle.fab_pauses.specs.Evaluations.{EvaluatorsModel, last_of}
use Rattle.fab_pauses.specs.Jobs.{GoesOn, IsSameJob, IsThere}

-- ---- one job

same_job : (job : Job) → IsSameJob job job
same_job job = record { request = refl; tid = refl; answers = refl }

-- the same request at another attempt
another_job : (a b : Job) → a.tid.number ≡ 1 → b.tid.number ≡ 2 → IsSameJob a b → ⊥
another_job a b first later h = let same : 1 ≡ 2 = sym first ∙ ap (λ (t : Tid). t.number) h.tid ∙ later in omega (arith, same)

-- who has none has no job
none_there : (job : Job) → IsThere None job → ⊥
none_there job h = h

-- ---- one that goes on

with_answer : (job : Job) (o : Oid) (version : ℕ) (x : Object) → GoesOn job o (answered o version x job)
with_answer job o version x = record { version = version; object = x; same = record { request = refl; tid = refl; answers = refl } }

-- a job doesn't go on at itself
not_itself : (job : Job) (o : Oid) → GoesOn job o job → ⊥
not_itself job o h =
    let more : length job.answers ≡ length (job.answers ++ (o, h.version, h.object) ∷ []) = ap length h.same.answers in
    omega (arith, more, length-append job.answers ((o, h.version, h.object) ∷ []))

-- ---- those of workers

-- 64 numbers further the place is the same
shared : (all : EvaluatorsModel) → last_of all 65 ≡ last_of all 1
shared all = refl
