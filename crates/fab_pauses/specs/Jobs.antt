-- When two jobs of one program are one, and when one goes on where another paused.
use Rattle.std.specs.Prelude.{◌≡◌, ℕ, Bool, true, false, [], ◌∷◌, ◌++◌, Option, Some, None}
use Rattle.fab_base.specs.declared.object.Object.{Object}
use Rattle.fab_base.specs.declared.object.Oid.{Oid}
use Rattle.fab_nested.specs.Nested.{Answers}
use Rattle.fab_eval.specs.Answered.{answered}
use Rattle.fab_eval.specs.declared.job.Job.{Job}

pub record IsSameJob (a b : Job) : Type 0 where
  pub request : a.request ≡ b.request
  pub tid : a.tid ≡ b.tid
  pub answers : a.answers ≡ b.answers

-- there is a job, and it is this one
abbrev pub IsThere : Option Job → Job → Type 0
IsThere None job = ⊥
IsThere (Some there) job = IsSameJob there job

-- the last of these answers, where those before it are others; nothing exactly where they aren't
abbrev pub IsLastBehind : Answers → Answers → Option (Oid × ℕ × Object) → Type 0
IsLastBehind before answers (Some a) = answers ≡ before ++ a ∷ []
IsLastBehind before answers None = (a : Oid × ℕ × Object) → answers ≡ before ++ a ∷ [] → ⊥

-- these are answers with one more, of this object and the last
pub record IsOneMore (before : Answers) (o : Oid) (answers : Answers) : Type 0 where
  pub version : ℕ
  pub object : Object
  pub is : answers ≡ before ++ (o, version, object) ∷ []

-- a job is another one with an answer more, of this object and the last
pub record GoesOn (before : Job) (o : Oid) (job : Job) : Type 0 where
  pub version : ℕ
  pub object : Object
  pub same : IsSameJob job (answered o version object before)

-- the last job behind an answer: it is the one before with this answer more where it went on, and else the one before
abbrev pub GoesOnOrStays : Bool → Option Job → Oid → ℕ → Object → Option Job → Type 0
GoesOnOrStays true None o version object new = ⊥
GoesOnOrStays true (Some before) o version object new = new ≡ Some (answered o version object before)
GoesOnOrStays false old o version object new = new ≡ old

-- there is no job, or it is the one before
abbrev pub IsOldOrNone : Option Job → Option Job → Type 0
IsOldOrNone old None = Unit {0}
IsOldOrNone old (Some job) = old ≡ Some job
