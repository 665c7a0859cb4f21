-- Where a run of a worker's request lacks an object.
use Rattle.std.specs.Prelude.{◌≡◌, ◌≤◌, ℕ, false, List, [], ◌∷◌, ◌++◌, length, take, Option, Some, None}
use Rattle.fab_base.specs.declared.object.Object.{Object}
use Rattle.fab_base.specs.declared.object.Tid.{Tid}
use Rattle.fab_base.specs.declared.object.Value.{Value}
use Rattle.fab_base.specs.FlatMap.{map_of}
use Rattle.fab_meaning.specs.declared.paused.Paused.{Paused}
use Rattle.fab_meaning.specs.Jobs.{Job, meant_of}
use Rattle.fab_meaning.specs.Turns.{IsOver, IsPausedAt}
use Rattle.fab_protocol.specs.Versions.{Rows, is_made_in, objects_of}
use Rattle.fab_settings.specs.Settings.{request_at}
use Rattle.fab_tree.specs.declared.resolved.Request.{Request}
use Rattle.fab_known.specs.declared.known.Last.{Last}
use Rattle.fab_known.specs.Knowing.{Runner, ran_by}

-- a request over these rows and given values
abbrev pub job_over : Runner → Rows → List Value → Request → Tid → Job
job_over r rows given request t =
    record { program = r.program; seen = r.seen; known = map_of (objects_of rows); given = given; request = request; tid = t; fuel = 1000000 }

-- a worker's request of this number is paused so in an attempt
pub record IsRun (r : Runner) (rows : Rows) (given : List Value) (number : ℕ) (t : Tid) (p : Paused) : Type 0 where
  pub request : Request
  pub asked : request_at r.program t.worker number ≡ Some request
  pub paused : IsPausedAt (job_over r rows given request t) p

-- the last run was over the first of these rows
pub record IsLast (r : Runner) (rows : Rows) (given : List Value) (last : Last) : Type 0 where
  pub few : last.rows ≤ length rows
  pub run : IsRun r (take last.rows rows) given last.number last.tid last.pause

abbrev pub IsKnown : Runner → Rows → List Value → Option Last → Type 0
IsKnown r rows given None = Unit {0}
IsKnown r rows given (Some last) = IsLast r rows given last

-- it is over, or paused so
abbrev pub IsTurned : Runner → Rows → List Value → ℕ → Tid → Option Paused → Type 0
IsTurned r rows given number t None = IsOver (ran_by r t.worker number t (map_of (objects_of rows)) given).ending
IsTurned r rows given number t (Some p) = IsRun r rows given number t p

-- a job is over, or paused so
abbrev pub PausesSo : Job → Option Paused → Type 0
PausesSo job None = IsOver (meant_of job).ending
PausesSo job (Some p) = IsPausedAt job p

-- the last run was of the same request in the same attempt, and all that is known since is the object that it lacked
pub record IsAnswer (rows : Rows) (last : Last) (number : ℕ) (t : Tid) (x : Object) : Type 0 where
  pub version : ℕ
  pub number_is : last.number ≡ number
  pub tid_is : last.tid ≡ t
  pub rows_are : rows ≡ take last.rows rows ++ (last.pause.oid, version, x) ∷ []
  pub unmade : is_made_in t last.pause.oid ≡ false
