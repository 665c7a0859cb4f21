-- What is found of a job.
use Rattle.std.specs.Prelude.{◌≡◌, length, take, Option, Some, None}
use Rattle.fab_language.specs.Heaps.{touched}
use Rattle.fab_nested.specs.Nested.{versions_of}
use Rattle.fab_stack.specs.Points.{point_before}
use Rattle.fab_eval.specs.declared.found.At.{At}
use Rattle.fab_eval.specs.declared.found.Found.{Found}
use Rattle.fab_eval.specs.declared.job.Job.{Job}
use Rattle.fab_eval.specs.declared.job.Outcome.{Outcome}
use Rattle.fab_eval.specs.declared.job.Outcome.TheVariants.{Need, Ended, Failed, Stopped}
use Rattle.fab_eval.specs.Lefts.{IsLeftOf}
use Rattle.fab_eval.specs.Outcomes.{meant_of}
use Rattle.fab_eval.specs.Settles.{Comes}

-- no object is needed
abbrev pub IsOver : Outcome → Type 0
IsOver (Need site o) = ⊥
IsOver (Ended v writes creates) = Unit {0}
IsOver Failed = Unit {0}
IsOver (Stopped stop) = Unit {0}

-- what is kept of a job where it lacks an object is what is left of it, before what lacks it
pub record IsKept (job : Job) (at : At) : Type 0 where
  pub rest : IsLeftOf job at.first.now at.stack.items (point_before at.fuel at.pairs at.state)
  pub objects : at.objects ≡ length (touched (take at.pairs at.state.state.touches))

-- nothing is left of a job that is over; of one that needs an object, this is kept
abbrev pub Rests : Job → Outcome → Option At → Type 0
Rests job outcome None = IsOver outcome
Rests job outcome (Some at) = (outcome ≡ Need at.site at.oid) × IsKept job at

-- this is what a job comes to, and what is left of it
pub record IsFound (job : Job) (found : Found) : Type 0 where
  pub comes : Comes (versions_of job.answers) (meant_of job) found.outcome found.touches found.downs
  pub rests : Rests job found.outcome found.at
