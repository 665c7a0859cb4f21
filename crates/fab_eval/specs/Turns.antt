-- A job so far.
use Rattle.std.specs.Prelude.{◌≡◌}
use Rattle.fab_eval.specs.declared.job.Job.{Job}
use Rattle.fab_eval.specs.declared.job.Outcome.TheVariants.{Need}
use Rattle.fab_eval.specs.declared.turn.Turn.{Turn}
use Rattle.fab_eval.specs.declared.turn.Turn.TheVariants.{Done, Paused}
use Rattle.fab_eval.specs.Founds.{IsOver}
use Rattle.fab_eval.specs.Outcomes.{outcome_of}

-- the job is done, and needs nothing; or it comes to the need of this object, and is paused
abbrev pub Turns : Job → Turn → Type 0
Turns job (Done d) = (d.job ≡ job) × IsOver d.outcome
Turns job (Paused p) = (p.job ≡ job) × (outcome_of job ≡ Need p.site p.oid)
