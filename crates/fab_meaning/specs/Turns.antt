-- A job so far.
use Rattle.std.specs.Prelude.{◌≡◌, false, length, take, Option, Result}
use Rattle.fab_base.specs.declared.object.Value.{Value}
use Rattle.fab_language.specs.declared.ending.Ending.{Ending}
use Rattle.fab_language.specs.declared.ending.Ending.TheVariants.{Ended, Failed, Missing, Stopped}
use Rattle.fab_language.specs.Heaps.{touched}
use Rattle.fab_language.specs.Meaning.{meant_at}
use Rattle.fab_stack.specs.Attempts.{is_made_in}
use Rattle.fab_stack.specs.declared.halt.End.{End}
use Rattle.fab_stack.specs.Points.{Point, point_before}
use Rattle.fab_meaning.specs.declared.paused.Paused.{Paused}
use Rattle.fab_meaning.specs.declared.paused.Turn.{Turn}
use Rattle.fab_meaning.specs.declared.paused.Turn.TheVariants as turns
use Rattle.fab_meaning.specs.Ends.{IsMeant, ending_of}
use Rattle.fab_meaning.specs.Jobs.{Job, meant_of}
use Rattle.fab_meaning.specs.Lefts.{IsLeftOf}

-- no object is missing
abbrev pub IsOver : Ending → Type 0
IsOver (Ended v) = Unit {0}
IsOver Failed = Unit {0}
IsOver (Stopped stop) = Unit {0}
IsOver (Missing site o) = ⊥

-- the job lacks this object at this site, and what is kept is what is left of it, before what lacks it
pub record IsPausedAt (job : Job) (p : Paused) : Type 0 where
  pub program : p.program.now ≡ job.program
  pub seen : p.seen ≡ job.seen
  pub lacks : (meant_of job).ending ≡ Missing p.site p.oid
  pub rest : IsLeftOf job p.first.now p.stack.items (point_before p.fuel p.pairs p.state)
  pub objects : p.objects ≡ length (touched (take p.pairs p.state.state.touches))

-- some job is paused so, and its attempt doesn't make what it lacks
pub record Waits (p : Paused) : Type 0 where
  pub job : Job
  pub paused : IsPausedAt job p
  pub unmade : is_made_in job.tid p.oid ≡ false

-- this is what a run came to that ended so at a point
abbrev pub IsDone : Result (Option Value) End → Point → Turn → Type 0
IsDone ended p (turns.Done m) = IsMeant m (meant_at (ending_of ended) p.state)
IsDone ended p (turns.Paused q) = ⊥

-- it is over, and this is what it means; or it is paused
abbrev pub Turns : Job → Turn → Type 0
Turns job (turns.Done m) = IsMeant m (meant_of job) × IsOver m.ending
Turns job (turns.Paused p) = IsPausedAt job p
