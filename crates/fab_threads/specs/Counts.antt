-- What counts as an event, and what a turn asks of who takes it.
use Rattle.std.specs.Prelude.{◌≡◌, ℕ, Result, Ok, Err}
use Rattle.std.specs.List.{IsDistinct, list_any}
use Rattle.std.specs.Prelude.{false}
use Rattle.fab_base.specs.FlatMap.{is_same}
use Rattle.fab_eval.specs.Attempts.{is_made_in}
use Rattle.fab_eval.specs.declared.job.Job.{Job}
use Rattle.fab_protocol.specs.Versions.{names_of}
use Rattle.fab_tree.specs.declared.resolved.Resolved.{Resolved}
use Rattle.fab_exchange.specs.declared.turn.Turn.{Turn}
use Rattle.fab_exchange.specs.declared.turn.Turn.TheVariants as t
use Rattle.fab_exchange.specs.declared.turn.Given.{Given}
use Rattle.fab_exchange.specs.declared.turn.Given.TheVariants as given

abbrev pub acted_turn : Turn → ℕ
acted_turn t.Acted = 1
acted_turn (t.Evaluate job) = 0
acted_turn t.Wait = 0
acted_turn t.Over = 0

abbrev pub acted : {E : Type 0} → Result Turn E → ℕ
acted (Ok turn) = acted_turn turn
acted (Err e) = 0

abbrev pub taken_given : Given → ℕ
taken_given given.Taken = 1
taken_given given.Stale = 0

abbrev pub taken : {E : Type 0} → Result Given E → ℕ
taken (Ok given) = taken_given given
taken (Err e) = 0

-- it is of this program, and as an evaluation needs it
pub record IsReady (program : Resolved) (job : Job) : Type 0 where
  pub program_is : job.program.value ≡ program
  pub distinct : IsDistinct is_same (names_of job.answers)
  pub made_before : list_any (λ a. is_made_in job.tid a.0) job.answers ≡ false

abbrev pub JobIsReady : Resolved → Turn → Type 0
JobIsReady program t.Acted = Unit {0}
JobIsReady program (t.Evaluate job) = IsReady program job
JobIsReady program t.Wait = Unit {0}
JobIsReady program t.Over = Unit {0}

-- where all is over, this holds
abbrev pub OnOver : Turn → Type 0 → Type 0
OnOver t.Acted holds = Unit {0}
OnOver (t.Evaluate job) holds = Unit {0}
OnOver t.Wait holds = Unit {0}
OnOver t.Over holds = holds
