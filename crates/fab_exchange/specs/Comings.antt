-- What the calls by which an event comes ask for, and what they tell.
use Rattle.std.specs.Prelude.{◌≡◌, ◌<◌, ℕ, IsTrue, Option}
use Rattle.fab_eval.specs.declared.done.Done.{Done}
use Rattle.fab_net.specs.declared.event.Event.{Event}
use Rattle.fab_net.specs.declared.event.Inner.{Inner}
use Rattle.fab_world.specs.Machine.{Enabled, act, form_of, may, node_of}
use Rattle.fab_world.specs.Serial.{attempts}
use Rattle.fab_world.specs.Crashing.{goes_on, may_follow}
use Rattle.fab_settings.specs.Settings.{lines_of}
use Rattle.fab_core.specs.Cores.{CoreModel, EventHasDone, InnerHasDone, setting, unmarked, world}
use Rattle.fab_core.specs.Telling.{OnlyGainRoom, length_in}
use Rattle.fab_exchange.specs.Dues.{form_at}
use Rattle.fab_exchange.specs.Turns.{HasCome, IsOf}

-- ---- what is asked for: that it may come, where attempts are few; may follow in a run that keeps the crash lines; or goes on

pub record MayCome (core : CoreModel) (event : Event) (over : Option Done) : Type 0 where
  pub enabled : Enabled (setting core.given) (world core) (unmarked event)
  pub done : EventHasDone core.given (world core) event over
  pub few : attempts core.moves < 4000000000

pub record MayFollow (core : CoreModel) (event : Event) (over : Option Done) : Type 0 where
  pub follows : IsTrue (may_follow (setting core.given) (lines_of core.given.program) (world core) core.moves (form_of (unmarked event)))
  pub done : EventHasDone core.given (world core) event over

pub record MayGoOn (core : CoreModel) (inner : Inner) (over : Option Done) : Type 0 where
  pub goes : IsTrue (goes_on (setting core.given) (lines_of core.given.program) (world core) core.moves inner)
  pub done : InnerHasDone core.given (world core) inner over

-- the length of its record may be asked for
pub record MayBeMeasured (core : CoreModel) (inner : Inner) (over : Option Done) : Type 0 where
  pub may : IsTrue (may (setting core.given) (world core) inner)
  pub done : InnerHasDone core.given (world core) inner over
  pub few : attempts core.moves < 4000000000

-- ---- what is told

-- how long its record is, if it writes one
pub record Measures (core : CoreModel) (inner : Inner) (told : Option ℕ) : Type 0 where
  pub length : told ≡ length_in (act (setting core.given) (world core) inner)

-- but for more room in its journals it is as before
pub record IsAsBefore (old new : CoreModel) : Type 0 where
  pub given : new.given ≡ old.given
  pub moves : new.moves ≡ old.moves
  pub journals : OnlyGainRoom old.journals new.journals

-- the event of a node, as the lines have it
pub record IsFormed (core : CoreModel) (inner : Inner) (over : Option Done) (event : Event) : Type 0 where
  pub is : IsOf inner event
  pub form : form_of (unmarked event) ≡ form_at core.given core.moves inner
  pub done : EventHasDone core.given (world core) event over

-- an event of the form that the lines give this one came
pub record HasComeAs (inner : Inner) (old new : CoreModel) : Type 0 where
  pub event : Event
  pub is : IsOf inner event
  pub form : form_of (unmarked event) ≡ form_at old.given old.moves inner
  pub came : HasCome (node_of inner) event old new
