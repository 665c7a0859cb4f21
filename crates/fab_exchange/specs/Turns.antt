-- What the answers of an exchange tell.
use Rattle.std.specs.Prelude.{◌≡◌, ◌++◌, ◌∷◌, ℕ, Bool, true, false, IsTrue, IsFalse, List, [], Option}
use Rattle.std.specs.List.{IsDistinct, list_any}
use Rattle.fab_base.specs.Faults.{Rose}
use Rattle.fab_base.specs.FlatMap.{is_same}
use Rattle.fab_eval.specs.Attempts.{is_made_in}
use Rattle.fab_eval.specs.declared.done.Done.{Done}
use Rattle.fab_eval.specs.declared.job.Job.{Job}
use Rattle.fab_net.specs.declared.event.Event.{Event}
use Rattle.fab_net.specs.declared.event.Event.TheVariants as e
use Rattle.fab_net.specs.declared.event.Inner.{Inner}
use Rattle.fab_net.specs.declared.event.Inner.TheVariants as i
use Rattle.fab_protocol.specs.Versions.{names_of}
use Rattle.fab_world.specs.Machine.{World, Move, Form, Does, Cuts, Fails, Posts, Crashes, Never, form_of, node_of, may}
use Rattle.fab_world.specs.Crashing.{IsOver, is_due, may_follow, must_crash, target_in}
use Rattle.fab_world.specs.Serial.{IsWaiting}
use Rattle.fab_settings.specs.Settings.{lines_of}
use Rattle.fab_node.specs.Standing.{GivenModel, JournalModel}
use Rattle.fab_core.specs.Cores.{CoreModel, IsJobAt, setting, slot, unmarked, world, world_by}
use Rattle.fab_core.specs.Moved.{faults_in, move_by, sure_in}
use Rattle.fab_core.specs.Telling.{JournalsGain, is_at_work}
use Rattle.fab_core.specs.declared.applied.Applied.{Applied}
use Rattle.fab_core.specs.declared.applied.Applied.TheVariants as a
use Rattle.fab_exchange.specs.declared.turn.Turn.{Turn}
use Rattle.fab_exchange.specs.declared.turn.Turn.TheVariants as t
use Rattle.fab_exchange.specs.declared.turn.Given.{Given}
use Rattle.fab_exchange.specs.declared.turn.Given.TheVariants as given

-- the node that an event is of: a post is one of its target
abbrev pub node_with : World → Form → ℕ
node_with w (Does e) = node_of e
node_with w (Cuts keep e) = node_of e
node_with w (Fails keep e) = node_of e
node_with w (Posts h) = target_in (w.posts h)
node_with w (Crashes n) = n
node_with w Never = 0

-- it is due behind these moves
abbrev pub due : GivenModel → List Move → Form → Bool
due g moves form = is_due (setting g) (lines_of g.program) (world_by g moves) moves form

-- it may follow these moves in a run that keeps the crash lines
abbrev pub follows : GivenModel → List Move → Form → Bool
follows g moves form = may_follow (setting g) (lines_of g.program) (world_by g moves) moves form

-- none of this node is due
abbrev pub NoneDue : GivenModel → List Move → ℕ → Type 0
NoneDue g moves n = (form : Form) → node_with (world_by g moves) form ≡ n → IsFalse (due g moves form)

-- an event is due
pub record IsSomeDue (g : GivenModel) (moves : List Move) : Type 0 where
  pub form : Form
  pub due : IsTrue (due g moves form)

-- nothing is due at any node
abbrev pub AreOver : GivenModel → List Move → Type 0
AreOver g moves = IsOver (setting g) (lines_of g.program) moves

-- what an evaluation came to is taken in it
abbrev pub resumes : Inner → Bool
resumes (i.Begin n) = false
resumes (i.Resume n) = true
resumes (i.Deliver a b) = false
resumes (i.Idle n s) = false
resumes (i.Recover n) = false

-- the same of an event that is done, cut or failed
abbrev pub is_resume : Form → Bool
is_resume (Does e) = resumes e
is_resume (Cuts keep e) = resumes e
is_resume (Fails keep e) = resumes e
is_resume (Posts h) = false
is_resume (Crashes n) = false
is_resume Never = false

-- it is what the worker has to evaluate
pub record IsCurrent (g : GivenModel) (moves : List Move) (n : ℕ) (job : Job) : Type 0 where
  pub at_work : IsTrue (is_at_work g (world_by g moves) n)
  pub job_is : IsJobAt g (world_by g moves) n job

-- ---- journals

-- the same journals never fail
abbrev pub AreAsSure : List (Option JournalModel) → List (Option JournalModel) → Type 0
AreAsSure old new = (n : ℕ) → sure_in (slot new n) ≡ sure_in (slot old n)

-- a journal failed
abbrev pub IsFailed : Applied → Type 0
IsFailed a.Whole = ⊥
IsFailed a.Cut = Unit {0}

-- But for more room the journals of other nodes are as they were. The count of this node's rises exactly where it failed, which one that never
-- fails doesn't.
pub record ChangeAt (n : ℕ) (Fails : Type 0) (old new : List (Option JournalModel)) : Type 0 where
  pub others : (m : ℕ) → (m ≡ n → ⊥) → JournalsGain (slot old m) (slot new m)
  pub risen : Fails → Rose (faults_in (slot old n)) (faults_in (slot new n))
  pub same : (Fails → ⊥) → faults_in (slot new n) ≡ faults_in (slot old n)
  pub sure : sure_in (slot new n) ≡ sure_in (slot old n)
  pub never : IsTrue (sure_in (slot old n)) → Fails → ⊥

-- ---- next

-- An event of this node came, with a mark exactly where its journal failed in it, and so it may follow.
pub record HasCome (n : ℕ) (event : Event) (old new : CoreModel) : Type 0 where
  pub applied : Applied
  pub follows : IsTrue (follows old.given old.moves (form_of (move_by applied event)))
  pub moves : new.moves ≡ old.moves ++ move_by applied event ∷ []
  pub journals : ChangeAt n (IsFailed applied) old.journals new.journals

-- no event came
pub record NoneCame (n : ℕ) (old new : CoreModel) : Type 0 where
  pub moves : new.moves ≡ old.moves
  pub journals : ChangeAt n ⊥ old.journals new.journals

-- a due event of this node came, and what an evaluation came to isn't taken so
pub record Acts (n : ℕ) (old new : CoreModel) : Type 0 where
  pub event : Event
  pub due : IsTrue (due old.given old.moves (form_of (unmarked event)))
  pub node : node_with (world old) (form_of (unmarked event)) ≡ n
  pub came : HasCome n event old new
  pub other : IsFalse (is_resume (form_of (move_by came.applied event)))

-- an evaluation is asked for whose end is due, the one that this worker has to make
pub record Asks (g : GivenModel) (n : ℕ) (old new : List Move) (job : Job) : Type 0 where
  pub comes : IsTrue (may (setting g) (world_by g old) (i.Resume n))
  pub calm : must_crash (setting g) (lines_of g.program) (world_by g old) old n ≡ false
  pub current : IsCurrent g old n job
  pub distinct : IsDistinct is_same (names_of job.answers)
  pub made_before : list_any (λ a. is_made_in job.tid a.0) job.answers ≡ false
  pub moves : new ≡ old

-- none of this node is due, and one of another is
pub record Waits (g : GivenModel) (n : ℕ) (old new : List Move) : Type 0 where
  pub none : NoneDue g old n
  pub some : IsSomeDue g old
  pub moves : new ≡ old

-- nothing is due at any node, and no worker waits that isn't hostile: each of its requests has an outcome, or it has failed for good
pub record Ends (g : GivenModel) (old new : List Move) : Type 0 where
  pub over : AreOver g old
  pub left : (n : ℕ) → IsWaiting (setting g) (world_by g old) n → ⊥
  pub moves : new ≡ old

abbrev pub Turns : ℕ → CoreModel → CoreModel → Turn → Type 0
Turns n old new t.Acted = Acts n old new
Turns n old new (t.Evaluate job) = Asks old.given n old.moves new.moves job
Turns n old new t.Wait = Waits old.given n old.moves new.moves
Turns n old new t.Over = Ends old.given old.moves new.moves

-- it tells of no event
abbrev pub IsStill : Turn → Type 0
IsStill t.Acted = ⊥
IsStill (t.Evaluate job) = Unit {0}
IsStill t.Wait = Unit {0}
IsStill t.Over = Unit {0}

-- ---- give

-- it is this event of a node, done or cut
abbrev pub IsOf : Inner → Event → Type 0
IsOf inner (e.Begin n) = i.Begin n ≡ inner
IsOf inner (e.Resume n) = i.Resume n ≡ inner
IsOf inner (e.Deliver a b) = i.Deliver a b ≡ inner
IsOf inner (e.Idle n s) = i.Idle n s ≡ inner
IsOf inner (e.Recover n) = i.Recover n ≡ inner
IsOf inner (e.CrashIn keep x) = x ≡ inner
IsOf inner (e.Post h) = ⊥
IsOf inner (e.Crash n) = ⊥

-- it was taken: the worker goes on, or a line cuts it there
pub record Takes (n : ℕ) (done : Done) (old new : CoreModel) : Type 0 where
  pub current : IsCurrent old.given old.moves n done.job
  pub event : Event
  pub is : IsOf (i.Resume n) event
  pub may : IsTrue (follows old.given old.moves (form_of (unmarked event)))
  pub came : HasCome n event old new

-- it isn't what the worker has to evaluate, and no event came
pub record Leaves (g : GivenModel) (n : ℕ) (done : Done) (old new : List Move) : Type 0 where
  pub stale : IsCurrent g old n done.job → ⊥
  pub moves : new ≡ old

abbrev pub Gives : ℕ → Done → CoreModel → CoreModel → Given → Type 0
Gives n done old new given.Taken = Takes n done old new
Gives n done old new given.Stale = Leaves old.given n done old.moves new.moves

abbrev pub IsStale : Given → Type 0
IsStale given.Taken = ⊥
IsStale given.Stale = Unit {0}
