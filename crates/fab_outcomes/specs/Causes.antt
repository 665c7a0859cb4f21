-- Why requests end as they do: of each outcome the event of the run that is its cause.
--
-- An event counts where it stands whole: it is done, or cut with all bytes of its record kept. What a worker does in it is the
-- machine's own act, over the world behind the moves before it.
use Rattle.std.specs.Prelude.{◌≡◌, ◌⊎◌, ◌↔◌, ℕ, suc, ◌<◌, Bool, true, false, not, ◌&&◌, ◌||◌, ◌==◌, IsTrue, IsFalse, if◌then◌else◌}
use Rattle.std.specs.Prelude.{List, [], ◌∷◌, ◌++◌, Option, Some, None}
use Rattle.std.specs.List.{list_any}
use Rattle.fab_base.specs.declared.object.Object.{Object}
use Rattle.fab_base.specs.declared.object.Oid.{Oid}
use Rattle.fab_base.specs.declared.object.Tid.{Tid}
use Rattle.fab_base.specs.declared.object.Value.{Value}
use Rattle.fab_base.specs.declared.message.Answer.{Answer}
use Rattle.fab_base.specs.declared.message.Answer.TheVariants.{Yes}
use Rattle.fab_base.specs.declared.message.Message.{Message}
use Rattle.fab_base.specs.declared.message.Message.TheVariants as m
use Rattle.fab_base.specs.declared.message.Why.TheVariants as why
use Rattle.fab_base.specs.declared.entry.Entry.TheVariants as e
use Rattle.fab_language.specs.declared.ending.Ending.{Ending}
use Rattle.fab_language.specs.declared.ending.Ending.TheVariants as endings
use Rattle.fab_net.specs.declared.event.Inner.{Inner}
use Rattle.fab_net.specs.declared.event.Inner.TheVariants as i
use Rattle.fab_net.specs.declared.outcome.Denial.TheVariants.{Rights as NoRights, IllFormed}
use Rattle.fab_net.specs.declared.outcome.ReqOutcome.{ReqOutcome}
use Rattle.fab_net.specs.declared.outcome.ReqOutcome.TheVariants.{Committed, Failed, Conflict, Silent, Denied, Stopped, NodeDown, Unfinished}
use Rattle.fab_rights.specs.Computed.{is_store, is_worker, suits}
use Rattle.fab_world.specs.Machine.{Setting, World, Move, Form, Does, Cuts, Fails, form_of, node_of, at_start, kept, meant, parts, act, front_of, is_whole}
use Rattle.fab_world.specs.Machine.{outcome, step}
use Rattle.fab_world.specs.Serial.{IsRun, world_of}
use Rattle.fab_world.specs.Workers.{request_of, awaits_object, awaits_vote, is_made_before}

-- ---- marks, and recoveries

-- a journal call of this node failed in the move
abbrev pub fails : ℕ → Form → Bool
fails n (Fails keep e) = node_of e == n
fails n _ = false

-- a journal call of this node failed in one of the moves
abbrev pub has_failed : ℕ → List Move → Bool
has_failed n moves = list_any (λ move. fails n (form_of move)) moves

-- the node comes back in the move
abbrev pub recovers : ℕ → Form → Bool
recovers n (Does (i.Recover m)) = m == n
recovers n _ = false

-- a vote that isn't Yes
abbrev pub is_no : Answer → Bool
is_no Yes = false
is_no _ = true

-- ---- outcomes that stay

abbrev pub is_final : ReqOutcome → Bool
is_final NodeDown = false
is_final Unfinished = false
is_final _ = true

module _ (S : Setting) where
  -- the event of a move, where it stands whole
  abbrev pub whole_event : World → Form → Option Inner
  whole_event w (Does e) = Some e
  whole_event w (Cuts keep e) = if is_whole S w (Cuts keep e) then Some e else None
  whole_event w _ = None

  -- ---- tries in a row

  -- a message of store s ends the try that worker n is at: it votes No on what is prepared, or what is fetched isn't there
  abbrev pub refuses : World → ℕ → ℕ → Message → Bool
  refuses w n s (m.Vote t answer) =
      awaits_vote S.rights S.cache n (kept S w n) s t (w.node n).attempt (parts S w n) (w.node n).attempt.phase && is_no answer
  refuses w n s (m.Deny t o why.Missing) = awaits_object S.rights S.cache n (kept S w n) s t o (w.node n).attempt (w.node n).attempt.phase
  refuses w n s _ = false

  abbrev pub refuses_if : World → ℕ → ℕ → Option Message → Bool
  refuses_if w n s None = false
  refuses_if w n s (Some message) = refuses w n s message

  -- in this event a try of worker n ends so
  abbrev pub loses_try : World → ℕ → Inner → Bool
  loses_try w n (i.Deliver s b) = (b == n) && (is_store S.rights s && refuses_if w n s (S.read (front_of (w.queue s n))))
  loses_try w n _ = false

  abbrev pub loses : World → ℕ → Form → Bool
  loses w n (Does e) = loses_try w n e
  loses w n _ = false

  -- behind the move the worker is at another request, or it came back in it
  abbrev pub starts_over : World → ℕ → Move → Bool
  starts_over w n move = recovers n (form_of move) || not (request_of (kept S (step S w move) n) == request_of (kept S w n))

  -- so many tries were lost before; behind a move that starts over there are none, and behind one in which a try is lost one more
  abbrev pub tries_from : ℕ → ℕ → World → List Move → ℕ
  tries_from n count w [] = count
  tries_from n count w (move ∷ moves) =
      tries_from n (if starts_over w n move then 0 else (if loses w n (form_of move) then suc count else count)) (step S w move) moves

  -- the tries of worker n in a row that were lost in these moves: since its request began, and since it last came back
  abbrev pub lost_tries : ℕ → List Move → ℕ
  lost_tries n moves = tries_from n 0 (at_start S) moves

  -- ---- what happens in an event

  -- worker n writes a record that its request r is decided, by attempt t and with this value
  pub record Decides (w : World) (n r : ℕ) (t : Tid) (value : Option Value) (event : Inner) : Type 0 where
    pub stores : List ℕ
    pub record_is : (act S w event).entry ≡ Some (e.Decided t r value stores)

  -- worker n evaluates its request over the answers that it has, and comes to this end
  pub record ComesTo (w : World) (n : ℕ) (ending : Ending) (event : Inner) : Type 0 where
    pub is : event ≡ i.Resume n
    pub end : (meant S w n).ending ≡ ending

  -- a message of store s reaches worker n
  pub record Hears (w : World) (n s : ℕ) (message : Message) (event : Inner) : Type 0 where
    pub is : event ≡ i.Deliver s n
    pub store : IsTrue (is_store S.rights s)
    pub read : S.read (front_of (w.queue s n)) ≡ Some message

  -- worker n waits for this object, which it has fetched from store s in its attempt t
  abbrev pub Fetches : World → ℕ → ℕ → Tid → Oid → Type 0
  Fetches w n s t o = IsTrue (awaits_object S.rights S.cache n (kept S w n) s t o (w.node n).attempt (w.node n).attempt.phase)

  -- an object that worker n won't have under this name: of another class or shape, at no version, or made by itself in this attempt or later
  abbrev pub IsIll : World → ℕ → Oid → ℕ → Object → Type 0
  IsIll w n o version x =
      IsFalse (suits S.rights o x) ⊎ ((version ≡ 0) ⊎ IsFalse (is_made_before S.rights S.cache n (kept S w n) o (w.node n).attempt))

  -- store s says that worker n may not have the object that it fetches
  pub record Forbids (w : World) (n s : ℕ) (event : Inner) : Type 0 where
    pub tid : Tid
    pub name : Oid
    pub heard : Hears w n s (m.Deny tid name why.Rights) event
    pub current : Fetches w n s tid name

  -- store s answers an ill-formed object to what worker n fetches
  pub record Misleads (w : World) (n s : ℕ) (event : Inner) : Type 0 where
    pub tid : Tid
    pub name : Oid
    pub version : ℕ
    pub object : Object
    pub heard : Hears w n s (m.Object tid name version object) event
    pub current : Fetches w n s tid name
    pub ill : IsIll w n name version object

  -- ---- causes

  -- what the event is that gives request r of worker n this outcome; so many tries were lost in a row before it
  abbrev pub Gives : World → ℕ → ℕ → ℕ → ReqOutcome → Inner → Type 0
  Gives w n r lost (Committed t value) event = Decides w n r t value event
  Gives w n r lost Failed event = ComesTo w n endings.Failed event
  Gives w n r lost (Stopped limit) event = ComesTo w n (endings.Stopped limit) event
  Gives w n r lost (Silent s) event = event ≡ i.Idle n s
  Gives w n r lost (Denied s NoRights) event = Forbids w n s event
  Gives w n r lost (Denied s IllFormed) event = Misleads w n s event
  Gives w n r lost Conflict event = IsTrue (loses_try w n event) × (suc lost ≡ 8)
  Gives w n r lost NodeDown event = ⊥
  Gives w n r lost Unfinished event = ⊥

  -- In the run is an event of worker n that stands whole, while its request r is at work, and gives it this outcome.
  pub record IsGiven (moves : List Move) (n r : ℕ) (outcome : ReqOutcome) : Type 0 where
    pub before : List Move
    pub move : Move
    pub more : List Move
    pub event : Inner
    pub is : moves ≡ before ++ move ∷ more
    pub whole : whole_event (world_of S before) (form_of move) ≡ Some event
    pub node : node_of event ≡ n
    pub request : request_of (kept S (world_of S before) n) ≡ r
    pub gives : Gives (world_of S before) n r (lost_tries n before) outcome event

  abbrev pub NoneIsGiven : List Move → ℕ → ℕ → Type 0
  NoneIsGiven moves n r = (outcome : ReqOutcome) → IsGiven moves n r outcome → ⊥

  -- The cause of an outcome: an event that gives it. Where no event gives any, the worker has failed for good, or the request isn't finished.
  abbrev pub IsCaused : List Move → ℕ → ℕ → ReqOutcome → Type 0
  IsCaused moves n r NodeDown = IsTrue (has_failed n moves) × NoneIsGiven moves n r
  IsCaused moves n r Unfinished = IsFalse (has_failed n moves) × NoneIsGiven moves n r
  IsCaused moves n r outcome = IsGiven moves n r outcome

  -- ---- the laws

  -- each outcome of each request of a worker has its cause, and each cause its outcome
  abbrev pub HaveCauses : Type 0
  HaveCauses = (moves : List Move) (n r : ℕ) (o : ReqOutcome) → IsRun S moves → IsTrue (is_worker S.rights n)
      → (outcome S (world_of S moves) n r ≡ o) ↔ IsCaused moves n r o

  -- a request has one outcome: two causes give the same
  abbrev pub AreOne : Type 0
  AreOne = (moves : List Move) (n r : ℕ) (o p : ReqOutcome) → IsRun S moves → IsTrue (is_worker S.rights n)
      → IsCaused moves n r o → IsCaused moves n r p → o ≡ p

  -- an outcome stays once it is there
  abbrev pub Stay : Type 0
  Stay = (moves more : List Move) (n r : ℕ) → IsTrue (is_final (outcome S (world_of S moves) n r))
      → outcome S (world_of S (moves ++ more)) n r ≡ outcome S (world_of S moves) n r

  -- no request beyond a worker's session has one
  abbrev pub AreOfSessions : Type 0
  AreOfSessions = (moves : List Move) (n r : ℕ) → IsRun S moves → IsTrue (is_worker S.rights n) → S.requests n < r
      → IsFalse (is_final (outcome S (world_of S moves) n r))

  -- the counter of a worker that is up is the number of tries that were lost in a row
  abbrev pub CountTries : Type 0
  CountTries = (moves : List Move) (n : ℕ) → IsRun S moves → IsTrue (is_worker S.rights n) → ((world_of S moves).node n).up ≡ true
      → ((world_of S moves).node n).attempt.tries ≡ lost_tries n moves

  -- no store that isn't hostile answers an ill-formed object
  abbrev pub StoresAreWellFormed : Type 0
  StoresAreWellFormed = (moves : List Move) (n r s : ℕ) → IsRun S moves → IsTrue (is_worker S.rights n) → S.hostile s ≡ false
      → outcome S (world_of S moves) n r ≡ Denied s IllFormed → ⊥
