-- A worker: what lasts of it, its attempt, and what it does at each event.
use Rattle.std.specs.Prelude.{◌≡◌, ℕ, suc, ◌≤◌, IsTrue, Bool, true, false, not, ◌&&◌, ◌||◌, ◌==◌, nat_lt}
use Rattle.std.specs.Prelude.{if◌then◌else◌, List, [], ◌∷◌, ◌++◌, map, length, drop, Option, Some, None, fold, slice_get, unwrap_or}
use Rattle.std.specs.List.{filter, flat_map, list_any, range_with_len, AllByRecursion}
use Rattle.fab_base.specs.declared.object.Oid.{Oid}
use Rattle.fab_base.specs.declared.object.Object.{Object}
use Rattle.fab_base.specs.declared.object.Tid.{Tid}
use Rattle.fab_base.specs.declared.object.Value.{Value}
use Rattle.fab_base.specs.declared.object.Stop.TheVariants as stop
use Rattle.fab_base.specs.declared.message.Why.{Why}
use Rattle.fab_base.specs.declared.message.Why.TheVariants as why
use Rattle.fab_base.specs.declared.message.Answer.{Answer}
use Rattle.fab_base.specs.declared.message.Answer.TheVariants.{Yes}
use Rattle.fab_base.specs.declared.message.Message.{Message}
use Rattle.fab_base.specs.declared.message.Message.TheVariants as m
use Rattle.fab_base.specs.declared.entry.Entry.{Entry}
use Rattle.fab_base.specs.declared.entry.Entry.TheVariants as e
use Rattle.fab_base.specs.FlatMap.{is_same}
use Rattle.fab_base.specs.JournalSpelling.{AreStores, IsOutcome}
use Rattle.fab_base.specs.Tids.{is_above}
use Rattle.fab_language.specs.declared.ending.Ending.{Ending}
use Rattle.fab_language.specs.declared.ending.Ending.TheVariants as endings
use Rattle.fab_language.specs.Meaning.{Meant}
use Rattle.fab_net.specs.declared.outcome.Denial.TheVariants.{Rights as NoRights, IllFormed}
use Rattle.fab_net.specs.declared.outcome.ReqOutcome.{ReqOutcome}
use Rattle.fab_net.specs.declared.outcome.ReqOutcome.TheVariants.{Committed, Failed, Conflict, Silent, Denied, Stopped, Unfinished}
use Rattle.fab_net.specs.declared.note.Note.{Note}
use Rattle.fab_net.specs.declared.note.Note.TheVariants as note
use Rattle.fab_rights.specs.declared.rights.Rights.{Rights}
use Rattle.fab_rights.specs.Computed.{is_store, stores_in, suits}
use Rattle.fab_protocol.specs.Versions.{Row, Rows, version_of, is_tid, maker_of}
use Rattle.fab_protocol.specs.declared.parts.Decision.{Decision}
use Rattle.fab_protocol.specs.declared.parts.Parts.{Parts}
use Rattle.fab_protocol.specs.Parts.{stores_of, items_at, puts_of}
use Rattle.fab_protocol.specs.Caches.{cached, cached_row}
use Rattle.fab_world.specs.Attempts.{parts_of}

-- a number is among these
abbrev pub is_in : ℕ → List ℕ → Bool
is_in n ns = list_any (λ m. m == n) ns

-- ---- what lasts: the fold of the records

-- the boot, which is 1 and one more per Boot record, whatever its number; the decisions; the outcomes of requests 1, 2, ..
pub record Kept : Type 0 where
  pub boot : ℕ
  pub decided : List Decision
  pub outcomes : List ReqOutcome

-- the request that is next, or at work
abbrev pub request_of : Kept → ℕ
request_of kept = suc (length kept.outcomes)

-- the outcomes that a Closed record numbers, at the node that it names; number 0 is none
abbrev pub closings : ℕ → List ReqOutcome
closings n =
    Unfinished ∷ Failed ∷ Conflict ∷ Silent n ∷ Denied n NoRights ∷ Denied n IllFormed
    ∷ Stopped stop.Fuel ∷ Stopped stop.Depth ∷ Stopped stop.Reads ∷ Stopped stop.Writes ∷ []

abbrev pub worker_keeps : Entry → Kept → Kept
worker_keeps (e.Decided t request value stores) kept = record kept {
  decided = kept.decided ++ record { tid = t; request = request; stores = stores; value = value } ∷ [];
  outcomes = kept.outcomes ++ Committed t value ∷ [];
}
worker_keeps (e.Closed request code node) kept = record kept { outcomes = kept.outcomes ++ unwrap_or (slice_get (closings node) code) Unfinished ∷ [] }
worker_keeps (e.Boot b) kept = record kept { boot = suc kept.boot }
worker_keeps _ kept = kept

unfoldable pub kept_of : List Entry → Kept
kept_of entries = fold (λ kept entry. worker_keeps entry kept) (record { boot = 1; decided = []; outcomes = [] }) entries

-- the Closed record of an outcome, which names no node but a silent or denying one
abbrev pub closed : ℕ → ReqOutcome → Entry
closed request Failed = e.Closed request 1 65535
closed request Conflict = e.Closed request 2 65535
closed request (Silent n) = e.Closed request 3 n
closed request (Denied n NoRights) = e.Closed request 4 n
closed request (Denied n IllFormed) = e.Closed request 5 n
closed request (Stopped stop.Fuel) = e.Closed request 6 65535
closed request (Stopped stop.Depth) = e.Closed request 7 65535
closed request (Stopped stop.Reads) = e.Closed request 8 65535
closed request (Stopped stop.Writes) = e.Closed request 9 65535
-- the others have no such record
closed request _ = e.Closed request 0 65535

-- What recovery asks of a record, of a worker whose session has so many requests: that requests end in turn, one record
-- each, and that a decision lists its participants as a record does. Whose attempt it decides, of which nodes, and which
-- number a boot has, it doesn't ask.
abbrev pub WorkerCanKeep : ℕ → Entry → Kept → Type 0
WorkerCanKeep requests (e.Decided t request value stores) kept = (request ≡ request_of kept) × (request ≤ requests) × AreStores stores
WorkerCanKeep requests (e.Closed request code node) kept = (request ≡ request_of kept) × (request ≤ requests) × IsOutcome code node
WorkerCanKeep requests (e.Boot b) kept = Unit {0}
WorkerCanKeep requests _ kept = ⊥

-- ---- the attempt: what a crash drops

-- preparing names the participants that haven't voted
pub data Phase : Type 0 where
  Idle : Phase
  Evaluating : Phase
  Fetching : Oid → Phase
  Preparing : List ℕ → Phase

-- its number in this boot; the tries of this request that ended; the answers; the caches, by store; how many touches and downgrades were noted
pub record Attempt : Type 0 where
  pub number : ℕ
  pub tries : ℕ
  pub phase : Phase
  pub answers : Rows
  pub caches : List Rows
  pub told : ℕ × ℕ

abbrev pub fresh : Attempt
fresh = record { number = 0; tries = 0; phase = Idle; answers = []; caches = map (λ s. []) (range_with_len 0 64); told = (0, 0) }

-- what an evaluation touched and downgraded since the last one
abbrev pub new_touches : Attempt → Meant → List (ℕ × Oid × ℕ)
new_touches a meant = map (λ t. (t.0, t.1, version_of a.answers t.1)) (drop a.told.0 meant.touches)

abbrev pub new_downs : Attempt → Meant → List (ℕ × Value)
new_downs a meant = drop a.told.1 meant.downs

abbrev pub telling : Attempt → Meant → Attempt
telling a meant = record a { told = (length meant.touches, length meant.downs) }

-- ---- what becomes of an attempt

-- its end: nothing is left but the caches
abbrev pub over : List Rows → Attempt → Attempt
over caches a = record a { phase = Idle; answers = []; caches = caches; told = (0, 0) }

-- without a commit: the caches are emptied
abbrev pub dropped : Attempt → Attempt
dropped a = over (map (λ cache. []) a.caches) a

-- the next one
abbrev pub next : Attempt → Attempt
next a = record a { number = suc a.number; phase = Evaluating; answers = []; told = (0, 0) }

-- the participants that haven't voted
abbrev pub not_voted : Phase → List ℕ
not_voted (Preparing ls) = ls
not_voted _ = []

-- what a worker does: its record, its next attempt, what it sends to whom, in order, the notes
pub record Act : Type 0 where
  pub entry : Option Entry
  pub attempt : Attempt
  pub sends : List (ℕ × Message)
  pub notes : List Note

abbrev pub stays : Attempt → Act
stays a = record { entry = None; attempt = a; sends = []; notes = [] }

abbrev pub noting : List Note → Act → Act
noting notes act = record act { notes = notes ++ act.notes }

abbrev pub sending : List (ℕ × Message) → Act → Act
sending sends act = record act { sends = sends ++ act.sends }

abbrev pub to_all : List ℕ → Message → List (ℕ × Message)
to_all ss message = map (λ s. (s, message)) ss

abbrev pub tid_of : ℕ → Kept → Attempt → Tid
tid_of n kept a = record { worker = n; boot = kept.boot; number = a.number }

-- ---- events, at worker n, whose caches keep k objects each
module _ (rights : Rights) (k n : ℕ) (kept : Kept) where
  abbrev pub request : ℕ
  request = request_of kept

  abbrev pub tid : Attempt → Tid
  tid a = tid_of n kept a

  -- ---- ends of an attempt

  abbrev pub decides : Attempt → Parts → Act
  decides a parts = record {
    entry = Some (e.Decided (tid a) request parts.value (stores_of parts));
    attempt = record (over (cached k (puts_of a.answers parts) 0 a.caches) a) { tries = 0 };
    sends = to_all (stores_of parts) (m.Commit (tid a));
    notes = note.Decided (tid a) request true a.answers ∷ note.Closed request (Committed (tid a) parts.value) ∷ [];
  }

  abbrev pub closes : ReqOutcome → Attempt → Act
  closes outcome a = record {
    entry = Some (closed request outcome);
    attempt = record (dropped a) { tries = 0 };
    sends = [];
    notes = note.Closed request outcome ∷ [];
  }

  abbrev pub undecided : Attempt → List Note
  undecided a = note.Decided (tid a) request false a.answers ∷ []

  -- the store's answer, or its silence, ends the request
  abbrev pub gives : ReqOutcome → Attempt → Act
  gives outcome a = noting (undecided a) (closes outcome a)

  -- the eighth try that ends so ends the request
  abbrev pub try_ends : Attempt → Act
  try_ends a =
      noting (undecided a) (if suc a.tries == 8 then closes Conflict a else stays (record (dropped a) { tries = suc a.tries }))

  -- ---- Begin

  abbrev pub begins : Attempt → Act
  begins a = noting (note.Begun (tid (next a)) request ∷ []) (stays (next a))

  -- ---- Resume

  abbrev pub needs : ℕ → Oid → Option Row → Attempt → Meant → Act
  needs site o (Some row) a meant =
      noting (note.Need (tid a) site o true (new_touches a meant) (new_downs a meant) ∷ [])
      (stays (record (telling a meant) { answers = a.answers ++ row ∷ [] }))
  needs site o None a meant =
      noting (note.Need (tid a) site o false (new_touches a meant) (new_downs a meant) ∷ [])
      (sending ((o.store, m.Fetch (tid a) o) ∷ []) (stays (record (telling a meant) { phase = Fetching o })))

  -- without a participant it is decided
  abbrev pub asks_all : List ℕ → Attempt → Parts → Act
  asks_all [] a parts = decides a parts
  asks_all (s ∷ ss) a parts =
      sending (map (λ s. (s, m.Prepare (tid a) (items_at parts s))) (s ∷ ss)) (stays (record a { phase = Preparing (s ∷ ss) }))

  abbrev pub ends : Option Value → Attempt → Meant → Parts → Act
  ends value a meant parts =
      noting (note.Ended (tid a) value (new_touches a meant) (new_downs a meant) parts.writes parts.creates ∷ [])
      (asks_all (stores_of parts) (telling a meant) parts)

  abbrev pub resumes_at : Ending → Attempt → Meant → Act
  resumes_at (endings.Missing site o) a meant = needs site o (cached_row a.caches o) a meant
  resumes_at (endings.Ended value) a meant = ends value a meant (parts_of a.answers meant)
  resumes_at endings.Failed a meant = noting (note.Failed (tid a) (new_touches a meant) (new_downs a meant) ∷ []) (closes Failed a)
  resumes_at (endings.Stopped limit) a meant = noting (note.Stopped (tid a) limit (new_touches a meant) (new_downs a meant) ∷ []) (closes (Stopped limit) a)

  abbrev pub resumes : Attempt → Meant → Act
  resumes a meant = resumes_at meant.ending a meant

  -- ---- a message from store s

  -- the Fetch of this tid and name is the current one, and s was asked
  abbrev pub awaits_object : ℕ → Tid → Oid → Attempt → Phase → Bool
  awaits_object s t o a (Fetching p) = is_tid t (tid a) && is_same o p && (o.store == s)
  awaits_object s t o a _ = false

  -- the tid is being prepared, and s takes part
  abbrev pub awaits_vote : ℕ → Tid → Attempt → Parts → Phase → Bool
  awaits_vote s t a parts (Preparing ls) = is_tid t (tid a) && is_in s (stores_of parts)
  awaits_vote s t a parts _ = false

  -- not of this worker at or above this attempt
  abbrev pub is_made_before : Oid → Attempt → Bool
  is_made_before o a = not (o.worker == n) || is_above (tid a) (maker_of o)

  abbrev pub got : ℕ → Oid → ℕ → Object → Attempt → Act
  got s o version x a =
      if suits rights o x && nat_lt 0 version && is_made_before o a
      then stays (record a { phase = Evaluating; answers = a.answers ++ (o, version, x) ∷ [] })
      else gives (Denied s IllFormed) a

  abbrev pub denied : ℕ → Why → Attempt → Act
  denied s why.Missing a = try_ends a
  denied s why.Rights a = gives (Denied s NoRights) a

  abbrev pub waits_for : List ℕ → Attempt → Parts → Act
  waits_for [] a parts = decides a parts
  waits_for (l ∷ ls) a parts = stays (record a { phase = Preparing (l ∷ ls) })

  abbrev pub yes_from : ℕ → Attempt → Parts → Act
  yes_from s a parts = waits_for (filter (λ l. not (l == s)) (not_voted a.phase)) a parts

  abbrev pub aborts : Attempt → Parts → List (ℕ × Message)
  aborts a parts = to_all (stores_of parts) (m.Abort (tid a))

  abbrev pub voted_by : ℕ → Answer → Attempt → Parts → Act
  voted_by s Yes a parts = yes_from s a parts
  voted_by s _ a parts = sending (aborts a parts) (try_ends a)

  abbrev pub has_decided : Tid → ℕ → Bool
  has_decided t s = list_any (λ d. is_tid d.tid t && is_in s d.stores) kept.decided

  abbrev pub inquired : ℕ → Tid → Attempt → Parts → Act
  inquired s t a parts =
      if has_decided t s then sending ((s, m.Commit t) ∷ []) (stays a)
      else (if awaits_vote s t a parts a.phase then yes_from s a parts
      else sending ((s, m.Abort t) ∷ []) (stays a))

  -- a message that fits nothing is dropped
  abbrev pub takes_any : ℕ → Message → Attempt → Parts → Act
  takes_any s (m.Object t o version x) a parts = if awaits_object s t o a a.phase then got s o version x a else stays a
  takes_any s (m.Deny t o reason) a parts = if awaits_object s t o a a.phase then denied s reason a else stays a
  takes_any s (m.Vote t answer) a parts = if awaits_vote s t a parts a.phase then voted_by s answer a parts else stays a
  takes_any s (m.Inquire t) a parts = if t.worker == n then inquired s t a parts else stays a
  takes_any s _ a parts = stays a

  abbrev pub takes : ℕ → Message → Attempt → Parts → Act
  takes s message a parts = if is_store rights s then takes_any s message a parts else stays a

  -- ---- Idle: store s was silent

  abbrev pub aborts_in : Phase → Attempt → Parts → List (ℕ × Message)
  aborts_in (Preparing ls) a parts = aborts a parts
  aborts_in _ a parts = []

  abbrev pub gives_up : ℕ → Attempt → Parts → Act
  gives_up s a parts = sending (aborts_in a.phase a parts) (gives (Silent s) a)

  -- ---- Recover

  -- each Commit again, in order of decision, and then the new boot to every store
  abbrev pub wakes : Act
  wakes = record {
    entry = Some (e.Boot (suc kept.boot));
    attempt = fresh;
    sends = flat_map (λ d. to_all d.stores (m.Commit d.tid)) kept.decided ++ to_all (stores_in rights) (m.Boot (suc kept.boot));
    notes = [];
  }
