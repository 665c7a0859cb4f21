-- What every step keeps: how the world of a run and the public replay of its record stand to each other.
--
-- The protocol's facts are integrity's invariant, used with no excluded object. On top of it the replay has of each worker outside
-- the set its boot, its commits, the caches of stores in the set, and what was told of its attempt; of each store outside it the seen
-- objects, what the set's workers have prepared, and their last tids; and in its table each version of a seen object that is known.
use Rattle.std.specs.Prelude.{◌≡◌, ◌⊎◌, ℕ, ◌≤◌, ◌<◌, Bool, true, false, ◌||◌, IsTrue, if◌then◌else◌}
use Rattle.std.specs.Prelude.{List, [], ◌∷◌, ◌++◌, map, length, Some, None, slice_get, unwrap_or}
use Rattle.std.specs.List.{filter, AllByRecursion}
use Rattle.fab_base.specs.declared.object.Oid.{Oid}
use Rattle.fab_base.specs.declared.object.Object.{Object}
use Rattle.fab_base.specs.declared.object.Tid.{Tid}
use Rattle.fab_base.specs.declared.object.Value.{Value}
use Rattle.fab_base.specs.declared.message.Message.TheVariants as m
use Rattle.fab_base.specs.FieldSpelling.{IsObject, sent_version}
use Rattle.fab_base.specs.FlatMap.{is_among}
use Rattle.fab_language.specs.declared.ending.Ending.TheVariants.{Missing}
use Rattle.fab_net.specs.declared.note.Commit.{Commit}
use Rattle.fab_net.specs.declared.note.Logged.{Logged}
use Rattle.fab_rights.specs.Computed.{is_store}
use Rattle.fab_protocol.specs.declared.parts.Parts.{Parts}
use Rattle.fab_protocol.specs.Parts.{stores_of, items_at, puts_of}
use Rattle.fab_protocol.specs.Stores.{Shelf, Prepared, sender_in}
use Rattle.fab_protocol.specs.Tables.{row_of, OnlyOnce}
use Rattle.fab_protocol.specs.Versions.{Row, Rows, name_of, names_of, version_of, left_by}
use Rattle.fab_world.specs.Machine.{Setting, World, shelf}
use Rattle.fab_world.specs.Workers as workers
use Rattle.fab_world.specs.Workers.{Attempt, Phase, fresh, request_of}
use Rattle.fab_release.specs.Sights.{Sight, Public}
use Rattle.fab_release.specs.Record.{seen_by, changes_of}
use Rattle.fab_release.specs.Replay.{Rebuilt, WorkerSeen, StoreSeen, Commitment, Rests, Runs, Waits, Votes, row_at, is_shown, sharers, leaves}
use Rattle.fab_isolation.specs.Owed.{is_seen}
use Rattle.fab_integrity.proofs.Invariant.{In, Standing, IsPreparing, Settled, IsWorker, IsStore, rank_of, limit, tid_at, current, meant_by, parts_by, standing}
use Rattle.fab_integrity.proofs.Steps.{Holds}

-- no class is excluded
abbrev pub never : ℕ → Bool
never c = false

-- the names that parts write and make
abbrev pub changed_names : Parts → List Oid
changed_names parts = map (λ w. w.0) parts.writes ++ map (λ c. c.0) parts.creates

-- the cache of a store
abbrev pub cache_of : List Rows → ℕ → Rows
cache_of caches s = unwrap_or (slice_get caches s) []

module _ (S : Setting) (sight : Sight) (P : Public) where
  -- ---- what is told of an attempt

  -- of these touches those in view, and of these downgrades the values that go into view
  abbrev pub seen_names : List (ℕ × Oid) → List Oid
  seen_names touches = map (λ t. t.1) (filter (is_seen sight) touches)

  abbrev pub values_given : List (ℕ × Value) → List Value
  values_given downs = map (λ d. d.1) (filter (λ d. sight.into_view d.0) downs)

  -- known are the answers of stores in the set, and of the others what was told; each once
  pub record Knows (told : List Oid) (answers known : Rows) : Type 0 where
    pub each : (o : Oid) → row_of name_of known o ≡ (if sight.has o.store || is_among o told then row_of name_of answers o else None)
    pub once : OnlyOnce (names_of known)

  -- these touches and downgrades of an attempt were told so far
  pub record Told (n : ℕ) (log : List Logged) (a : Attempt) (touches : List (ℕ × Oid)) (downs : List (ℕ × Value)) (v : WorkerSeen) : Type 0 where
    pub touched : a.told.0 ≡ length touches
    pub downed : a.told.1 ≡ length downs
    pub seen : seen_by sight n log ≡ seen_names touches
    pub given : v.given ≡ values_given downs
    pub knows : Knows (seen_names touches) a.answers v.known

  -- ---- what the replay has of a worker, by the phase of its attempt

  -- it evaluates: what was told is a front of what it touches and downgrades over its answers
  pub record Evaluates (n : ℕ) (u : Standing) (log : List Logged) (v : WorkerSeen) : Type 0 where
    pub request : v.request ≡ request_of u.kept
    pub stage : v.stage ≡ Runs
    pub touches : List (ℕ × Oid)
    pub downs : List (ℕ × Value)
    pub told : Told n log u.attempt touches downs v
    pub more_touches : (more : List (ℕ × Oid)) × ((meant_by S (current S n u)).touches ≡ touches ++ more)
    pub more_downs : (more : List (ℕ × Value)) × ((meant_by S (current S n u)).downs ≡ downs ++ more)

  -- it fetches: all was told, and it lacks this object
  pub record Fetches (n : ℕ) (o : Oid) (u : Standing) (log : List Logged) (v : WorkerSeen) : Type 0 where
    pub request : v.request ≡ request_of u.kept
    pub stage : v.stage ≡ (if sight.has o.store then Waits o else Runs)
    pub site : ℕ
    pub lacks : (meant_by S (current S n u)).ending ≡ Missing site o
    pub told : Told n log u.attempt (meant_by S (current S n u)).touches (meant_by S (current S n u)).downs v

  -- of the parts of an attempt the replay has what goes to the set, and what stays of seen objects elsewhere
  pub record IsShade (answers known : Rows) (full part : Parts) : Type 0 where
    pub stores : sharers sight P part ≡ sharers sight P full
    pub items : (d : ℕ) → sight.has d ≡ true → items_at part d ≡ items_at full d
    pub left : leaves sight P part ≡ leaves sight P full
    pub puts : filter (λ row. sight.has row.0.store) (puts_of known part) ≡ filter (λ row. sight.has row.0.store) (puts_of answers full)

  -- it asks for votes
  pub record Prepares (n : ℕ) (u : Standing) (v : WorkerSeen) : Type 0 where
    pub parts : Parts
    pub stage : v.stage ≡ Votes parts
    pub shade : IsShade u.attempt.answers v.known (parts_by S (current S n u)) parts

  abbrev pub InPhase : ℕ → Phase → Standing → List Logged → WorkerSeen → Type 0
  InPhase n workers.Idle u log v = v.stage ≡ Rests
  InPhase n workers.Evaluating u log v = Evaluates n u log v
  InPhase n (workers.Fetching o) u log v = Fetches n o u log v
  InPhase n (workers.Preparing ls) u log v = Prepares n u v

  -- a commit as the replay has it
  abbrev pub commitment : Commit → Commitment
  commitment c = record { tid = c.tid; stores = sharers sight P (parts_by S c); leaves = leaves sight P (parts_by S c) }

  -- and beside the attempt: its boot, its commits, whose participants are stores, and the caches of stores in the set
  pub record Keeps (u : Standing) (v : WorkerSeen) : Type 0 where
    pub boot : v.boot ≡ u.kept.boot
    pub number : u.up ≡ true → v.number ≡ u.attempt.number
    pub commits : v.commits ≡ map commitment u.deals
    pub parties : (c : Commit) → In c u.deals → AllByRecursion (λ s. IsTrue (is_store S.rights s)) (stores_of (parts_by S c))
    pub wide : length u.attempt.caches ≡ 64
    pub wide_too : length v.caches ≡ 64
    pub cached : (s : ℕ) → sight.has s ≡ true → cache_of v.caches s ≡ cache_of u.attempt.caches s

  pub record ShadowsWorker (n : ℕ) (u : Standing) (log : List Logged) (v : WorkerSeen) : Type 0 where
    pub keeps : Keeps u v
    pub phase : InPhase n u.attempt.phase u log v

  -- what the log says that a worker's attempts change: of those decided or prepared what they do, and of later ones nothing yet
  pub record Recorded (n : ℕ) (u : Standing) (log : List Logged) : Type 0 where
    pub own : (c : Commit) → In c u.deals → c.tid.worker ≡ n
    pub ended : (c : Commit) → In c u.deals → changes_of c.tid log ≡ changed_names (parts_by S c)
    pub asked : IsPreparing u.attempt.phase → changes_of (tid_at n u) log ≡ changed_names (parts_by S (current S n u))
    pub later : (t : Tid) → t.worker ≡ n → limit u ≤ rank_of t → changes_of t log ≡ []

  -- ---- a store: its seen objects, what workers of the set have prepared there, and what it remembers of these

  pub record ShadowsStore (s : ℕ) (x : Shelf) (y : StoreSeen) : Type 0 where
    pub rows : (o : Oid) → is_shown sight P o ≡ true → o.store ≡ s → row_of name_of y.shelf.rows o ≡ row_of name_of x.rows o
    pub prepared : y.shelf.prepared ≡ filter (λ p. sight.has p.0.worker) x.prepared
    pub wide : length y.shelf.senders ≡ 64
    pub senders : (d : ℕ) → sight.has d ≡ true → sender_in y.shelf.senders d ≡ sender_in x.senders d
    -- and what the store has and will have can be spelled
    pub spelled : AllByRecursion (λ row. IsObject sent_version row.2) x.rows
    pub left_spelled : AllByRecursion (λ p. AllByRecursion (λ row. IsObject sent_version row.2) (left_by p.1)) x.prepared

  -- ---- the table

  -- a version that is decided and not yet applied
  pub record Ahead (cs : List Commit) (x : Shelf) (r : Row) : Type 0 where
    pub the : Prepared
    pub listed : In the x.prepared
    pub settled : Settled S sight.has never cs the
    pub row : Row
    pub left : In row (left_by the.1)
    pub name : row.0 ≡ r.0
    pub version : row.1 ≡ r.1

  -- the table has this version, which isn't past the current one, or is ahead
  pub record Dated (table : Rows) (cs : List Commit) (x : Shelf) (r : Row) : Type 0 where
    pub known : row_at table r.0 r.1 ≡ r ∷ []
    pub dated : (r.1 ≤ version_of x.rows r.0) ⊎ Ahead cs x r

  -- of each seen object at a store outside the set: as it stands, as it will when it is applied, and as workers know it
  pub record Tabled (w : World) (cs : List Commit) (table : Rows) : Type 0 where
    pub now : (o : Oid) (r : Row) → is_shown sight P o ≡ true → IsStore S sight.has never o.store → row_of name_of (shelf S w o.store).rows o ≡ Some r
        → row_at table o r.1 ≡ r ∷ []
    pub pending : (s : ℕ) → IsStore S sight.has never s → (p : Prepared) → In p (shelf S w s).prepared → Settled S sight.has never cs p
        → (r : Row) → In r (left_by p.1) → is_shown sight P r.0 ≡ true → row_at table r.0 r.1 ≡ r ∷ []
    pub answers : (n : ℕ) → IsWorker S sight.has never n → (r : Row) → In r (w.node n).attempt.answers → is_shown sight P r.0 ≡ true
        → IsStore S sight.has never r.0.store → Dated table cs (shelf S w r.0.store) r
    pub cached : (n : ℕ) → IsWorker S sight.has never n → (rows : Rows) → In rows (w.node n).attempt.caches → (r : Row) → In r rows
        → is_shown sight P r.0 ≡ true → IsStore S sight.has never r.0.store → Dated table cs (shelf S w r.0.store) r
    pub objects : (n s : ℕ) → IsWorker S sight.has never n → IsStore S sight.has never s → (bytes : List ℕ) → In bytes (w.queue s n)
        → (t : Tid) (o : Oid) (version : ℕ) (x : Object) → S.read bytes ≡ Some (m.Object t o version x) → is_shown sight P o ≡ true → o.store ≡ s
        → Dated table cs (shelf S w s) (o, version, x)

  -- ---- the whole

  pub record Shadow (w : World) (log : List Logged) (cs : List Commit) (k : Rebuilt) : Type 0 where
    pub worker : (n : ℕ) → IsWorker S sight.has never n → ShadowsWorker n (standing S sight.has never w cs n) log (k.worker n)
    pub recorded : (n : ℕ) → IsWorker S sight.has never n → Recorded n (standing S sight.has never w cs n) log
    pub asleep : (n : ℕ) → IsWorker S sight.has never n → (w.node n).up ≡ false → (w.node n).attempt ≡ fresh
    pub store : (s : ℕ) → IsStore S sight.has never s → ShadowsStore s (shelf S w s) (k.store s)
    pub tabled : Tabled w cs k.table

  -- what holds before each event: integrity's invariant, and that no version of an object at a store outside the set is the last one
  pub record Stands (w : World) (log : List Logged) (cs : List Commit) (k : Rebuilt) : Type 0 where
    pub holds : Holds S sight.has never w cs
    pub shadow : Shadow w log cs k
    pub low : (s : ℕ) → IsStore S sight.has never s → (o : Oid) → version_of (shelf S w s).rows o < 4294967295
    pub few : length cs ≤ 4000000000
