-- The public replay: what the nodes outside a set have sent into it, rebuilt from the public part and the release record alone.
--
-- Workers run the erased meaning over what they are known to know; stores keep the objects that the set sees, and what the set's own
-- workers have prepared. Every step is total; of an entry that no run releases nothing is promised.
use Rattle.std.specs.Prelude.{ℕ, suc, Bool, true, false, not, ◌&&◌, ◌||◌, ◌==◌, nat_lt, if◌then◌else◌, List, [], ◌∷◌, ◌++◌, map, flat_map, Option, Some, None}
use Rattle.std.specs.List.{filter, list_any, range_with_len}
use Rattle.fab_base.specs.declared.object.Object.{Object}
use Rattle.fab_base.specs.declared.object.Oid.{Oid}
use Rattle.fab_base.specs.declared.object.Tid.{Tid}
use Rattle.fab_base.specs.declared.object.Value.{Value}
use Rattle.fab_base.specs.declared.message.Answer.{Answer}
use Rattle.fab_base.specs.declared.message.Answer.TheVariants.{Yes, OldTid}
use Rattle.fab_base.specs.declared.message.Message.{Message}
use Rattle.fab_base.specs.declared.message.Message.TheVariants as m
use Rattle.fab_base.specs.declared.entry.Entry.TheVariants as entry
use Rattle.fab_base.specs.FlatMap.{FlatMap, map_of, is_same}
use Rattle.fab_base.specs.MessageSpelling.{spelled}
use Rattle.fab_base.specs.Tids.{is_above}
use Rattle.fab_language.specs.declared.ending.Ending.{Ending}
use Rattle.fab_language.specs.declared.ending.Ending.TheVariants as endings
use Rattle.fab_language.specs.Meaning.{Meant}
use Rattle.fab_rights.specs.Computed.{is_worker, is_store, stores_in, suits}
use Rattle.fab_protocol.specs.Caches.{cached, cached_row}
use Rattle.fab_protocol.specs.declared.parts.Parts.{Parts}
use Rattle.fab_protocol.specs.Parts.{stores_of, items_at, puts_of}
use Rattle.fab_protocol.specs.Stores.{Shelf, Prepared, keeps, keeps_said, shelf_at_start, says, asks, prepared_as}
use Rattle.fab_protocol.specs.Tables.{placed_all}
use Rattle.fab_protocol.specs.Versions.{Row, Rows, is_tid, maker_of, name_of, objects_of, raised, begun, left_by}
use Rattle.fab_world.specs.Attempts.{parts_of}
use Rattle.fab_world.specs.Workers.{is_in, to_all}
use Rattle.fab_world.specs.Machine.{with_at}
use Rattle.fab_release.specs.declared.release.Release.{Release}
use Rattle.fab_release.specs.declared.release.Release.TheVariants.{Received, Begin, Down, Got, Ask, Ended, Failed, Stopped, Decided, Applied, Voted, Crash, Recover}
use Rattle.fab_release.specs.declared.release.Released.{Released}
use Rattle.fab_release.specs.Sights.{Sight, Public}

-- ---- what is kept

-- at rest; its evaluation goes on; it waits for an object of a store in the set; it has asked for votes on these parts
pub data Stage : Type 0 where
  Rests : Stage
  Runs : Stage
  Waits : Oid → Stage
  Votes : Parts → Stage

-- a commit: its attempt, the stores of the set that take part, and what it leaves of seen objects at the other stores
pub record Commitment : Type 0 where
  pub tid : Tid
  pub stores : List ℕ
  pub leaves : Rows

-- a worker outside the set: its boot, the number of its attempt, the request, what it is known to know, the values that were given, its
-- commits in order, and the caches of the stores in the set, by store
pub record WorkerSeen : Type 0 where
  pub boot : ℕ
  pub number : ℕ
  pub request : ℕ
  pub stage : Stage
  pub known : Rows
  pub given : List Value
  pub commits : List Commitment
  pub caches : List Rows

-- a store outside the set: its seen objects as they stand (and of others what the set's own workers wrote, which nothing reads), with what the
-- set's workers have prepared and when they were last heard; and the Prepare that came last
pub record StoreSeen : Type 0 where
  pub shelf : Shelf
  pub asked : Option Prepared

-- and the seen objects that stores outside the set had or will have, at each version
pub record Rebuilt : Type 0 where
  pub worker : ℕ → WorkerSeen
  pub store : ℕ → StoreSeen
  pub table : Rows

-- at a version
abbrev pub row_at : Rows → Oid → ℕ → List Row
row_at [] o version = []
row_at (row ∷ rows) o version = if is_same row.0 o && (row.1 == version) then row ∷ [] else row_at rows o version

-- ---- steps

module _ (sight : Sight) (P : Public) where
  abbrev pub no_caches : List Rows
  no_caches = map (λ s. []) (range_with_len 0 64)

  -- seen objects at stores outside the set
  abbrev pub is_shown : Oid → Bool
  is_shown o = sight.shows o.class && not (sight.has o.store)

  abbrev pub shown_roots : FlatMap
  shown_roots = filter (λ root. is_shown root.0) P.roots

  abbrev pub at_start : Rebuilt
  at_start = record {
    worker = λ n. record { boot = 1; number = 0; request = 0; stage = Rests; known = []; given = []; commits = []; caches = no_caches };
    store = λ s. record { shelf = shelf_at_start shown_roots s; asked = None };
    table = map begun shown_roots;
  }

  -- ---- a worker

  abbrev pub tid_of : ℕ → WorkerSeen → Tid
  tid_of n v = record { worker = n; boot = v.boot; number = v.number }

  -- the run: what its request means over what is known and given, as far as the set can compute it
  abbrev pub run : ℕ → WorkerSeen → Meant
  run n v = P.means n v.request (tid_of n v) (map_of (objects_of v.known)) v.given

  -- the stores of the set that take part in these
  abbrev pub sharers : Parts → List ℕ
  sharers parts = filter sight.has (stores_of parts)

  -- what a commit leaves of seen objects at stores outside the set
  abbrev pub leaves : Parts → Rows
  leaves parts = filter (λ row. is_shown row.0) (map raised parts.writes ++ map begun parts.creates)

  -- what caches of stores in the set are given
  abbrev pub puts : WorkerSeen → Parts → Rows
  puts v parts = filter (λ row. sight.has row.0.store) (puts_of v.known parts)

  abbrev pub knows : Rows → WorkerSeen → WorkerSeen
  knows rows v = record v { known = v.known ++ rows }

  -- an object that was touched is known now, in this version
  abbrev pub got_by : Rows → ℕ → Ending → WorkerSeen → WorkerSeen
  got_by table version (endings.Missing site o) v = if sight.has o.store then v else knows (row_at table o version) v
  got_by table version _ v = v

  abbrev pub asked_by : Oid → Option Row → WorkerSeen → WorkerSeen
  asked_by o (Some row) v = knows (row ∷ []) v
  asked_by o None v = record v { stage = Waits o }

  -- a cached answer is known now, and any other object is waited for
  abbrev pub asks_by : Ending → WorkerSeen → WorkerSeen
  asks_by (endings.Missing site o) v = if sight.has o.store then asked_by o (cached_row v.caches o) v else v
  asks_by _ v = v

  abbrev pub ends_by : ℕ → Ending → WorkerSeen → WorkerSeen
  ends_by n (endings.Ended value) v = record v { stage = Votes (parts_of v.known (run n v)) }
  ends_by n _ v = v

  -- an attempt is over
  abbrev pub over : List Rows → WorkerSeen → WorkerSeen
  over caches v = record v { stage = Rests; known = []; given = []; caches = caches }

  abbrev pub committed : ℕ → Stage → WorkerSeen → WorkerSeen
  committed n (Votes parts) v =
      over (cached P.cache (puts v parts) 0 v.caches)
      (record v { commits = v.commits ++ record { tid = tid_of n v; stores = sharers parts; leaves = leaves parts } ∷ [] })
  committed n _ v = v

  abbrev pub decided : ℕ → Bool → WorkerSeen → WorkerSeen
  decided n true v = committed n v.stage v
  decided n false v = over no_caches v

  -- what enters the table at a decision
  abbrev pub enters : Bool → Stage → Rows
  enters true (Votes parts) = leaves parts
  enters _ _ = []

  -- an object answers, if it is the one that is waited for
  abbrev pub answers : ℕ → ℕ → Tid → Oid → ℕ → Object → Stage → WorkerSeen → WorkerSeen
  answers n d t o version x (Waits p) v =
      if is_tid t (tid_of n v) && is_same o p && (o.store == d)
      && suits P.rights o x && nat_lt 0 version && (not (o.worker == n) || is_above (tid_of n v) (maker_of o))
      then record (knows ((o, version, x) ∷ []) v) { stage = Runs } else v
  answers n d t o version x _ v = v

  abbrev pub worker_hears : ℕ → ℕ → Message → WorkerSeen → WorkerSeen
  worker_hears n d (m.Object t o version x) v = answers n d t o version x v.stage v
  worker_hears n d _ v = v

  -- the attempt is being prepared with that store
  abbrev pub is_voting : ℕ → ℕ → Tid → WorkerSeen → Stage → Bool
  is_voting n d t v (Votes parts) = is_tid t (tid_of n v) && is_in d (stores_of parts)
  is_voting n d t v _ = false

  abbrev pub has_committed : ℕ → Tid → WorkerSeen → Bool
  has_committed d t v = list_any (λ c. is_tid c.tid t && is_in d c.stores) v.commits

  -- what it answers at once: to an Inquire Commit or Abort, where the attempt isn't being prepared with that store
  abbrev pub worker_says : ℕ → ℕ → Message → WorkerSeen → List (ℕ × Message)
  worker_says n d (m.Inquire t) v =
      if not (t.worker == n) then []
      else (if has_committed d t v then (d, m.Commit t) ∷ []
      else (if is_voting n d t v v.stage then [] else (d, m.Abort t) ∷ []))
  worker_says n d _ v = []

  -- ---- what a worker sends to the stores of the set

  abbrev pub unless_cached : Option Row → List (ℕ × Message) → List (ℕ × Message)
  unless_cached None sends = sends
  unless_cached (Some row) sends = []

  abbrev pub fetch : ℕ → Ending → WorkerSeen → List (ℕ × Message)
  fetch n (endings.Missing site o) v =
      if sight.has o.store then unless_cached (cached_row v.caches o) ((o.store, m.Fetch (tid_of n v) o) ∷ []) else []
  fetch n _ v = []

  abbrev pub prepares : ℕ → Stage → WorkerSeen → List (ℕ × Message)
  prepares n (Votes parts) v = map (λ s. (s, m.Prepare (tid_of n v) (items_at parts s))) (sharers parts)
  prepares n _ v = []

  abbrev pub closes : ℕ → Bool → Stage → WorkerSeen → List (ℕ × Message)
  closes n commit (Votes parts) v = to_all (sharers parts) (if commit then m.Commit (tid_of n v) else m.Abort (tid_of n v))
  closes n commit _ v = []

  -- each Commit again, in order, and then the new boot to every store of the set
  abbrev pub wakes : WorkerSeen → List (ℕ × Message)
  wakes v = flat_map (λ c. to_all c.stores (m.Commit c.tid)) v.commits ++ to_all (filter sight.has (stores_in P.rights)) (m.Boot (suc v.boot))

  -- ---- a store

  -- what it heard, but for the vote on a Prepare, which the record tells
  abbrev pub store_hears : ℕ → ℕ → Message → StoreSeen → StoreSeen
  store_hears s d (m.Prepare t items) x = record x { asked = Some (t, items) }
  store_hears s d message x = record x { shelf = keeps_said (says P.rights s d message x.shelf).entry x.shelf }

  abbrev pub store_says : ℕ → ℕ → Message → StoreSeen → List (ℕ × Message)
  store_says s d (m.Prepare t items) x = []
  store_says s d message x = (says P.rights s d message x.shelf).sends

  -- what a Commit of a worker in the set makes of seen objects
  abbrev pub store_applies : ℕ → ℕ → Message → StoreSeen → Rows
  store_applies s d (m.Commit t) x =
      if t.worker == d then filter (λ row. is_shown row.0) (flat_map (λ p. left_by p.1) (prepared_as t x.shelf.prepared)) else []
  store_applies s d _ x = []

  abbrev pub prepares_as : Tid → Option Prepared → Shelf → Shelf
  prepares_as t (Some p) shelf = keeps (entry.Prepared t p.1) shelf
  prepares_as t None shelf = shelf

  -- its vote: a yes prepares what was asked last, and an attempt that is old leaves all as it was
  abbrev pub votes : Tid → Answer → StoreSeen → StoreSeen
  votes t Yes x = record x { shelf = prepares_as t x.asked x.shelf }
  votes t (OldTid u) x = x
  votes t _ x = record x { shelf = keeps (entry.Refused t) x.shelf }

  -- what an attempt of a worker outside the set leaves here
  abbrev pub leaves_at : ℕ → Tid → List Commitment → Rows
  leaves_at s t cs = flat_map (λ c. if is_tid c.tid t then filter (λ row. row.0.store == s) c.leaves else []) cs

  abbrev pub applies : Rows → StoreSeen → StoreSeen
  applies rows x = record x { shelf = record x.shelf { rows = placed_all name_of rows x.shelf.rows } }

  -- ---- the fold

  abbrev pub at_worker : Rebuilt → ℕ → (WorkerSeen → WorkerSeen) → Rebuilt
  at_worker k n change = record k { worker = with_at k.worker n (change (k.worker n)) }

  abbrev pub at_store : Rebuilt → ℕ → (StoreSeen → StoreSeen) → Rebuilt
  at_store k s change = record k { store = with_at k.store s (change (k.store s)) }

  -- the newest in front
  abbrev pub tabled : Rows → Rebuilt → Rebuilt
  tabled rows k = record k { table = rows ++ k.table }

  abbrev pub hears : ℕ → ℕ → Option Message → Rebuilt → Rebuilt
  hears n d None k = k
  hears n d (Some message) k =
      if is_worker P.rights n then at_worker k n (worker_hears n d message)
      else tabled (store_applies n d message (k.store n)) (at_store k n (store_hears n d message))

  -- a store hears only workers, and a worker only stores
  abbrev pub is_heard : ℕ → ℕ → Bool
  is_heard n d = (is_worker P.rights n && is_store P.rights d) || (is_store P.rights n && is_worker P.rights d)

  abbrev pub next : Release → Rebuilt → Rebuilt
  next (Received n d bytes) k = if is_heard n d then hears n d (P.read bytes) k else k
  next (Begin w request) k =
      at_worker k w (λ v. record v { number = suc v.number; request = request; stage = Runs; known = []; given = [] })
  next (Down w value) k = at_worker k w (λ v. record v { given = v.given ++ value ∷ [] })
  next (Got w version) k = at_worker k w (λ v. got_by k.table version (run w v).ending v)
  next (Ask w) k = at_worker k w (λ v. asks_by (run w v).ending v)
  next (Ended w) k = at_worker k w (λ v. ends_by w (run w v).ending v)
  next (Failed w) k = at_worker k w (over no_caches)
  next (Stopped w) k = at_worker k w (over no_caches)
  next (Decided w commit) k = tabled (enters commit (k.worker w).stage) (at_worker k w (decided w commit))
  next (Applied s t) k = at_store k s (applies (leaves_at s t (k.worker t.worker).commits))
  next (Voted s t answer) k = at_store k s (votes t answer)
  next (Crash n) k = at_worker k n (over no_caches)
  next (Recover n) k = if is_worker P.rights n then at_worker k n (λ v. record v { boot = suc v.boot; number = 0 }) else k

  abbrev pub told : ℕ → ℕ → Option Message → Rebuilt → List (ℕ × Message)
  told n d None k = []
  told n d (Some message) k = if is_worker P.rights n then worker_says n d message (k.worker n) else store_says n d message (k.store n)

  -- what the entry's node sends into the set
  abbrev pub sends : Release → Rebuilt → List (ℕ × Message)
  sends (Received n d bytes) k = if is_heard n d then told n d (P.read bytes) k else []
  sends (Begin w request) k = []
  sends (Down w value) k = []
  sends (Got w version) k = []
  sends (Ask w) k = fetch w (run w (k.worker w)).ending (k.worker w)
  sends (Ended w) k = prepares w (ends_by w (run w (k.worker w)).ending (k.worker w)).stage (k.worker w)
  sends (Failed w) k = []
  sends (Stopped w) k = []
  sends (Decided w commit) k = closes w commit (k.worker w).stage (k.worker w)
  sends (Applied s t) k = []
  sends (Voted s t answer) k = (t.worker, m.Vote t answer) ∷ []
  sends (Crash n) k = []
  sends (Recover n) k = if is_worker P.rights n then wakes (k.worker n) else (asks (k.store n).shelf).sends

  -- the node that an entry speaks of
  abbrev pub node_in : Release → ℕ
  node_in (Received n d bytes) = n
  node_in (Begin w request) = w
  node_in (Down w value) = w
  node_in (Got w version) = w
  node_in (Ask w) = w
  node_in (Ended w) = w
  node_in (Failed w) = w
  node_in (Stopped w) = w
  node_in (Decided w commit) = w
  node_in (Applied s t) = s
  node_in (Voted s t answer) = s
  node_in (Crash n) = n
  node_in (Recover n) = n

  -- what node n sends to node d of the set at an entry, in bytes
  abbrev pub sent_at : Released → Rebuilt → ℕ → ℕ → List (List ℕ)
  sent_at x k n d =
      if x.quiet || not (node_in x.release == n) then []
      else map (λ y. spelled y.1) (filter (λ y. y.0 == d) (sends x.release k))

  abbrev pub sent_behind : Rebuilt → List Released → ℕ → ℕ → List (List ℕ)
  sent_behind k [] n d = []
  sent_behind k (x ∷ xs) n d = sent_at x k n d ++ sent_behind (next x.release k) xs n d

  -- the public replay: all that node n has sent to node d
  abbrev pub public : List Released → ℕ → ℕ → List (List ℕ)
  public entries n d = sent_behind at_start entries n d
