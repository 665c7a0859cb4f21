-- What stands between a worker that is alone and each store, by the phase of its attempt.
--
-- At most one Commit waits for a store, of the one transaction that is prepared there; behind it what the worker awaits of the
-- store now, or the store's answer is on its way back. The table of a store is what it has once the Commit is applied.
use Rattle.std.proofs.Common.{◌≡◌, ◌⊎◌, ℕ, zero, suc, ◌<◌, ◌≤◌, IsTrue, List, [], ◌∷◌, ◌++◌, Option, Some, None, option_map}
use Rattle.fab_base.specs.declared.message.Answer.TheVariants.{Yes}
use Rattle.fab_base.specs.declared.message.Items.{Items}
use Rattle.fab_base.specs.declared.message.Message.{Message}
use Rattle.fab_base.specs.declared.message.Message.TheVariants as m
use Rattle.fab_base.specs.declared.object.Oid.{Oid}
use Rattle.fab_base.specs.declared.object.Tid.{Tid}
use Rattle.fab_base.specs.FieldSpelling.{IsTid}
use Rattle.fab_base.specs.FlatMap.{get, map_of}
use Rattle.fab_base.specs.MessageSpelling.{spelled}
use Rattle.fab_language.specs.Meaning.{Meant}
use Rattle.fab_net.specs.declared.outcome.ReqOutcome.{ReqOutcome}
use Rattle.fab_rights.specs.Computed.{is_store, may_fetch}
use Rattle.fab_protocol.specs.declared.parts.Parts.{Parts}
use Rattle.fab_protocol.specs.Parts.{items_at, stores_of}
use Rattle.fab_protocol.specs.Stores.{Prepared, Shelf, behind, last_of}
use Rattle.fab_protocol.specs.Tables.{row_of}
use Rattle.fab_protocol.specs.Versions.{Row, Rows, name_of, objects_of}
use Rattle.fab_world.specs.Attempts.{parts_of}
use Rattle.fab_world.specs.Machine.{Setting, option_list}
use Rattle.fab_world.specs.Workers as workers
use Rattle.fab_world.specs.Workers.{Attempt, Kept, Phase}
use Rattle.fab_integrity.proofs.Invariant.{In}
use Rattle.fab_alone.specs.Alone.{first_tid, map_behind, meant_behind, meant_over, outcome_by}
use Rattle.fab_alone.proofs.Caches.{Cached}

abbrev pub Queue : Type 0
Queue = List (List ℕ)

-- the Commit of what is prepared, if anything is
abbrev pub commit_bytes : Option Prepared → Queue
commit_bytes None = []
commit_bytes (Some p) = spelled (m.Commit p.0) ∷ []

-- a worker's attempt behind so many requests
abbrev pub tid_next : ℕ → ℕ → Tid
tid_next n k = first_tid n (suc k)

abbrev pub IsDue : ℕ → Option Prepared → Type 0
IsDue n None = Unit {0}
IsDue n (Some p) = IsTid p.0 × (p.0.worker ≡ n)

-- a store whose queue begins so, and which has nothing prepared but what is due
pub record Owes (n k : ℕ) (table : Rows) (pre : Queue) (shelf : Shelf) : Type 0 where
  pub due : Option Prepared
  pub own : IsDue n due
  pub waits : pre ≡ commit_bytes due
  pub prepared : shelf.prepared ≡ option_list due
  pub rows : behind (option_list due) shelf.rows ≡ table
  pub low : (last_of shelf n).number ≤ k

-- nothing more is between
pub record Rests (n k : ℕ) (table : Rows) (to back : Queue) (shelf : Shelf) : Type 0 where
  pub owes : Owes n k table to shelf
  pub none : back ≡ []

-- what waits for a store, and what of the worker's is prepared there
pub record Prepares (n k : ℕ) (items : Items) (told : Queue) (table : Rows) (to back : Queue) (shelf : Shelf) : Type 0 where
  pub none : to ≡ []
  pub reply : back ≡ told
  pub prepared : shelf.prepared ≡ (tid_next n k, items) ∷ []
  pub rows : shelf.rows ≡ table
  pub low : (last_of shelf n).number ≤ suc k

module _ (S : Setting) (n : ℕ) where
  -- this message waits for the store
  pub record Asks (k : ℕ) (message : Message) (table : Rows) (to back : Queue) (shelf : Shelf) : Type 0 where
    pub pre : Queue
    pub owes : Owes n k table pre shelf
    pub waits : to ≡ pre ++ spelled message ∷ []
    pub read : S.read (spelled message) ≡ Some message
    pub none : back ≡ []

  -- this object waits for the worker
  pub record Answers (k : ℕ) (o : Oid) (table : Rows) (to back : Queue) (shelf : Shelf) : Type 0 where
    pub row : Row
    pub owes : Owes n k table to shelf
    pub none : to ≡ []
    pub found : row_of name_of table o ≡ Some row
    pub reply : back ≡ spelled (m.Object (tid_next n k) o row.1 row.2) ∷ []
    pub read : S.read (spelled (m.Object (tid_next n k) o row.1 row.2)) ≡ Some (m.Object (tid_next n k) o row.1 row.2)

  abbrev pub yes_bytes : ℕ → Queue
  yes_bytes k = spelled (m.Vote (tid_next n k) Yes) ∷ []

  -- between it and store s, in a phase of an attempt behind k requests, with these parts
  abbrev pub Link : ℕ → Parts → ℕ → Rows → Queue → Queue → Shelf → Phase → Type 0
  Link k parts s table to back shelf workers.Idle = Rests n k table to back shelf
  Link k parts s table to back shelf workers.Evaluating = Rests n k table to back shelf
  Link k parts s table to back shelf (workers.Fetching o) =
      ((o.store ≡ s) × (Asks k (m.Fetch (tid_next n k) o) table to back shelf ⊎ Answers k o table to back shelf))
      ⊎ ((o.store ≡ s → ⊥) × Rests n k table to back shelf)
  Link k parts s table to back shelf (workers.Preparing ls) =
      (In s ls × In s (stores_of parts)
      × (Asks k (m.Prepare (tid_next n k) (items_at parts s)) table to back shelf ⊎ Prepares n k (items_at parts s) (yes_bytes k) table to back shelf))
      ⊎ (((In s ls → ⊥) × In s (stores_of parts) × Prepares n k (items_at parts s) [] table to back shelf)
      ⊎ ((In s ls → ⊥) × (In s (stores_of parts) → ⊥) × Rests n k table to back shelf))

  -- ---- the worker itself

  -- the object is the one at its store
  abbrev pub HasRow : (ℕ → Rows) → Row → Type 0
  HasRow table r = row_of name_of (table r.0.store) r.0 ≡ Some r

  abbrev pub outcomes_to : ℕ → List ReqOutcome
  outcomes_to zero = []
  outcomes_to (suc k) = outcomes_to k ++ outcome_by (first_tid n (suc k)) (meant_behind S n k).ending ∷ []

  abbrev pub number_by : Phase → ℕ → ℕ
  number_by workers.Idle k = k
  number_by workers.Evaluating k = suc k
  number_by (workers.Fetching o) k = suc k
  number_by (workers.Preparing ls) k = suc k

  -- what is fetched is there, and may be
  pub record IsThere (table : ℕ → Rows) (o : Oid) : Type 0 where
    pub allowed : IsTrue (may_fetch S.rights n o.class)
    pub row : Row
    pub found : row_of name_of (table o.store) o ≡ Some row

  abbrev pub Awaits : (ℕ → Rows) → Phase → Type 0
  Awaits table (workers.Fetching o) = IsThere table o
  Awaits table _ = Unit {0}

  abbrev pub Left : Phase → ℕ → Type 0
  Left workers.Idle k = k ≤ S.requests n
  Left _ k = k < S.requests n

  -- the meaning of the request at work over answers, and its parts
  abbrev pub meant_now : ℕ → Rows → Meant
  meant_now k answers = meant_over S n (suc k) (map_of (objects_of answers))

  abbrev pub parts_now : ℕ → Rows → Parts
  parts_now k answers = parts_of answers (meant_now k answers)

  -- The worker has so many outcomes, those of its requests one after the other; the tables have the objects behind these; each
  -- object that it has answered or cached is the one that its table has, and each store stands to it as the phase asks.
  pub record Alone (kept : Kept) (a : Attempt) (to back : ℕ → Queue) (shelf : ℕ → Shelf) : Type 0 where
    pub count : ℕ
    pub table : ℕ → Rows
    pub boot : kept.boot ≡ 1
    pub outcomes : kept.outcomes ≡ outcomes_to count
    pub tries : a.tries ≡ 0
    pub number : a.number ≡ number_by a.phase count
    pub left : Left a.phase count
    pub awaits : Awaits table a.phase
    pub content : (o : Oid) → option_map (λ (r : Row). r.2) (row_of name_of (table o.store) o) ≡ get (map_behind S n count) o
    pub cached : Cached (HasRow table) 0 a.caches
    pub answered : (r : Row) → In r a.answers → HasRow table r × IsTrue (may_fetch S.rights n r.0.class)
    pub links : (s : ℕ) → IsTrue (is_store S.rights s) → Link count (parts_now count a.answers) s (table s) (to s) (back s) (shelf s) a.phase
