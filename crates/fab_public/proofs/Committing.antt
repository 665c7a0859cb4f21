-- What an end of an attempt makes of a worker.
use Rattle.std.proofs.Common.{◌≡◌, ℕ, true, false, if◌then◌else◌, List, [], ◌∷◌, ◌++◌, map, Option, Some, None, refl, sym, ap, subst, ◌∙◌}
use Rattle.fab_base.specs.declared.object.Oid.{Oid}
use Rattle.fab_base.specs.declared.object.Tid.{Tid}
use Rattle.fab_known.specs.Answers.{is_answer}
use Rattle.fab_known.specs.Knowing.{parts_at_end, parts_behind}
use Rattle.fab_base.specs.declared.message.Message.TheVariants.{Prepare}
use Rattle.fab_cache.proofs.Laying.{cached_last}
use Rattle.fab_cache.specs.Caching.{AreLast, laid}
use Rattle.fab_language.specs.declared.ending.Ending.{Ending}
use Rattle.fab_language.specs.declared.ending.Ending.TheVariants as endings
use Rattle.fab_language.specs.Meaning.{Meant}
use Rattle.fab_protocol.specs.Caches.{cached}
use Rattle.fab_protocol.specs.Parts.{items_at}
use Rattle.fab_protocol.specs.Versions.{Row, Rows}
use Rattle.fab_protocol.specs.declared.parts.Parts.{Parts}
use Rattle.fab_release.specs.Replay as replay
use Rattle.fab_release.specs.Replay.{WorkerSeen, answers, committed, ends_by, knows, leaves, prepares, puts, run, sharers, tid_of}
use Rattle.fab_release.specs.Sights.{Public, Sight}
use Rattle.fab_sent.specs.Messages.{all_spelled}
use Rattle.fab_public.specs.Changes.{told_by}
use Rattle.fab_public.specs.declared.workers.Change.TheVariants.{End}
use Rattle.fab_public.specs.declared.states.Watched.{Watched}
use Rattle.fab_public.specs.States.{IsCaching, worker_of}

-- what comes of the parts of an attempt that ended, or of none
abbrev pub voting : Option Parts → WorkerSeen → WorkerSeen
voting None v = v
voting (Some parts) v = record v { stage = replay.Votes parts }

ends_as : (sight : Sight) (P : Public) (n : ℕ) (ending : Ending) (v : WorkerSeen) → voting (parts_behind v.known (run sight P n v) ending) v ≡ ends_by sight P n ending v
ends_as sight P n (endings.Ended value) v = refl
ends_as sight P n (endings.Missing site o) v = refl
ends_as sight P n endings.Failed v = refl
ends_as sight P n (endings.Stopped stop) v = refl

pub ends_with : (sight : Sight) (P : Public) (n : ℕ) (v : WorkerSeen) (ran : Meant) (o : Option Parts) → ran ≡ run sight P n v → o ≡ parts_at_end v.known ran
    → voting o v ≡ ends_by sight P n (run sight P n v).ending v
ends_with sight P n v ran o is parts =
    ap (λ (x : Option Parts). voting x v) (parts ∙ ap (λ (m : Meant). parts_at_end v.known m) is) ∙ ends_as sight P n (run sight P n v).ending v

-- an end asks for no other votes
pub same_tid : (sight : Sight) (P : Public) (n : ℕ) (ending : Ending) (v : WorkerSeen) → tid_of sight P n (ends_by sight P n ending v) ≡ tid_of sight P n v
same_tid sight P n (endings.Ended value) v = refl
same_tid sight P n (endings.Missing site o) v = refl
same_tid sight P n endings.Failed v = refl
same_tid sight P n (endings.Stopped stop) v = refl

prepares_by : (sight : Sight) (P : Public) (n : ℕ) (stage : replay.Stage) (v w : WorkerSeen) → tid_of sight P n v ≡ tid_of sight P n w → prepares sight P n stage v ≡ prepares sight P n stage w
prepares_by sight P n (replay.Votes parts) v w e = ap (λ (t : Tid). map (λ (x : ℕ). (x, Prepare t (items_at parts x))) (sharers sight P parts)) e
prepares_by sight P n replay.Rests v w e = refl
prepares_by sight P n replay.Runs v w e = refl
prepares_by sight P n (replay.Waits o) v w e = refl

-- what it asks to prepare is told by its stage behind the end
pub asked_behind : (sight : Sight) (P : Public) (n : ℕ) (ending : Ending) (v w : WorkerSeen) → w ≡ ends_by sight P n ending v
    → prepares sight P n w.stage w ≡ prepares sight P n (ends_by sight P n ending v).stage v
asked_behind sight P n ending v w is =
    ap (λ (x : WorkerSeen). prepares sight P n x.stage x) is ∙ prepares_by sight P n (ends_by sight P n ending v).stage (ends_by sight P n ending v) v (same_tid sight P n ending v)

pub told_at_end : (sight : Sight) (P : Public) (n : ℕ) (v w : WorkerSeen) (sent : List (ℕ × List ℕ)) → w ≡ ends_by sight P n (run sight P n v).ending v
    → sent ≡ all_spelled (prepares sight P n w.stage w) → sent ≡ all_spelled (told_by sight P n End v)
told_at_end sight P n v w sent is told = told ∙ ap all_spelled (asked_behind sight P n (run sight P n v).ending v w is)

-- a commit
pub committed_is : (sight : Sight) (P : Public) (n : ℕ) (old : Watched) (parts : Parts) (c : replay.Commitment) (commits : List replay.Commitment) (caches : List Rows)
    → commits ≡ old.commits ++ c ∷ [] → c.tid ≡ tid_of sight P n (worker_of old) → c.stores ≡ sharers sight P parts → c.leaves ≡ leaves sight P parts
    → caches ≡ cached P.cache (puts sight P (worker_of old) parts) 0 old.caches.caches
    → record (worker_of old) { stage = replay.Rests; known = []; given = []; commits = commits; caches = caches }
    ≡ committed sight P n (replay.Votes parts) (worker_of old)
committed_is sight P n old parts c commits caches more tid stores left renewed = λ i.
    record (worker_of old) { stage = replay.Rests; known = []; given = []; commits = all i; caches = renewed i }
  where
    all : commits ≡ old.commits ++ record { tid = tid_of sight P n (worker_of old); stores = sharers sight P parts; leaves = leaves sight P parts } ∷ []
    all = more ∙ (λ i. old.commits ++ record { tid = tid i; stores = stores i; leaves = left i } ∷ [])

-- caches that new ones are laid over
pub caches_behind : (cache : ℕ) (old : Watched) (new : List (Option Rows)) (given wanted : Rows) → IsCaching cache old
    → (AreLast old.caches.k old.caches.caches → laid new old.caches.caches ≡ cached old.caches.k given 0 old.caches.caches) → given ≡ wanted
    → laid new old.caches.caches ≡ cached cache wanted 0 old.caches.caches
caches_behind cache old new given wanted is behind same =
    behind (subst (λ k. AreLast k old.caches.caches) (sym is.limit) is.last) ∙ (λ j. cached (is.limit j) (same j) 0 old.caches.caches)

-- the caches behind it are its own last ones
pub still_last : (cache : ℕ) (new : Watched) (given : Rows) (caches : List Rows) → new.caches.k ≡ cache → new.caches.caches ≡ cached cache given 0 caches → IsCaching cache new
still_last cache new given caches limit is = record { limit = limit; last = subst (AreLast cache) (sym is) (cached_last cache given 0 caches) }

-- ---- an object that answers

pub taken : (sight : Sight) (P : Public) (n d : ℕ) (t : Tid) (row : Row) (stage : replay.Stage) (p : Oid) (v w : WorkerSeen) → stage ≡ replay.Waits p
    → is_answer P.rights (tid_of sight P n v) p d t row ≡ true → w ≡ record (knows sight P (row ∷ []) v) { stage = replay.Runs }
    → w ≡ answers sight P n d t row.0 row.1 row.2 stage v
taken sight P n d t row stage p v w waits holds is =
    is ∙ sym (ap (λ (x : replay.Stage). answers sight P n d t row.0 row.1 row.2 x v) waits
    ∙ ap (λ b. if b then record (knows sight P (row ∷ []) v) { stage = replay.Runs } else v) holds)

pub left_alone : (sight : Sight) (P : Public) (n d : ℕ) (t : Tid) (row : Row) (stage : replay.Stage) (p : Oid) (v : WorkerSeen) → stage ≡ replay.Waits p
    → is_answer P.rights (tid_of sight P n v) p d t row ≡ false → v ≡ answers sight P n d t row.0 row.1 row.2 stage v
left_alone sight P n d t row stage p v waits fails =
    sym (ap (λ (x : replay.Stage). answers sight P n d t row.0 row.1 row.2 x v) waits
    ∙ ap (λ b. if b then record (knows sight P (row ∷ []) v) { stage = replay.Runs } else v) fails)
