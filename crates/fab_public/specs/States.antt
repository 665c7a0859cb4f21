-- What is rebuilt, as the replay sees it.
use Rattle.std.specs.Prelude.{◌≡◌, ℕ, List, [], map, None, IfSome, slice_get}
use Rattle.std.specs.List.{range_with_len}
use Rattle.std.specs.Option.{option_map_or}
use Rattle.fab_base.specs.declared.object.Tid.{Tid}
use Rattle.fab_base.specs.declared.object.Value.{Value}
use Rattle.fab_base.specs.FlatMap.{FlatMap}
use Rattle.fab_cache.specs.Caching.{AreLast}
use Rattle.fab_known.specs.Knowing.{Runner, ran_by}
use Rattle.fab_known.specs.Tables.{AreAlike}
use Rattle.fab_protocol.specs.Stores.{shelf_at_start}
use Rattle.fab_release.specs.Replay as replay
use Rattle.fab_release.specs.Sights.{Public, Sight}
use Rattle.fab_public.specs.declared.states.Kept.{Kept}
use Rattle.fab_public.specs.declared.states.Stage.{Stage}
use Rattle.fab_public.specs.declared.states.Stage.TheVariants as s
use Rattle.fab_public.specs.declared.states.Watched.{Watched}

abbrev pub stage_of : Stage → replay.Stage
stage_of s.Rests = replay.Rests
stage_of s.Runs = replay.Runs
stage_of (s.Waits o) = replay.Waits o
stage_of (s.Votes parts) = replay.Votes parts

abbrev pub worker_of : Watched → replay.WorkerSeen
worker_of w = record {
  boot = w.boot;
  number = w.number;
  request = w.request;
  stage = stage_of w.stage;
  known = w.known.rows;
  given = w.known.given;
  commits = w.commits;
  caches = w.caches.caches;
}

-- a worker before the first entry
abbrev pub unwatched : replay.WorkerSeen
unwatched = record {
  boot = 1;
  number = 0;
  request = 0;
  stage = replay.Rests;
  known = [];
  given = [];
  commits = [];
  caches = map (λ s. []) (range_with_len 0 64);
}

-- a store before the first entry
abbrev pub unstored : Sight → Public → ℕ → replay.StoreSeen
unstored sight P n = record { shelf = shelf_at_start (replay.shown_roots sight P) n; asked = None }

-- ---- items by number

-- what is seen of the item of a number; of one that isn't there yet, what is seen of it at the start
abbrev pub kept_at : {A B : Type 0} → (ℕ → B) → (A → B) → List A → ℕ → B
kept_at start see items n = option_map_or see (slice_get items n) (start n)

-- these are seen of items by number, and each item has what is asked of it
pub record Stands {A B : Type 0} (start : ℕ → B) (see : A → B) (Fits : A → Type 0) (items : List A) (seen : ℕ → B) : Type 0 where
  pub same : (n : ℕ) → kept_at start see items n ≡ seen n
  pub each : (n : ℕ) → IfSome (slice_get items n) Fits

-- what is run by it is what everybody may know
pub record IsRunBy (P : Public) (r : Runner) : Type 0 where
  pub same : (n number : ℕ) (t : Tid) (known : FlatMap) (given : List Value) → ran_by r n number t known given ≡ P.means n number t known given

-- its caches keep so many objects, and each is its own last distinct ones
pub record IsCaching (k : ℕ) (w : Watched) : Type 0 where
  pub limit : w.caches.k ≡ k
  pub last : AreLast k w.caches.caches

-- and its request is run as everybody may know it
pub record IsWatched (P : Public) (w : Watched) : Type 0 where
  pub caching : IsCaching P.cache w
  pub by : IsRunBy P w.known.by

abbrev pub AreWatched : Public → List Watched → (ℕ → replay.WorkerSeen) → Type 0
AreWatched P workers seen = Stands (λ n. unwatched) worker_of (IsWatched P) workers seen

abbrev pub AreStored : Sight → Public → List replay.StoreSeen → (ℕ → replay.StoreSeen) → Type 0
AreStored sight P stores seen = Stands (unstored sight P) (λ x. x) (λ x. Unit {0}) stores seen

-- this is kept of what is rebuilt
pub record IsKept (sight : Sight) (P : Public) (kept : Kept) (k : replay.Rebuilt) : Type 0 where
  pub roots : kept.roots ≡ replay.shown_roots sight P
  pub workers : AreWatched P kept.workers.items k.worker
  pub stores : AreStored sight P kept.stores.items k.store
  pub table : AreAlike kept.table k.table
