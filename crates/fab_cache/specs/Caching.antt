-- Caches as contracts see them, what replaces them behind puts, and the cache of one store.
use Rattle.std.specs.Prelude.{◌≡◌, ℕ, suc, ◌≤◌, List, [], ◌∷◌, ◌++◌, length, map, reverse}
use Rattle.std.specs.Prelude.{Option, Some, None, unwrap_or}
use Rattle.std.specs.List.{AllByRecursion}
use Rattle.fab_base.specs.declared.object.Oid.{Oid}
use Rattle.fab_base.specs.declared.object.Object.{Object}
use Rattle.fab_protocol.specs.Tables.{OnlyOnce}
use Rattle.fab_protocol.specs.Versions.{Row, Rows, names_of}
use Rattle.fab_protocol.specs.Caches.{with_older, last_distinct, at_store}

-- how many rows a cache keeps at most, and the cache of each store
pub record Caching : Type 0 where
  pub k : ℕ
  pub caches : List Rows

-- ---- new caches

-- a cache behind these puts, where there are any
abbrev pub renewed_one : ℕ → Rows → Rows → Option Rows
renewed_one k [] cache = None
renewed_one k (row ∷ rows) cache = Some (last_distinct k (cache ++ row ∷ rows))

-- of the stores from s on, the cache of each that some of these puts are of, as it is behind them
abbrev pub renewed : ℕ → Rows → ℕ → List Rows → List (Option Rows)
renewed k puts s [] = []
renewed k puts s (cache ∷ caches) = renewed_one k (at_store s puts) cache ∷ renewed k puts (suc s) caches

-- old caches with the new ones in their places
abbrev pub laid : List (Option Rows) → List Rows → List Rows
laid [] olds = olds
laid (new ∷ news) [] = []
laid (new ∷ news) (old ∷ olds) = unwrap_or new old ∷ laid news olds

-- ---- what holds of caches

-- each has each name once
abbrev pub AreOnce : List Rows → Type 0
AreOnce caches = AllByRecursion (λ cache. OnlyOnce (names_of cache)) caches

-- each is its own last k distinct
abbrev pub AreLast : ℕ → List Rows → Type 0
AreLast k caches = AllByRecursion (λ cache. last_distinct k cache ≡ cache) caches

-- each has at most k rows
abbrev pub AreFew : ℕ → List Rows → Type 0
AreFew k caches = AllByRecursion (λ cache. length cache ≤ k) caches

-- ---- the cache of one store

-- the row of an entry: a name with a version and an object
abbrev pub row_of_entry : Oid × (ℕ × Object) → Row
row_of_entry e = (e.0, e.1.0, e.1.1)

-- the rows of entries of which the newest stands first, the oldest first
abbrev pub rows_in : List (Oid × (ℕ × Object)) → Rows
rows_in entries = reverse (map row_of_entry entries)

-- these put in front of newer ones, the last first
abbrev pub lasting : ℕ → Rows → Rows → Rows
lasting k [] newer = newer
lasting k (row ∷ rows) newer = with_older k row (lasting k rows newer)
