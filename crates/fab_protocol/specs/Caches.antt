-- Caches: of each store the last so many distinct objects that were put.
use Rattle.std.specs.Prelude.{ℕ, suc, ◌==◌, ◌||◌, nat_le, if◌then◌else◌, List, [], ◌∷◌, ◌++◌, length, Option, slice_get, unwrap_or}
use Rattle.std.specs.List.{filter}
use Rattle.fab_base.specs.declared.object.Oid.{Oid}
use Rattle.fab_base.specs.FlatMap.{is_among}
use Rattle.fab_protocol.specs.Tables.{row_of}
use Rattle.fab_protocol.specs.Versions.{Row, Rows, name_of, names_of}

-- a put in front of newer ones: it stays where none of these has its name and there are fewer than k
abbrev pub with_older : ℕ → Row → Rows → Rows
with_older k row newer = if is_among row.0 (names_of newer) || nat_le k (length newer) then newer else row ∷ newer

-- the last k distinct of these, each with its last put
abbrev pub last_distinct : ℕ → Rows → Rows
last_distinct k [] = []
last_distinct k (row ∷ rows) = with_older k row (last_distinct k rows)

-- those of a store
abbrev pub at_store : ℕ → Rows → Rows
at_store s puts = filter (λ row. row.0.store == s) puts

-- the caches of the stores from s on behind these puts, each of which goes into the cache of its store
abbrev pub cached : ℕ → Rows → ℕ → List Rows → List Rows
cached k puts s [] = []
cached k puts s (cache ∷ caches) = last_distinct k (cache ++ at_store s puts) ∷ cached k puts (suc s) caches

-- the object of this name in the cache of its store
abbrev pub cached_row : List Rows → Oid → Option Row
cached_row caches o = row_of name_of (unwrap_or (slice_get caches o.store) []) o
