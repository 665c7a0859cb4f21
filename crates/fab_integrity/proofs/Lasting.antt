-- What lasts of a node by its records: at the start, and one record later.
use Rattle.std.specs.Prelude.{◌≡◌, ℕ, List, [], ◌∷◌, ◌++◌, Option, Some, None}
use Rattle.std.proofs.Common.{refl, ap}
use Rattle.std.proofs.lemmas.List.{append-nil}
use Rattle.std.proofs.lemmas.List.Sums.{fold-append}
use Rattle.fab_base.specs.declared.entry.Entry.{Entry}
use Rattle.fab_base.specs.FlatMap.{FlatMap}
use Rattle.fab_protocol.specs.Stores.{shelf_of, shelf_at_start, keeps_said}
use Rattle.fab_protocol.proofs.ShelfKept.{shelf_goes_on}
use Rattle.fab_world.specs.Machine.{option_list}
use Rattle.fab_world.specs.Workers.{Kept, kept_of, worker_keeps}

-- ---- of a worker

-- the first boot, and nothing decided
pub kept_start : kept_of [] ≡ record { boot = 1; decided = []; outcomes = [] }
unfolding kept_of
kept_start = refl

pub kept_more : (entries : List Entry) (entry : Entry) → kept_of (entries ++ entry ∷ []) ≡ worker_keeps entry (kept_of entries)
unfolding kept_of
kept_more entries entry =
    fold-append (λ kept entry. worker_keeps entry kept) (record { boot = 1; decided = []; outcomes = [] }) entries (entry ∷ [])

-- the same with the record of an act, if it has one
abbrev pub kept_behind : Option Entry → Kept → Kept
kept_behind None k = k
kept_behind (Some entry) k = worker_keeps entry k

-- so a worker keeps what it kept, and the record
pub keeps_behind : (entries : List Entry) (entry : Option Entry) → kept_of (entries ++ option_list entry) ≡ kept_behind entry (kept_of entries)
keeps_behind entries None = ap kept_of (append-nil entries)
keeps_behind entries (Some entry) = kept_more entries entry

-- ---- of a store

-- the roots of the store, and nothing heard
pub shelf_start : (roots : FlatMap) (s : ℕ) → shelf_of roots s [] ≡ shelf_at_start roots s
unfolding shelf_of
shelf_start roots s = refl

-- with the record of an act, if it has one
pub shelf_more : (roots : FlatMap) (s : ℕ) (entries : List Entry) (entry : Option Entry)
    → shelf_of roots s (entries ++ option_list entry) ≡ keeps_said entry (shelf_of roots s entries)
shelf_more roots s entries None = ap (shelf_of roots s) (append-nil entries)
shelf_more roots s entries (Some entry) = shelf_goes_on roots s entries entry
