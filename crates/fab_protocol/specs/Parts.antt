-- The parts of an attempt: what each store is asked to prepare, and what a cache takes of it behind a commit.
use Rattle.std.specs.Prelude.{ℕ, ◌≤◌, Bool, not, ◌&&◌, ◌==◌, nat_lt, if◌then◌else◌, List, [], ◌∷◌, ◌++◌, map, length, fold}
use Rattle.std.specs.List.{AllByRecursion, filter, filter_map}
use Rattle.fab_base.specs.declared.object.Oid.{Oid}
use Rattle.fab_base.specs.declared.message.Items.{Items}
use Rattle.fab_base.specs.FlatMap.{is_among}
use Rattle.fab_protocol.specs.declared.parts.Parts.{Parts}
use Rattle.fab_protocol.specs.Tables.{row_of, placed_all}
use Rattle.fab_protocol.specs.Versions.{Rows, name_of, names_of, raised}

-- a number among ascending ones
abbrev pub with_number : List ℕ → ℕ → List ℕ
with_number [] n = n ∷ []
with_number (m ∷ ms) n = if nat_lt n m then n ∷ m ∷ ms else (if n == m then m ∷ ms else m ∷ with_number ms n)

abbrev pub touched_names : Parts → List Oid
touched_names parts = map (λ t. t.0) parts.touched

-- the stores that take part: each with a touched or made object, in node order
abbrev pub stores_of : Parts → List ℕ
stores_of parts = fold with_number [] (map (λ o. o.store) (touched_names parts ++ map (λ c. c.0) parts.creates))

abbrev pub is_only_read : Parts → Oid → Bool
is_only_read parts o = not (is_among o (names_of parts.writes))

-- what a store is asked to prepare, in the order of names: the reads are what was touched and not written
abbrev pub items_at : Parts → ℕ → Items
items_at parts s = record {
  reads = placed_all (λ r. r.0) (filter (λ r. (r.0.store == s) && is_only_read parts r.0) parts.touched) [];
  writes = filter (λ w. w.0.store == s) parts.writes;
  creates = filter (λ c. c.0.store == s) parts.creates;
}

-- the touched objects, in the order of first touches, as they are behind the commit: from the writes or else from the answers
abbrev pub puts_of : Rows → Parts → Rows
puts_of answers parts = filter_map (row_of name_of (map raised parts.writes ++ answers)) (touched_names parts)

-- no more than one attempt may touch, write and make, each object of at most 16 fields
pub record KeepsParts (parts : Parts) : Type 0 where
  pub touched : length parts.touched ≤ 1024
  pub writes : length parts.writes ≤ 256
  pub written : AllByRecursion (λ w. length w.2.fields ≤ 16) parts.writes
  pub creates : length parts.creates ≤ 256
  pub created : AllByRecursion (λ c. length c.1.fields ≤ 16) parts.creates
