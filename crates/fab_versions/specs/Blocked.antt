-- Rows in blocks, each under a lower bound of its names.
use Rattle.std.specs.Prelude.{◌≡◌, ℕ, ◌+◌, ◌<◌, ◌≤◌, true, false, List, [], ◌∷◌, ◌++◌, length, take, drop, IsTrue}
use Rattle.std.specs.List.{AllByRecursion, HoldsAt}
use Rattle.fab_base.specs.declared.object.Oid.{Oid}
use Rattle.fab_base.specs.FlatMap.{is_before}
use Rattle.fab_protocol.specs.Tables.{ascends}
use Rattle.fab_protocol.specs.Versions.{Row, Rows, name_of}
use Rattle.fab_versions.specs.Holdings.{Holding}

-- rows under a key
abbrev pub Block : Type 0
Block = Oid × Holding

-- the rows of blocks, one behind the other
abbrev pub rows_in : List Block → Rows
rows_in [] = []
rows_in (block ∷ blocks) = block.1.rows ++ rows_in blocks

-- these names are at or behind this one
abbrev pub AreFrom : Oid → Rows → Type 0
AreFrom o rows = AllByRecursion (λ row. is_before (name_of row) o ≡ false) rows

-- these names are before this one
abbrev pub AreBefore : Oid → Rows → Type 0
AreBefore o rows = AllByRecursion (λ row. is_before (name_of row) o ≡ true) rows

-- a block's key and its names are before this one
abbrev pub Precedes : Block → Oid → Type 0
Precedes block o = (is_before block.0 o ≡ true) × AreBefore o block.1.rows

-- the block's rows ascend, and are at or behind its key and before the keys of the blocks behind it
pub record IsBlock (block : Block) (behind : List Block) : Type 0 where
  pub ascending : IsTrue (ascends name_of block.1.rows)
  pub from_key : AreFrom block.0 block.1.rows
  pub apart : AllByRecursion (λ next. Precedes block next.0) behind

-- so it is with each
abbrev pub InBlocks : List Block → Type 0
InBlocks [] = Unit {0}
InBlocks (block ∷ blocks) = IsBlock block blocks × InBlocks blocks

-- all keys are behind this name
abbrev pub AreBehind : Oid → List Block → Type 0
AreBehind o blocks = AllByRecursion (λ block. is_before o block.0 ≡ true) blocks

-- the block in which a name goes stands at place i: the last with a key at or before it
pub record IsBlockAt (o : Oid) (blocks : List Block) (i : ℕ) : Type 0 where
  pub in_range : i < length blocks
  pub reached : HoldsAt (λ block. is_before o block.0 ≡ false) blocks i
  pub passed : AreBehind o (drop (i + 1) blocks)

-- rows in two parts, of which the upper begins with this name
pub record IsCut (rows lower : Rows) (o : Oid) (upper : Rows) : Type 0 where
  pub parts : rows ≡ lower ++ upper
  pub below : 0 < length lower
  pub first : Row
  pub others : Rows
  pub begins : upper ≡ first ∷ others
  pub named : name_of first ≡ o
