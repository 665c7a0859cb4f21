-- How long records are.
use Rattle.std.specs.Prelude.{ℕ, ◌+◌, ◌*◌, length}
use Rattle.fab_base.specs.declared.entry.Entry.{Entry}
use Rattle.fab_base.specs.declared.entry.Entry.TheVariants.{Decided, Closed, Boot, Prepared, Refused, Applied, Released, BootSeen}
use Rattle.fab_base.specs.FieldSpelling.{items_bytes}
use Rattle.fab_base.specs.JournalSpelling.{result_bytes}

-- a record is so long: 4 bytes for the length, 1 for the kind, and the fields
abbrev pub record_length : Entry → ℕ
record_length (Decided tid request result stores) = 4 + 1 + 10 + 4 + length (result_bytes result) + 2 + 2 * length stores
record_length (Closed request outcome node) = 4 + 1 + 4 + 1 + 2
record_length (Boot boot) = 4 + 1 + 4
record_length (Prepared tid items) = 4 + 1 + 10 + length (items_bytes items)
record_length (Refused tid) = 4 + 1 + 10
record_length (Applied tid) = 4 + 1 + 10
record_length (Released tid) = 4 + 1 + 10
record_length (BootSeen worker boot) = 4 + 1 + 2 + 4
