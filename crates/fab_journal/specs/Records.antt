-- What reading a journal's records gives.
use Rattle.std.specs.Prelude.{◌≡◌, ℕ, ◌+◌, ◌<◌, ◌^◌, List, ◌++◌, length, take, drop, Option, Some, None, Result, Ok, Err}
use Rattle.fab_base.specs.declared.entry.Entry.{Entry}
use Rattle.fab_base.specs.JournalSpelling.{body_bytes, IsEntry, framed, IsTorn, IsReadAs, IsFirstWrong, IsBadBody, IsBadPlace, journal_version}
use Rattle.fab_journal.specs.declared.error.RecordError.{RecordError}
use Rattle.fab_journal.specs.declared.error.RecordError.TheVariants.{Memory, Bad}

-- the whole records and their length, or where the bytes go wrong
abbrev pub ReadsRecords : Result (List Entry × ℕ) RecordError → List ℕ → Type 0
ReadsRecords (Ok read) bytes = IsReadAs bytes read.0 read.1
ReadsRecords (Err Memory) bytes = Unit {0}
ReadsRecords (Err (Bad at)) bytes = IsBadPlace bytes at

-- nothing else is answered, but for want of memory
abbrev pub AnswersOnly : Result (List Entry × ℕ) RecordError → List Entry → ℕ → Type 0
AnswersOnly (Ok read) entries len = (read.0 ≡ entries) × (read.1 ≡ len)
AnswersOnly (Err Memory) entries len = Unit {0}
AnswersOnly (Err (Bad at)) entries len = ⊥

-- the entry whose body this is, or where it goes wrong
abbrev pub ReadsBody : Result Entry RecordError → List ℕ → Type 0
ReadsBody (Ok entry) body = IsEntry journal_version entry × (body ≡ body_bytes journal_version entry)
ReadsBody (Err Memory) body = Unit {0}
ReadsBody (Err (Bad place)) body = IsBadBody journal_version body place × (place < 4 + length body)

-- the body of the whole record that stands at the front, where there is one
abbrev pub FrontRecord : Option (List ℕ) → List ℕ → Type 0
FrontRecord None bytes = IsTorn bytes
FrontRecord (Some body) bytes = (length body < 2 ^ 32) × (bytes ≡ framed body ++ drop (4 + length body) bytes)

-- the first place where bytes differ from what should stand there, and none where either begins with the other
abbrev pub FirstWrong : Option ℕ → List ℕ → List ℕ → Type 0
FirstWrong None right bytes = take (length right) bytes ≡ take (length bytes) right
FirstWrong (Some at) right bytes = IsFirstWrong right bytes at
