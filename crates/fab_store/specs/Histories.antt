-- What a store has heard, one thing after the other, and the records that it kept of it.
use Rattle.std.specs.Prelude.{ℕ, Option, Some, None, List, [], ◌∷◌, ◌++◌, IfSome}
use Rattle.std.specs.List.{AllByRecursion}
use Rattle.fab_base.specs.declared.message.Message.{Message}
use Rattle.fab_base.specs.declared.entry.Entry.{Entry}
use Rattle.fab_base.specs.MessageSpelling.{KeepsCounts}
use Rattle.fab_rights.specs.declared.rights.Rights.{Rights}
use Rattle.fab_protocol.specs.Stores.{Shelf, hears, keeps_said}

-- of whom, and what message the bytes were read as
abbrev pub Heard : Type 0
Heard = ℕ × Option Message

-- the shelf behind all of it
abbrev pub behind_all : Rights → ℕ → List Heard → Shelf → Shelf
behind_all rights s [] shelf = shelf
behind_all rights s (h ∷ hs) shelf = behind_all rights s hs (keeps_said (hears rights s h.0 h.1 shelf).entry shelf)

abbrev pub record_in : Option Entry → List Entry
record_in None = []
record_in (Some entry) = entry ∷ []

-- the records that were kept, in order
abbrev pub records_of : Rights → ℕ → List Heard → Shelf → List Entry
records_of rights s [] shelf = []
records_of rights s (h ∷ hs) shelf =
    record_in (hears rights s h.0 h.1 shelf).entry ++ records_of rights s hs (keeps_said (hears rights s h.0 h.1 shelf).entry shelf)

-- messages with counts in range, as bytes are read
abbrev pub AreReadable : List Heard → Type 0
AreReadable hs = AllByRecursion (λ h. IfSome h.1 KeepsCounts) hs
