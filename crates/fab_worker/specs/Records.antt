-- What a worker's records make of its session and its decisions.
use Rattle.std.specs.Prelude.{◌≡◌, ℕ, suc, List, [], ◌∷◌, ◌++◌, ◌<◌, length, slice_get, unwrap_or}
use Rattle.fab_base.specs.declared.entry.Entry.{Entry}
use Rattle.fab_base.specs.declared.entry.Entry.TheVariants as e
use Rattle.fab_net.specs.declared.outcome.ReqOutcome.TheVariants.{Committed, Unfinished}
use Rattle.fab_protocol.specs.declared.parts.Decision.{Decision}
use Rattle.fab_session.specs.Sittings.{Sitting}
use Rattle.fab_world.specs.Workers.{Kept, closings, worker_keeps}

-- a record ends a request, or is a decision
abbrev pub EndsRequest : Entry → Type 0
EndsRequest (e.Decided t request value stores) = Unit {0}
EndsRequest (e.Closed request outcome node) = Unit {0}
EndsRequest _ = ⊥

abbrev pub IsDecision : Entry → Type 0
IsDecision (e.Decided t request value stores) = Unit {0}
IsDecision _ = ⊥

abbrev pub session_behind : Entry → Sitting → Sitting
session_behind (e.Decided t request value stores) s = record s { tries = 0; outcomes = s.outcomes ++ Committed t value ∷ [] }
session_behind (e.Closed request outcome node) s = record s { tries = 0; outcomes = s.outcomes ++ unwrap_or (slice_get (closings node) outcome) Unfinished ∷ [] }
session_behind _ s = s

abbrev pub decisions_behind : Entry → List Decision → List Decision
decisions_behind (e.Decided t request value stores) decided = decided ++ record { tid = t; request = request; stores = stores; value = value } ∷ []
decisions_behind _ decided = decided

-- how many Boot records there are among these
abbrev pub boots_in : List Entry → ℕ
boots_in [] = 0
boots_in (e.Boot b ∷ entries) = suc (boots_in entries)
boots_in (_ ∷ entries) = boots_in entries

-- each record that ends a request finds one that is left, of so many, behind so many that ended
abbrev pub AreEnding : ℕ → List Entry → ℕ → Type 0
AreEnding requests [] ended = Unit {0}
AreEnding requests (e.Decided t request value stores ∷ entries) ended = (ended < requests) × AreEnding requests entries (suc ended)
AreEnding requests (e.Closed request outcome node ∷ entries) ended = (ended < requests) × AreEnding requests entries (suc ended)
AreEnding requests (_ ∷ entries) ended = AreEnding requests entries ended

-- what lasts behind these records
abbrev pub kept_behind_all : List Entry → Kept → Kept
kept_behind_all [] kept = kept
kept_behind_all (entry ∷ entries) kept = kept_behind_all entries (worker_keeps entry kept)
