-- What a change makes of each part of a worker, and what it needs of them.
use Rattle.std.specs.Prelude.{◌≡◌, ℕ, ◌+◌, ◌≤◌, ◌<◌, true, List, [], ◌∷◌, ◌++◌, map, length, Option, Some, None}
use Rattle.fab_base.specs.declared.entry.Entry.{Entry}
use Rattle.fab_protocol.specs.declared.parts.Decision.{Decision}
use Rattle.fab_protocol.specs.Versions.{Rows}
use Rattle.fab_session.specs.Sittings.{Sitting}
use Rattle.fab_cache.specs.Caching.{Caching, laid}
use Rattle.fab_commit.specs.Coordinators.{voted}
use Rattle.fab_worker.specs.declared.change.Change.{Change}
use Rattle.fab_worker.specs.declared.change.Change.TheVariants as c
use Rattle.fab_worker.specs.declared.stage.Stage.{Stage}
use Rattle.fab_worker.specs.declared.stage.Stage.TheVariants as stages
use Rattle.fab_worker.specs.Records.{EndsRequest, IsDecision, decisions_behind, session_behind}

-- ---- behind a record, if there is one

abbrev pub EndsOne : Option Entry → Type 0
EndsOne None = ⊥
EndsOne (Some entry) = EndsRequest entry

abbrev pub DecidesOne : Option Entry → Type 0
DecidesOne None = ⊥
DecidesOne (Some entry) = IsDecision entry

abbrev pub session_kept : Option Entry → Sitting → Sitting
session_kept None s = s
session_kept (Some entry) s = session_behind entry s

abbrev pub decisions_kept : Option Entry → List Decision → List Decision
decisions_kept None decided = decided
decisions_kept (Some entry) decided = decisions_behind entry decided

-- ---- behind a change

abbrev pub stage_voted : ℕ → Stage → Stage
stage_voted store (stages.Preparing coordinator parts) = stages.Preparing (voted store true coordinator) parts
stage_voted store stages.Idle = stages.Idle
stage_voted store stages.Evaluating = stages.Evaluating
stage_voted store (stages.Fetching o) = stages.Fetching o

abbrev pub stage_behind : Change → Stage → Stage
stage_behind c.Nothing at = at
stage_behind (c.Answered row) at = stages.Evaluating
stage_behind (c.Found row told) at = at
stage_behind (c.Fetches o told) at = stages.Fetching o
stage_behind (c.Prepares coordinator parts told) at = stages.Preparing coordinator parts
stage_behind (c.Voted store) at = stage_voted store at
stage_behind (c.Commits caches) at = stages.Idle
stage_behind c.TryEnds at = stages.Idle
stage_behind c.Closes at = stages.Idle

abbrev pub answers_behind : Change → Rows → Rows
answers_behind (c.Answered row) answers = answers ++ row ∷ []
answers_behind (c.Found row told) answers = answers ++ row ∷ []
answers_behind (c.Commits caches) answers = []
answers_behind c.TryEnds answers = []
answers_behind c.Closes answers = []
answers_behind _ answers = answers

abbrev pub told_behind : Change → ℕ × ℕ → ℕ × ℕ
told_behind (c.Found row new) told = new
told_behind (c.Fetches o new) told = new
told_behind (c.Prepares coordinator parts new) told = new
told_behind (c.Commits caches) told = (0, 0)
told_behind c.TryEnds told = (0, 0)
told_behind c.Closes told = (0, 0)
told_behind _ told = told

abbrev pub caches_behind : Change → Caching → Caching
caches_behind (c.Commits new) caches = record caches { caches = laid new caches.caches }
caches_behind c.TryEnds caches = record caches { caches = map (λ cache. []) caches.caches }
caches_behind c.Closes caches = record caches { caches = map (λ cache. []) caches.caches }
caches_behind _ caches = caches

abbrev pub session_changed : Change → Sitting → Sitting
session_changed c.TryEnds s = record s { tries = s.tries + 1 }
session_changed _ s = s

-- what it needs of the tries, the caches, and the room for answers
abbrev pub CanCarry : Change → ℕ → List Rows → ℕ → Type 0
CanCarry (c.Answered row) tries caches spare = 1 ≤ spare
CanCarry (c.Found row told) tries caches spare = 1 ≤ spare
CanCarry (c.Commits new) tries caches spare = length new ≡ length caches
CanCarry c.TryEnds tries caches spare = tries < 8
CanCarry _ tries caches spare = Unit {0}
