-- What entries make of a worker, and what it sends.
use Rattle.std.specs.Prelude.{ℕ, suc, List, [], ◌∷◌, ◌++◌}
use Rattle.fab_base.specs.declared.message.Message.{Message}
use Rattle.fab_release.specs.Replay.{Runs, WorkerSeen, asks_by, ends_by, fetch, no_caches, over, prepares, run, wakes}
use Rattle.fab_release.specs.Sights.{Public, Sight}
use Rattle.fab_public.specs.declared.workers.Change.{Change}
use Rattle.fab_public.specs.declared.workers.Change.TheVariants.{Ask, Begin, End, Give, Reset, Wake}

-- another attempt
abbrev pub begun : ℕ → WorkerSeen → WorkerSeen
begun request v = record v { number = suc v.number; request = request; stage = Runs; known = []; given = [] }

-- of the worker of a number
abbrev pub changed : Sight → Public → ℕ → Change → WorkerSeen → WorkerSeen
changed sight P n (Begin request) v = begun request v
changed sight P n (Give value) v = record v { given = v.given ++ value ∷ [] }
changed sight P n Reset v = over sight P (no_caches sight P) v
changed sight P n Ask v = asks_by sight P (run sight P n v).ending v
changed sight P n End v = ends_by sight P n (run sight P n v).ending v
changed sight P n Wake v = record v { boot = suc v.boot; number = 0 }

abbrev pub told_by : Sight → Public → ℕ → Change → WorkerSeen → List (ℕ × Message)
told_by sight P n (Begin request) v = []
told_by sight P n (Give value) v = []
told_by sight P n Reset v = []
told_by sight P n Ask v = fetch sight P n (run sight P n v).ending v
told_by sight P n End v = prepares sight P n (ends_by sight P n (run sight P n v).ending v).stage v
told_by sight P n Wake v = wakes sight P v
