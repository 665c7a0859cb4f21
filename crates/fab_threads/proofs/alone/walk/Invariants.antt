use Rattle.std.specs.Prelude.{◌≡◌, ℕ, ◌≤◌, All}
use Rattle.fab_threads.specs.Counts.{IsReady}
use Rattle.fab_threads.proofs.alone.walk.Given as goal

abbrev pub invariant-loop-node : goal.invariant-loop-node
invariant-loop-node g l =
    (l.bench ≡ l.initial.bench) × (g.X.Turning.given l.held ≡ g.X.Turning.given l.initial.held)
    × ((n : ℕ) → g.X.Turning.sure l.held n ≡ g.X.Turning.sure l.initial.held n) × (g.X.Turning.events l.initial.held ≤ g.X.Turning.events l.held)
    × All (IsReady l.initial.bench) l.jobs
