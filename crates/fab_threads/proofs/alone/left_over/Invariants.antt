use Rattle.std.specs.Prelude.{◌≡◌, ℕ, ◌≤◌}
use Rattle.fab_threads.proofs.alone.left_over.Given as goal

abbrev pub invariant-loop : goal.invariant-loop
invariant-loop g l =
    (goal.iterator-loop g).can_next l.iterator' × (goal.iterator-loop g).is_finite l.iterator' × (l.bench ≡ l.initial.bench)
    × (g.X.Turning.given l.held ≡ g.X.Turning.given l.initial.held) × ((n : ℕ) → g.X.Turning.sure l.held n ≡ g.X.Turning.sure l.initial.held n)
    × (g.X.Turning.events l.initial.held ≤ g.X.Turning.events l.held)
