use Rattle.std.specs.Prelude.{◌≡◌, ℕ, ◌≤◌}
use Rattle.fab_threads.proofs.alone.finish.Given as goal

abbrev pub invariant-loop : goal.invariant-loop
invariant-loop g l =
    (goal.iterator-loop g).can_next l.iterator' × (goal.iterator-loop g).is_finite l.iterator'
    × (g.X.Turning.given l.held ≡ g.X.Turning.given l.fn.held) × ((n : ℕ) → g.X.Turning.sure l.held n ≡ g.X.Turning.sure l.fn.held n)
    × (g.X.Turning.events l.fn.held ≤ g.X.Turning.events l.held) × (l.bench ≡ (g.X.Turning.given l.fn.held).program)
