use Rattle.std.proofs.Common.{◌≡◌, ℕ, [], length}
use Rattle.std.specs.Prelude.{slice_get, unwrap_or}
use Rattle.fab_sent.proofs.sent.Sent.nothing.Given as goal

abbrev pub invariant-loop : goal.invariant-loop
invariant-loop l = (length l.lists.items ≡ l.counter) × ((n : ℕ) → unwrap_or (slice_get l.lists.items n) [] ≡ [])
