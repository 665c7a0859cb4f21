use Rattle.std.proofs.Common.{◌≡◌, ◌-◌, ◌≤◌, replicate}
use Rattle.std.specs.Prelude.{vec_len}
use Rattle.fab_pauses.proofs.Places.{new_of}
use Rattle.fab_pauses.proofs.evaluators.none_yet.Given as goal

abbrev pub invariant-numbers : goal.invariant-numbers
invariant-numbers l = (l.all.items ≡ replicate (vec_len l.all) (new_of l.program)) × (vec_len l.all ≤ 64)

abbrev pub decreases-numbers : goal.decreases-numbers
decreases-numbers l = 64 - vec_len l.all
