use Rattle.std.proofs.Common.{◌<◌, ℕ, Contains}
use Rattle.fab_infer.proofs.closing.numbers.Given as goal

abbrev pub invariant-loop-hole : goal.invariant-loop-hole
invariant-loop-hole l = (h : ℕ) → h < l.hole → Contains l.all.items h
