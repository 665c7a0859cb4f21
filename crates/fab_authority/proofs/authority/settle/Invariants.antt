use Rattle.std.proofs.Common.{◌*◌, ◌-◌, ◌^◌, length, sum}
use Rattle.fab_authority.specs.Called.{AreGrown}
use Rattle.fab_authority.proofs.authority.settle.Given as goal

abbrev pub invariant-loop : goal.invariant-loop
invariant-loop l = AreGrown l.calls l.initial.sets l.sets

abbrev pub decreases-loop : goal.decreases-loop
decreases-loop l = length l.sets * 2 ^ 64 - sum l.sets
