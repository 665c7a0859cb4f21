use Rattle.std.proofs.Common.{◌≡◌, ◌++◌, drop}
use Rattle.fab_labelling.specs.Claims.{calls_from}
use Rattle.fab_authority.proofs.authority.calls_of.Given as goal

abbrev pub invariant-loop-caller : goal.invariant-loop-caller
invariant-loop-caller l = l.calls.items ++ calls_from l.caller (drop l.caller l.methods) ≡ calls_from 0 l.methods
