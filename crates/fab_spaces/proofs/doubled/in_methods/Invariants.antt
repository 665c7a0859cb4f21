use Rattle.std.proofs.Common.{◌≡◌, drop}
use Rattle.std.specs.List.{flat_map}
use Rattle.fab_language.specs.Doubled.{in_method}
use Rattle.fab_rules.specs.First.{first_from}
use Rattle.fab_spaces.proofs.doubled.in_methods.Given as goal

abbrev pub invariant-loop-method : goal.invariant-loop-method
invariant-loop-method l = first_from l.first (flat_map in_method (drop l.method-index l.methods)) ≡ first_from l.initial.first (flat_map in_method l.methods)
