use Rattle.std.proofs.Common.{◌≡◌, drop}
use Rattle.std.specs.List.{flat_map}
use Rattle.fab_language.specs.Unknown.{in_method}
use Rattle.fab_rules.specs.First.{first_from}
use Rattle.fab_faults.proofs.bundle.unknown_in_methods.Given as goal

abbrev pub invariant-loop-method : goal.invariant-loop-method
invariant-loop-method l =
    first_from l.first (flat_map (in_method l.tables) (drop l.method-index l.methods))
    ≡ first_from l.initial.first (flat_map (in_method l.tables) l.methods)
