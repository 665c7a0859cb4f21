use Rattle.std.proofs.Common.{◌≡◌, drop}
use Rattle.std.specs.List.{flat_map}
use Rattle.fab_language.specs.Doubled.{in_class}
use Rattle.fab_rules.specs.First.{first_from}
use Rattle.fab_spaces.proofs.doubled.in_classes.Given as goal

abbrev pub invariant-loop-class : goal.invariant-loop-class
invariant-loop-class l = first_from l.first (flat_map in_class (drop l.class-index l.classes)) ≡ first_from l.initial.first (flat_map in_class l.classes)
