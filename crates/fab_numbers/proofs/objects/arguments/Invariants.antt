use Rattle.std.proofs.Common.{◌≡◌, take}
use Rattle.fab_language.specs.Numbers.{values_of}
use Rattle.fab_numbers.proofs.objects.arguments.Given as goal

abbrev pub invariant-loop-one : goal.invariant-loop-one
invariant-loop-one l = l.values.items ≡ values_of l.tables (take l.one-index l.given)
