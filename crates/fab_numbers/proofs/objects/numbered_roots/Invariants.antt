use Rattle.std.proofs.Common.{◌≡◌, ◌++◌, drop}
use Rattle.fab_language.specs.Numbers.{roots_from}
use Rattle.fab_numbers.proofs.objects.numbered_roots.Given as goal

abbrev pub invariant-loop-number : goal.invariant-loop-number
invariant-loop-number l = l.made ++ roots_from l.tables l.number (drop l.number l.roots) ≡ roots_from l.tables 0 l.roots
