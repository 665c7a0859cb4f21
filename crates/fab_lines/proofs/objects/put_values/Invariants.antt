use Rattle.std.proofs.Common.{◌≡◌, ◌++◌, map, length}
use Rattle.fab_language.specs.Words.{value_text, spaced}
use Rattle.fab_lines.proofs.objects.put_values.Given as goal

abbrev pub invariant-values : goal.invariant-values
invariant-values l = l.out ++ spaced (map (value_text l.start) l.rest) ≡ l.fn.out ++ spaced (map (value_text l.start) l.values)

abbrev pub decreases-values : goal.decreases-values
decreases-values l = length l.rest
