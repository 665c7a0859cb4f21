use Rattle.std.proofs.Common.{◌≡◌, ◌++◌, length}
use Rattle.fab_language.specs.Evaluation.{objects_text}
use Rattle.fab_lines.proofs.objects.put_objects.Given as goal

abbrev pub invariant-rows : goal.invariant-rows
invariant-rows l = l.out ++ objects_text l.start l.rest ≡ l.fn.out ++ objects_text l.start l.rows

abbrev pub decreases-rows : goal.decreases-rows
decreases-rows l = length l.rest
