use Rattle.std.proofs.Common.{◌≡◌, ◌-◌, ◌++◌, drop, length, map}
use Rattle.fab_tree.specs.declared.resolved.Local as locals
use Rattle.fab_language.specs.Meaning.{default}
use Rattle.fab_eval.proofs.plain.locals_at_start.Given as goal

abbrev pub invariant-loop-i : goal.invariant-loop-i
invariant-loop-i l = l.values.items ++ map (λ (x : locals.Local). default x.sort) (drop l.i l.locals) ≡ l.initial.values.items ++ map (λ (x : locals.Local). default x.sort) (drop l.initial.i l.locals)

abbrev pub decreases-loop-i : goal.decreases-loop-i
decreases-loop-i l = length l.locals - l.i
