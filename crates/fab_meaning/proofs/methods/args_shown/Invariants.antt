use Rattle.std.proofs.Common.{◌≡◌, ◌-◌, ◌++◌, drop, length}
use Rattle.fab_erasure.specs.Erased.{args_shown}
use Rattle.fab_meaning.specs.Sights.{sees, shows}
use Rattle.fab_meaning.proofs.methods.args_shown.Given as goal

abbrev pub invariant-loop-i : goal.invariant-loop-i
invariant-loop-i l = l.values.items ++ args_shown (sees l.sight) (shows l.sight) (drop l.i l.locals) (drop l.i l.args) ≡ args_shown (sees l.sight) (shows l.sight) l.locals l.args

abbrev pub decreases-loop-i : goal.decreases-loop-i
decreases-loop-i l = length l.args - l.i
