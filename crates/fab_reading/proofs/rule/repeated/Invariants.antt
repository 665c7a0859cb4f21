use Rattle.std.proofs.Common.{◌++◌, length}
use Rattle.fab_tree.specs.Lists.{Repeated}
use Rattle.fab_reading.specs.Reading.{behind_list}
use Rattle.fab_reading.proofs.Rules.{Going}
use Rattle.fab_reading.proofs.rule.repeated.Given as goal

abbrev pub invariant-list : goal.invariant-list
invariant-list g l = Going (Repeated g.R.Rule.reads) (behind_list g.R.Rule.first g.R.Rule.may) l.room l.tokens (Repeated g.R.Rule.reads) (λ xs. l.found ++ xs) l.room l.rest

abbrev pub decreases-list : goal.decreases-list
decreases-list g l = length l.rest
