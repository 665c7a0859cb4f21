use Rattle.std.proofs.Common.{◌++◌, length}
use Rattle.fab_tree.specs.Lists.{Repeated, Behind, Separated}
use Rattle.fab_reading.specs.Reading.{behind_items}
use Rattle.fab_reading.proofs.Rules.{Going}
use Rattle.fab_reading.proofs.item.separated.Given as goal

abbrev pub invariant-list : goal.invariant-list
invariant-list g l = Going (Separated g.R.Item.between g.R.Item.reads) (behind_items g.R.Item.first g.R.Item.parts g.R.Item.may) l.room l.tokens (Repeated (Behind g.R.Item.between g.R.Item.reads)) (λ xs. l.found ++ xs) l.room l.rest

abbrev pub decreases-list : goal.decreases-list
decreases-list g l = length l.rest
