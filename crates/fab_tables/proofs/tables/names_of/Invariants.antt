use Rattle.std.proofs.Common.{◌≡◌, take}
use Rattle.fab_tables.specs.Places.{texts_of}
use Rattle.fab_tables.proofs.tables.names_of.Given as goal

abbrev pub invariant-loop-item : goal.invariant-loop-item
invariant-loop-item g l = l.names ≡ texts_of g.T.Named.name (take l.item-index l.items)
