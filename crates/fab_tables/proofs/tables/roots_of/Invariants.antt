use Rattle.std.proofs.Common.{◌≡◌, take}
use Rattle.fab_language.specs.Names.{root_name}
use Rattle.fab_tables.specs.Places.{texts_of}
use Rattle.fab_tables.proofs.tables.roots_of.Given as goal

abbrev pub invariant-loop-root : goal.invariant-loop-root
invariant-loop-root l = l.names ≡ texts_of root_name (take l.root-index l.roots)
