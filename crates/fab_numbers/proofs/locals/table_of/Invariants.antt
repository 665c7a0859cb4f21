use Rattle.std.proofs.Common.{◌≡◌, take}
use Rattle.fab_language.specs.Names.{local_name}
use Rattle.fab_tables.specs.Places.{texts_of}
use Rattle.fab_numbers.proofs.locals.table_of.Given as goal

abbrev pub invariant-loop-declaration : goal.invariant-loop-declaration
invariant-loop-declaration l = l.table ≡ texts_of local_name (take l.declaration-index l.declarations)
