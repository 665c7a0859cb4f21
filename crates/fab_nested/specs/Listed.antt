-- The names that are held, in order.
use Rattle.std.specs.Prelude.{List}
use Rattle.fab_nested.specs.declared.names.Held.{Held}
use Rattle.fab_nested.specs.declared.names.Held.TheVariants.{Few, Many}

abbrev pub listed : {T : Type 0} → Held T → List T
listed (Few list) = list.items
listed (Many set) = set.keys
