-- What contracts see of the locals that are known.
use Rattle.std.specs.Prelude.{List, map}
use Rattle.fab_tree.specs.declared.program.Parameter.{Parameter}
use Rattle.fab_rules.specs.declared.known.Local.{Local}

abbrev pub parameter_of : Local → Parameter
parameter_of x = record { sort = x.sort.now; name = x.name.now; label = x.label.now }

abbrev pub shown : List Local → List Parameter
shown = map parameter_of
