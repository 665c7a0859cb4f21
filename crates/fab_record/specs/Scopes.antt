-- What contracts see of a place in a method.
use Rattle.std.specs.Prelude.{ℕ, Bool, List, Option}
use Rattle.fab_tree.specs.declared.resolved.Class.{Class}
use Rattle.fab_tree.specs.declared.resolved.Expression.{Expression}
use Rattle.fab_tree.specs.declared.resolved.Statement.{Statement}
use Rattle.fab_tree.specs.declared.resolved.Use.{Use}
use Rattle.fab_labelling.specs.Obligations as o
use Rattle.fab_rights.specs.Computed.{has_bit}
use Rattle.fab_record.specs.declared.scope.Scope.{Scope}
use Rattle.fab_record.specs.Hidden as hidden

abbrev pub class_behind : Scope → Use → Option Class
class_behind c x = o.class_behind c.classes.now c.locals.now x

abbrev pub reads_seen : Scope → Expression → Bool
reads_seen c e = hidden.reads_seen (has_bit c.labels) c.classes.now c.locals.now e

abbrev pub hidden_in : Scope → Statement → Bool → List ℕ
hidden_in c x = hidden.hidden_in (has_bit c.labels) c.classes.now c.locals.now x

abbrev pub hidden_block : Scope → List Statement → Bool → List ℕ
hidden_block c xs = hidden.hidden_block (has_bit c.labels) c.classes.now c.locals.now xs
