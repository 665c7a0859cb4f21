-- What contracts see of a place in a method. That it has authority plays no part in what flows.
use Rattle.std.specs.Prelude.{ℕ, List, [], ◌++◌, Option, slice_get}
use Rattle.std.specs.List.{flat_map}
use Rattle.fab_tree.specs.declared.resolved.Use.{Use}
use Rattle.fab_tree.specs.declared.resolved.Expression.{Expression}
use Rattle.fab_tree.specs.declared.resolved.Right.{Right}
use Rattle.fab_tree.specs.declared.resolved.Statement.{Statement}
use Rattle.fab_tree.specs.declared.resolved.Method.{Method}
use Rattle.fab_labelling.specs.Obligations.{label_of_local, part, under}
use Rattle.fab_labelling.specs.Obligations as o
use Rattle.fab_holes.specs.Flowing as f
use Rattle.fab_holes.specs.Flowing.{all_to}
use Rattle.fab_infer.specs.declared.scope.Scope.{Scope}
use Rattle.fab_infer.specs.declared.labels.Names.{Names}

-- the labels of what is read in an expression
abbrev pub labels_of : Names → Expression → List ℕ
labels_of n e = (part n.classes.now n.locals.now e).labels

-- the labels that decide in a block with this condition
abbrev pub inside_of : Names → List ℕ → Expression → List ℕ
inside_of n pc e = under pc (labels_of n e)

abbrev pub given_flows : Scope → List ℕ → List Expression → List ℕ → List (ℕ × ℕ)
given_flows s pc es to = f.given_flows s.names.classes.now s.methods.now s.names.locals.now [] pc es to

abbrev pub call_flows : Scope → List ℕ → Use → List Expression → List (ℕ × ℕ)
call_flows s pc x es = f.call_flows s.names.classes.now s.methods.now s.names.locals.now [] pc x es

abbrev pub right_flows : Scope → List ℕ → Right → List (ℕ × ℕ)
right_flows s pc x = f.right_flows s.names.classes.now s.methods.now s.names.locals.now [] pc x

abbrev pub right_labels : Scope → Right → List ℕ
right_labels s x = o.right_labels s.names.classes.now s.methods.now s.names.locals.now [] x

abbrev pub returned : Scope → Option Method → List ℕ
returned s m = o.returned s.names.classes.now s.methods.now s.names.locals.now [] m

-- what an assignment to a local gives
abbrev pub assigning : Scope → List ℕ → ℕ → Right → List (ℕ × ℕ)
assigning s pc x r = right_flows s pc r ++ flat_map (all_to (pc ++ right_labels s r)) (label_of_local (slice_get s.names.locals.now x))

abbrev pub statement_flows : Scope → List ℕ → Statement → List (ℕ × ℕ)
statement_flows s pc x = f.statement_flows s.names.classes.now s.methods.now s.names.locals.now [] x pc

abbrev pub block_flows : Scope → List ℕ → List Statement → List (ℕ × ℕ)
block_flows s pc xs = f.block_flows s.names.classes.now s.methods.now s.names.locals.now [] xs pc
