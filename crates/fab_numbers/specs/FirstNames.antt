-- Numbers stand for what was written: where a name is declared, what has its number in the bundle with numbers is the first that has this name.
use Rattle.std.specs.Prelude.{◌≡◌, ◌≢◌, ℕ, ◌<◌, true, List, map, filter, Some, IsSome, slice_get}
use Rattle.fab_tree.specs.declared.name.Name.{Name}
use Rattle.fab_tree.specs.declared.declaration.Node.{Node}
use Rattle.fab_tree.specs.declared.declaration.Class.{Class}
use Rattle.fab_tree.specs.declared.program.Method.{Method}
use Rattle.fab_tree.specs.declared.start.Start.{Start}
use Rattle.fab_tree.specs.Limits.{is_node, locals_of}
use Rattle.fab_language.specs.Names.{named, number_of, node_name, label_name, class_name, field_name, method_name, local_name, root_name}
use Rattle.fab_language.specs.Uses.{principal_number, node_number, label_use, class_number, method_number, local_number}
use Rattle.fab_language.specs.MethodNumbers.{method_of}
use Rattle.fab_language.specs.Numbers.{class_of, resolved}

-- of these names, the one of this number is the first that has this text
pub record IsFirst (names : List Name) (n : ℕ) (x : Name) : Type 0 where
  pub name : Name
  pub there : slice_get names n ≡ Some name
  pub same : name.text ≡ x.text
  pub first : (k : ℕ) (y : Name) → k < n → slice_get names k ≡ Some y → y.text ≢ x.text

-- In each space of names, the number of a declared name is that of the first that has it. A node is a principal that is a worker or a store.
pub record NumbersName (s : Start) : Type 0 where
  pub principals : (x : Name) → IsSome (named node_name s.program.nodes x)
      → IsFirst (map (λ y. y.name) (resolved s).nodes) (principal_number s x) x
  pub nodes : (x : Name) (y : Node) → named node_name s.program.nodes x ≡ Some y → is_node y.role ≡ true
      → IsFirst (map (λ z. z.name) (filter (λ z. is_node z.role) (resolved s).nodes)) (node_number s x) x
  pub labels : (x : Name) → IsSome (named label_name s.program.labels x)
      → IsFirst (map (λ y. y.name) (resolved s).labels) (label_use s x).number x
  pub classes : (x : Name) → IsSome (named class_name s.program.classes x)
      → IsFirst (map (λ y. y.name) (resolved s).classes) (class_number s x) x
  pub fields : (c : Class) (x : Name) → IsSome (named field_name c.fields x)
      → IsFirst (map (λ y. y.name) (class_of s c).fields) (number_of field_name c.fields x) x
  pub methods : (x : Name) → IsSome (named method_name s.program.methods x)
      → IsFirst (map (λ y. y.name) (resolved s).methods) (method_number s x) x
  pub locals : (m : Method) (n : ℕ) (x : Name) → IsSome (named local_name (locals_of m) x)
      → IsFirst (map (λ y. y.name) (method_of s m n).0.locals) (local_number (locals_of m) x) x
  pub roots : (x : Name) → IsSome (named root_name s.roots x)
      → IsFirst (map (λ y. y.name) (resolved s).roots) (number_of root_name s.roots x) x
