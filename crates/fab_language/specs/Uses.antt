-- Which number each name has where it is used.
--
-- A name has the number of what it stands for: how many of the same kind stand before it, from 0, in the order of
-- the text. A name that nothing has gets the number behind the last. A plain principal has no number of its own among
-- workers and stores: where one of these is wanted, it gets that of the next behind it, or the one behind the last.
use Rattle.std.specs.Prelude.{ℕ, List, [], count_by, take, Option, Some, None}
use Rattle.fab_tree.specs.declared.name.Name.{Name}
use Rattle.fab_tree.specs.declared.declaration.Node.{Node}
use Rattle.fab_tree.specs.declared.declaration.Sort.{Sort}
use Rattle.fab_tree.specs.declared.declaration.Sort.TheVariants as sorts
use Rattle.fab_tree.specs.declared.declaration.Field.{Field}
use Rattle.fab_tree.specs.declared.declaration.Class.{Class}
use Rattle.fab_tree.specs.declared.program.Parameter.{Parameter}
use Rattle.fab_tree.specs.declared.start.Start.{Start}
use Rattle.fab_tree.specs.declared.resolved.Use.{Use}
use Rattle.fab_tree.specs.declared.resolved.Sort.{Sort as NumberedSort}
use Rattle.fab_tree.specs.declared.resolved.Sort.TheVariants as numbered
use Rattle.fab_tree.specs.Limits.{is_node}
use Rattle.fab_language.specs.Names.{named, number_of, node_name, label_name, class_name, field_name, method_name, local_name}

-- the use of a name, among these
abbrev pub use_of : {A : Type 0} → (A → Name) → List A → Name → Use
use_of name items x = record { number = number_of name items x; at = x.at }

-- ---- principals and nodes

-- principals are numbered all together
abbrev pub principal_number : Start → Name → ℕ
principal_number s x = number_of node_name s.program.nodes x

abbrev pub principal_use : Start → Name → Use
principal_use s x = use_of node_name s.program.nodes x

-- how many workers and stores there are before the principal of this number
abbrev pub nodes_before : ℕ → List Node → ℕ
nodes_before n nodes = count_by (λ x. is_node x.role) (take n nodes)

-- workers and stores are numbered among themselves
abbrev pub node_number : Start → Name → ℕ
node_number s x = nodes_before (principal_number s x) s.program.nodes

abbrev pub node_use : Start → Name → Use
node_use s x = record { number = node_number s x; at = x.at }

-- ---- labels, classes and methods

abbrev pub label_use : Start → Name → Use
label_use s x = use_of label_name s.program.labels x

abbrev pub class_number : Start → Name → ℕ
class_number s x = number_of class_name s.program.classes x

abbrev pub class_use : Start → Name → Use
class_use s x = use_of class_name s.program.classes x

abbrev pub method_number : Start → Name → ℕ
method_number s x = number_of method_name s.program.methods x

abbrev pub method_use : Start → Name → Use
method_use s x = use_of method_name s.program.methods x

-- a type, with the number of its class
abbrev pub sort_of : Start → Sort → NumberedSort
sort_of s (sorts.Number w) = numbered.Number w
sort_of s (sorts.Class x) = numbered.Class (class_use s x)

-- ---- locals and fields

abbrev pub local_number : List Parameter → Name → ℕ
local_number locals x = number_of local_name locals x

abbrev pub local_use : List Parameter → Name → Use
local_use locals x = use_of local_name locals x

-- the fields of a class, none where there is no class
abbrev pub fields_in : Option Class → List Field
fields_in None = []
fields_in (Some c) = c.fields

-- those of what a value of this type refers to
abbrev pub fields_of_sort : Start → Sort → List Field
fields_of_sort s (sorts.Number w) = []
fields_of_sort s (sorts.Class x) = fields_in (named class_name s.program.classes x)

-- those of what a local refers to
abbrev pub fields_of_local : Start → Option Parameter → List Field
fields_of_local s None = []
fields_of_local s (Some p) = fields_of_sort s p.sort

-- the number of the field `y` of what the local `x` refers to
abbrev pub field_number : Start → List Parameter → Name → Name → ℕ
field_number s locals x y = number_of field_name (fields_of_local s (named local_name locals x)) y
