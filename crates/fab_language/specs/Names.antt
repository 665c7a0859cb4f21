-- Which item a name stands for: where several have it, the first.
use Rattle.std.specs.Prelude.{ℕ, zero, suc, Bool, true, false, ◌&&◌, not, List, [], ◌∷◌, find, Option, if◌then◌else◌}
use Rattle.std.specs.Str.{bytes_eq}
use Rattle.fab_tree.specs.declared.name.Name.{Name}
use Rattle.fab_tree.specs.declared.declaration.Role.{Role}
use Rattle.fab_tree.specs.declared.declaration.Role.TheVariants as r
use Rattle.fab_tree.specs.declared.declaration.Node.{Node}
use Rattle.fab_tree.specs.declared.declaration.LabelText.{LabelText}
use Rattle.fab_tree.specs.declared.declaration.Field.{Field}
use Rattle.fab_tree.specs.declared.declaration.Class.{Class}
use Rattle.fab_tree.specs.declared.program.Parameter.{Parameter}
use Rattle.fab_tree.specs.declared.program.Method.{Method}
use Rattle.fab_tree.specs.declared.start.Root.{Root}
use Rattle.fab_tree.specs.declared.start.Session.{Session}
use Rattle.fab_tree.specs.Limits.{is_node}

-- the names of what is declared
abbrev pub node_name : Node → Name
node_name x = x.name

abbrev pub label_name : LabelText → Name
label_name x = x.name

abbrev pub class_name : Class → Name
class_name x = x.name

abbrev pub field_name : Field → Name
field_name x = x.name

abbrev pub method_name : Method → Name
method_name x = x.name

abbrev pub local_name : Parameter → Name
local_name x = x.name

abbrev pub root_name : Root → Name
root_name x = x.name

abbrev pub session_name : Session → Name
session_name x = x.worker

-- two names of one text
abbrev pub is_same_name : Name → Name → Bool
is_same_name x y = bytes_eq x.text y.text

-- the first of these that has this name
abbrev pub named : {A : Type 0} → (A → Name) → List A → Name → Option A
named name items x = find (λ y. is_same_name (name y) x) items

-- how many stand before the first that has this name
abbrev pub number_of : {A : Type 0} → (A → Name) → List A → Name → ℕ
number_of name [] x = zero
number_of name (y ∷ ys) x = if is_same_name (name y) x then zero else suc (number_of name ys x)

-- ---- what principals are

abbrev pub is_worker : Role → Bool
is_worker r.Principal = false
is_worker (r.Worker hostile) = true
is_worker (r.Store hostile) = false

abbrev pub is_store : Role → Bool
is_store r.Principal = false
is_store (r.Worker hostile) = false
is_store (r.Store hostile) = true

abbrev pub is_hostile : Role → Bool
is_hostile r.Principal = false
is_hostile (r.Worker hostile) = hostile
is_hostile (r.Store hostile) = hostile

abbrev pub is_honest : Role → Bool
is_honest role = is_node role && not (is_hostile role)

abbrev pub is_honest_worker : Role → Bool
is_honest_worker role = is_worker role && not (is_hostile role)
