-- The fourth rule of names: the number of arguments isn't that of the parameters, or that of values isn't that of
-- the fields. The place is the name of the method, of the class behind `new`, or of the root.
use Rattle.std.specs.Prelude.{ℕ, ◌==◌, List, [], ◌∷◌, ◌++◌, length, Option, Some, None, if◌then◌else◌}
use Rattle.std.specs.List.{flat_map}
use Rattle.fab_tree.specs.declared.name.Name.{Name}
use Rattle.fab_tree.specs.declared.declaration.Class.{Class}
use Rattle.fab_tree.specs.declared.statement.Right.{Right}
use Rattle.fab_tree.specs.declared.statement.Right.TheVariants as rights
use Rattle.fab_tree.specs.declared.program.Method.{Method}
use Rattle.fab_tree.specs.declared.start.Root.{Root}
use Rattle.fab_tree.specs.declared.start.RequestText.{RequestText}
use Rattle.fab_tree.specs.declared.start.Session.{Session}
use Rattle.fab_tree.specs.declared.start.Start.{Start}
use Rattle.fab_language.specs.declared.rule.Fault.{Fault}
use Rattle.fab_language.specs.declared.rule.NameRule.TheVariants as rule
use Rattle.fab_language.specs.Heads.{Head, declare, assign, write, call, test, atomic, result, heads_of}
use Rattle.fab_language.specs.Kinds.{class_of, method_of}

-- so many are given as are wanted, or it is a fault
abbrev pub if_as_many : ℕ → ℕ → Name → List Fault
if_as_many wanted given x = if wanted == given then [] else record { rule = rule.Arity; at = x.at } ∷ []

abbrev pub for_method : Option Method → ℕ → Name → List Fault
for_method None given x = []
for_method (Some m) given x = if_as_many (length m.parameters) given x

abbrev pub for_class : Option Class → ℕ → Name → List Fault
for_class None given x = []
for_class (Some c) given x = if_as_many (length c.fields) given x

module _ (s : Start) where
  abbrev pub in_call : Name → ℕ → List Fault
  in_call m given = for_method (method_of s m) given m

  abbrev pub in_right : Right → List Fault
  in_right (rights.Plain e) = []
  in_right (rights.Call m es) = in_call m (length es)
  in_right (rights.New c st es at) = for_class (class_of s c) (length es) c
  in_right (rights.Downgrade d e x y at) = []

  abbrev pub in_head : Head → List Fault
  in_head (declare t x l e) = []
  in_head (assign x r) = in_right r
  in_head (write x y e) = []
  in_head (call m es) = in_call m (length es)
  in_head (test e) = []
  in_head (atomic l) = []
  in_head (result x) = []

  abbrev pub in_method : Method → List Fault
  in_method m = flat_map (λ h. in_head h.1) (heads_of m)

  abbrev pub in_root : Root → List Fault
  in_root x = for_class (class_of s x.class) (length x.values) x.name

  abbrev pub in_request : RequestText → List Fault
  in_request x = in_call x.method (length x.arguments)

  abbrev pub in_session : Session → List Fault
  in_session x = flat_map in_request x.requests

  -- where too many or too few are given
  abbrev pub miscounted : List Fault
  miscounted = flat_map in_method s.program.methods ++ flat_map in_root s.roots ++ flat_map in_session s.sessions
