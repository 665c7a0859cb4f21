-- The second rule of names: a name is declared a second time in its space, or a worker has a second session.
use Rattle.std.specs.Prelude.{Bool, false, List, [], ◌∷◌, ◌++◌, filter, Option, Some, None, if◌then◌else◌}
use Rattle.std.specs.List.{flat_map, list_any}
use Rattle.fab_tree.specs.declared.name.Name.{Name}
use Rattle.fab_tree.specs.declared.declaration.Node.{Node}
use Rattle.fab_tree.specs.declared.declaration.Class.{Class}
use Rattle.fab_tree.specs.declared.program.Method.{Method}
use Rattle.fab_tree.specs.declared.start.Session.{Session}
use Rattle.fab_tree.specs.declared.start.Start.{Start}
use Rattle.fab_tree.specs.Limits.{locals_of}
use Rattle.fab_language.specs.declared.rule.Fault.{Fault}
use Rattle.fab_language.specs.declared.rule.NameRule.TheVariants.{Doubled}
use Rattle.fab_language.specs.Names.{named, is_same_name, is_worker, node_name, label_name, class_name, field_name, method_name, local_name, root_name, session_name}

-- each name that one of those before it has, those in front included
abbrev pub repeats_behind : {A : Type 0} → (A → Name) → List A → List A → List Fault
repeats_behind name front [] = []
repeats_behind name front (x ∷ xs) =
    (if list_any (λ y. is_same_name (name y) (name x)) front then record { rule = Doubled; at = (name x).at } ∷ [] else [])
    ++ repeats_behind name (front ++ x ∷ []) xs

abbrev pub repeats : {A : Type 0} → (A → Name) → List A → List Fault
repeats name xs = repeats_behind name [] xs

-- the fields of one class
abbrev pub in_class : Class → List Fault
in_class c = repeats field_name c.fields

-- the locals of one method, parameters and those of all its blocks
abbrev pub in_method : Method → List Fault
in_method m = repeats local_name (locals_of m)

abbrev pub is_a_worker : Option Node → Bool
is_a_worker None = false
is_a_worker (Some n) = is_worker n.role

module _ (s : Start) where
  -- a session of a worker, hostile or not
  abbrev pub is_workers : Session → Bool
  is_workers x = is_a_worker (named node_name s.program.nodes x.worker)

  -- the names that are declared twice
  abbrev pub doubled : List Fault
  doubled =
      repeats node_name s.program.nodes
      ++ repeats label_name s.program.labels
      ++ repeats class_name s.program.classes
      ++ flat_map in_class s.program.classes
      ++ repeats method_name s.program.methods
      ++ flat_map in_method s.program.methods
      ++ repeats root_name s.roots
      ++ repeats session_name (filter is_workers s.sessions)
