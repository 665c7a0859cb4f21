-- Where names stand in a table.
use Rattle.std.specs.Prelude.{◌≡◌, ◌≤◌, ℕ, List, map, length, Option, position}
use Rattle.std.specs.Str.{bytes_eq}
use Rattle.fab_tree.specs.declared.name.Name.{Name}
use Rattle.fab_tree.specs.declared.start.Start.{Start}
use Rattle.fab_language.specs.Names.{node_name, label_name, class_name, method_name, root_name}

-- the texts of the names of these
abbrev pub texts_of : {A : Type 0} → (A → Name) → List A → List (List ℕ)
texts_of name items = map (λ x. (name x).text) items

-- where the first of this text stands among these, none where none is
abbrev pub place_of : List (List ℕ) → List ℕ → Option ℕ
place_of names text = position (λ t. bytes_eq t text) names

-- The tables of a bundle are those of what it declares, of which there are few enough for the types of their numbers.
pub record AreTables (start : Start) (principals labels classes methods roots : List (List ℕ)) : Type 0 where
  pub principals_are : principals ≡ texts_of node_name start.program.nodes
  pub labels_are : labels ≡ texts_of label_name start.program.labels
  pub classes_are : classes ≡ texts_of class_name start.program.classes
  pub methods_are : methods ≡ texts_of method_name start.program.methods
  pub roots_are : roots ≡ texts_of root_name start.roots
  pub few_principals : length start.program.nodes ≤ 64
  pub few_labels : length start.program.labels ≤ 64
  pub few_classes : length start.program.classes ≤ 64
  pub few_methods : length start.program.methods ≤ 256
  pub few_roots : length start.roots ≤ 100000
