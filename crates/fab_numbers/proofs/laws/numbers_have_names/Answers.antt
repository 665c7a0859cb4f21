use Rattle.std.proofs.Common.{refl, sym, map, subst}
use Rattle.fab_tree.specs.Limits.{locals_of}
use Rattle.fab_language.specs.Names.{node_name, label_name, class_name, field_name, method_name, local_name, root_name}
use Rattle.fab_language.specs.Uses.{node_number}
use Rattle.fab_language.specs.MethodNumbers.{numbered_local}
use Rattle.fab_language.specs.Numbers.{label_of, class_of, field_of, resolved}
use Rattle.fab_numbers.specs.FirstNames.{IsFirst}
use Rattle.fab_numbers.proofs.FirstLemmas.{first_of, first_node, names_of_map, names_of_principals, names_of_nodes, names_of_methods, names_of_roots}
use Rattle.fab_numbers.proofs.laws.numbers_have_names.Goals as goal

pub returns : goal.returns
returns c s = record {
  principals = λ x h. first_of node_name x (λ y. y.name) s.program.nodes (resolved s).nodes (names_of_principals 0 s.program.nodes) h;
  nodes = λ x y e of. subst (λ l. IsFirst l (node_number s x) x) (sym (names_of_nodes 0 s.program.nodes)) (first_node x y s.program.nodes e of);
  labels = λ x h. first_of label_name x (λ y. y.name) s.program.labels (resolved s).labels (names_of_map label_name (λ y. y.name) (label_of s) (λ y. refl) s.program.labels) h;
  classes = λ x h. first_of class_name x (λ y. y.name) s.program.classes (resolved s).classes (names_of_map class_name (λ y. y.name) (class_of s) (λ y. refl) s.program.classes) h;
  fields = λ k x h. first_of field_name x (λ y. y.name) k.fields (class_of s k).fields (names_of_map field_name (λ y. y.name) (field_of s) (λ y. refl) k.fields) h;
  methods = λ x h. first_of method_name x (λ y. y.name) s.program.methods (resolved s).methods (names_of_methods s 0 s.program.methods) h;
  locals = λ m n x h. first_of local_name x (λ y. y.name) (locals_of m) (map (numbered_local s) (locals_of m)) (names_of_map local_name (λ y. y.name) (numbered_local s) (λ y. refl) (locals_of m)) h;
  roots = λ x h. first_of root_name x (λ y. y.name) s.roots (resolved s).roots (names_of_roots s 0 s.roots) h;
}
