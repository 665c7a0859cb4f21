use Rattle.std.proofs.Common.{◌≤◌, length, ap, ◌∙◌, arith}
use Rattle.fab_language.specs.Names.{node_name, label_name, class_name, method_name, root_name}
use Rattle.fab_tables.specs.Places.{texts_of}
use Rattle.fab_tree.proofs.Within.{is_within}
use Rattle.fab_tables.proofs.tables.Tables.make.Goals as goal

pub names_of-requires-4 : goal.names_of-requires-4
names_of-requires-4 c =
    let few : length c.args.start.now.program.methods ≤ 256 = (is_within c.args.start.now c.requires).methods in
    omega (arith, few, ap length c.as_slice-4.ensures)

pub invariant_of-result : goal.invariant_of-result
invariant_of-result c =
    let within = is_within c.args.start.now c.requires in
    record {
      principals_are = c.in_ok-names_of.ensures ∙ ap (texts_of node_name) c.as_slice.ensures;
      labels_are = c.in_ok-names_of-2.ensures ∙ ap (texts_of label_name) c.as_slice-2.ensures;
      classes_are = c.in_ok-names_of-3.ensures ∙ ap (texts_of class_name) c.as_slice-3.ensures;
      methods_are = c.in_ok-names_of-4.ensures ∙ ap (texts_of method_name) c.as_slice-4.ensures;
      roots_are = c.in_ok-roots_of.ensures ∙ ap (texts_of root_name) c.as_slice-5.ensures;
      few_principals = within.principals;
      few_labels = within.labels;
      few_classes = within.classes;
      few_methods = within.methods;
      few_roots = within.roots;
    }
