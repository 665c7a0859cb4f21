-- What each rule that can be repeated begins with.
use Rattle.std.proofs.Common.{IsTrue, List, refl, sym, subst}
use Rattle.fab_base.specs.declared.object.Width.TheVariants as widths
use Rattle.fab_base.specs.declared.token.Token.{Token}
use Rattle.fab_tree.specs.declared.declaration.Delegation.{Delegation}
use Rattle.fab_tree.specs.declared.declaration.LabelText.{LabelText}
use Rattle.fab_tree.specs.declared.declaration.Node.{Node}
use Rattle.fab_tree.specs.declared.declaration.PolicyText.{PolicyText}
use Rattle.fab_tree.specs.declared.declaration.Sort.{Sort}
use Rattle.fab_tree.specs.declared.declaration.Field.{Field}
use Rattle.fab_tree.specs.declared.declaration.Class.{Class}
use Rattle.fab_tree.specs.declared.program.Parameter.{Parameter}
use Rattle.fab_tree.specs.declared.program.Method.{Method}
use Rattle.fab_tree.specs.Lists.{is, name}
use Rattle.fab_tree.specs.Declarations.{worker, store, principal, honest, hostile, IsNode, node, IsDelegation, delegation, IsPolicy, policy, IsLabel, label, IsSort, number, class, IsField, field, IsClass}
use Rattle.fab_tree.specs.Programs.{IsParameter, parameter, IsMethod, method}
use Rattle.fab_reading.specs.Reading.{Starts, begins_node, begins_name, begins_label, begins_class, begins_method, begins_sort}

pub node_begins : (a : List Token) (v : Node) (b : List Token) → IsNode a v b → Starts begins_node a
node_begins a v b (node (principal (is e)) q r) = subst (λ x. IsTrue (begins_node x)) (sym e) refl
node_begins a v b (node (honest (worker (is e))) q r) = subst (λ x. IsTrue (begins_node x)) (sym e) refl
node_begins a v b (node (honest (store (is e))) q r) = subst (λ x. IsTrue (begins_node x)) (sym e) refl
node_begins a v b (node (hostile (is e) p) q r) = subst (λ x. IsTrue (begins_node x)) (sym e) refl

pub delegation_begins : (a : List Token) (v : Delegation) (b : List Token) → IsDelegation a v b → Starts begins_name a
delegation_begins a v b (delegation (name e) p q r) = subst (λ x. IsTrue (begins_name x)) (sym e) refl

pub policy_begins : (a : List Token) (v : PolicyText) (b : List Token) → IsPolicy a v b → Starts begins_name a
policy_begins a v b (policy (name e) p q) = subst (λ x. IsTrue (begins_name x)) (sym e) refl

pub label_begins : (a : List Token) (v : LabelText) (b : List Token) → IsLabel a v b → Starts begins_label a
label_begins a v b (label (is e) p q r s t u) = subst (λ x. IsTrue (begins_label x)) (sym e) refl

pub sort_begins : (a : List Token) (v : Sort) (b : List Token) → IsSort a v b → Starts begins_sort a
sort_begins a v b (number {w = widths.Int} (is e)) = subst (λ x. IsTrue (begins_sort x)) (sym e) refl
sort_begins a v b (class (name e)) = subst (λ x. IsTrue (begins_sort x)) (sym e) refl

pub field_begins : (a : List Token) (v : Field) (b : List Token) → IsField a v b → Starts begins_sort a
field_begins a v b (field p q r) = sort_begins a _ _ p

pub class_begins : (a : List Token) (v : Class) (b : List Token) → IsClass a v b → Starts begins_class a
class_begins a v b (class (is e) p q r s t u w x) = subst (λ x. IsTrue (begins_class x)) (sym e) refl

pub parameter_begins : (a : List Token) (v : Parameter) (b : List Token) → IsParameter a v b → Starts begins_sort a
parameter_begins a v b (parameter p q i r) = sort_begins a _ _ p

pub method_begins : (a : List Token) (v : Method) (b : List Token) → IsMethod a v b → Starts begins_method a
method_begins a v b (method (is e) p q r s t u w x y z f g h) = subst (λ y. IsTrue (begins_method y)) (sym e) refl
