-- A program, part by part.
use Rattle.std.proofs.Common.{Bool, IsTrue, List, [], false, not, refl, subst, sym, true, ℕ, ◌&&◌, ◌∷◌, ◌≡◌}
use Rattle.fab_base.specs.declared.token.Kind.{Kind}
use Rattle.fab_base.specs.declared.token.Kind.TheVariants as k
use Rattle.fab_base.specs.declared.token.Mark.TheVariants as m
use Rattle.fab_base.specs.declared.token.Token.{Token}
use Rattle.fab_tree.specs.declared.declaration.Class.{Class}
use Rattle.fab_tree.specs.declared.declaration.Delegation.{Delegation}
use Rattle.fab_tree.specs.declared.declaration.LabelText.{LabelText}
use Rattle.fab_tree.specs.declared.declaration.Node.{Node}
use Rattle.fab_tree.specs.declared.program.Method.{Method}
use Rattle.fab_tree.specs.declared.program.Program.{Program}
use Rattle.fab_tree.specs.Declarations.{IsClass, IsDelegation, IsLabel, IsNode}
use Rattle.fab_tree.specs.Lists.{Repeated, no_more, one_more}
use Rattle.fab_tree.specs.Programs.{IsMethod, IsProgram, program}
use Rattle.fab_reading.specs.Reading.{Follows, Starts, any, begins_class, begins_label, begins_method, begins_name, begins_node, behind_list}
use Rattle.fab_reading.proofs.ListRules.{starts_follows, weaker}
use Rattle.fab_reading.proofs.Rules.{End, Going, Then, followed, never}
use Rattle.fab_parser.proofs.Chains.{chain}
use Rattle.fab_parser.specs.Firsts.{class_begins, delegation_begins, label_begins, method_begins}
use Rattle.fab_parser.specs.Pieces.{after_program}

-- ---- what comes behind a list of a program may follow it

-- what comes behind a list that may be empty may follow, where what begins an item may and what comes behind it may
list_follows : {A : Type 0} {P : List Token → A → List Token → Type 0} (first may : Kind → Bool) → ((x : List Token) (t : A) (y : List Token) → P x t y → Starts first x) → ((k : Kind) → IsTrue (first k) → IsTrue (may k)) → (more : List Token) (v : List A) (mid : List Token) → Repeated P more v mid → Follows may mid → Follows may more
list_follows first may begins meets more v mid no_more h = h
list_follows first may begins meets more v mid (one_more {b = b} {x = x} p q) h = starts_follows first may meets more (begins more x b p)

first_holds : (b c : Bool) → IsTrue (not b && c) → IsTrue (not b && true)
first_holds true c h = absurd (cc)
first_holds false c h = refl

-- no item follows
first_only : (first may : Kind → Bool) (a : List Token) → Follows (behind_list first may) a → Follows (behind_list first any) a
first_only first may [] h = tt
first_only first may (t ∷ ts) h = first_holds (first t.kind) (may t.kind) h

abbrev behind_class : Kind → Bool
behind_class = behind_list begins_class (behind_list begins_method any)

abbrev behind_label : Kind → Bool
behind_label = behind_list begins_label behind_class

abbrev behind_delegation : Kind → Bool
behind_delegation = behind_list begins_name behind_label

after_nodes : (a : List Token) → Follows after_program a → Follows (behind_list begins_node any) a
after_nodes a h = first_only begins_node behind_delegation a h

after_delegations : (a : List Token) → Follows after_program a → Follows (behind_list begins_name any) a
after_delegations a h = first_only begins_name behind_label a (weaker begins_node behind_delegation a h)

after_labels : (a : List Token) → Follows after_program a → Follows (behind_list begins_label any) a
after_labels a h = first_only begins_label behind_class a (weaker begins_name behind_label a (weaker begins_node behind_delegation a h))

only_classes : (a : List Token) → Follows after_program a → Follows behind_class a
only_classes a h = weaker begins_label behind_class a (weaker begins_name behind_label a (weaker begins_node behind_delegation a h))

after_classes : (a : List Token) → Follows after_program a → Follows (behind_list begins_class any) a
after_classes a h = first_only begins_class (behind_list begins_method any) a (only_classes a h)

pub after_methods : (a : List Token) → Follows after_program a → Follows (behind_list begins_method any) a
after_methods a h = weaker begins_class (behind_list begins_method any) a (only_classes a h)

module _ (may : Kind → Bool) (method_may : (k : Kind) → IsTrue (begins_method k) → IsTrue (may k)) where
  methods_follow : (more : List Token) (v : List Method) (after : List Token) → Repeated IsMethod more v after → Follows may after → Follows may more
  methods_follow more v after q h = list_follows begins_method may method_begins method_may more v after q h

  classes_follow : ((k : Kind) → IsTrue (begins_class k) → IsTrue (may k)) → (more : List Token) (v : List Class × List Method) (after : List Token)
      → Then (Repeated IsClass) (Repeated IsMethod) more v after → Follows may after → Follows may more
  classes_follow class_may more v after q h = list_follows begins_class may class_begins class_may more v.0 q.mid q.first (methods_follow q.mid v.1 after q.second h)

  labels_follow : ((k : Kind) → IsTrue (begins_class k) → IsTrue (may k)) → ((k : Kind) → IsTrue (begins_label k) → IsTrue (may k))
      → (more : List Token) (v : List LabelText × (List Class × List Method)) (after : List Token)
      → Then (Repeated IsLabel) (Then (Repeated IsClass) (Repeated IsMethod)) more v after → Follows may after → Follows may more
  labels_follow class_may label_may more v after q h = list_follows begins_label may label_begins label_may more v.0 q.mid q.first (classes_follow class_may q.mid v.1 after q.second h)

  delegations_follow : ((k : Kind) → IsTrue (begins_class k) → IsTrue (may k)) → ((k : Kind) → IsTrue (begins_label k) → IsTrue (may k))
      → ((k : Kind) → IsTrue (begins_name k) → IsTrue (may k))
      → (more : List Token) (v : List Delegation × (List LabelText × (List Class × List Method))) (after : List Token)
      → Then (Repeated IsDelegation) (Then (Repeated IsLabel) (Then (Repeated IsClass) (Repeated IsMethod))) more v after
      → Follows may after → Follows may more
  delegations_follow class_may label_may name_may more v after q h = list_follows begins_name may delegation_begins name_may more v.0 q.mid q.first (labels_follow class_may label_may q.mid v.1 after q.second h)

pub behind_methods : (more : List Token) (v : Unit {0}) (after : List Token) → End more v after → Follows after_program after → Follows (behind_list begins_method any) more
behind_methods more v after q h = subst (λ x. Follows (behind_list begins_method any) x) (sym q) (after_methods after h)

method_behind_classes : (x : Kind) → IsTrue (begins_method x) → IsTrue (behind_list begins_class any x)
method_behind_classes (k.Fixed m.Method) h = refl
method_behind_classes _ h = absurd (never h)

pub behind_classes : (more : List Token) (v : List Method) (after : List Token) → Repeated IsMethod more v after → Follows after_program after
    → Follows (behind_list begins_class any) more
behind_classes more v after q h = methods_follow (behind_list begins_class any) method_behind_classes more v after q (after_classes after h)

method_behind_labels : (x : Kind) → IsTrue (begins_method x) → IsTrue (behind_list begins_label any x)
method_behind_labels (k.Fixed m.Method) h = refl
method_behind_labels _ h = absurd (never h)

class_behind_labels : (x : Kind) → IsTrue (begins_class x) → IsTrue (behind_list begins_label any x)
class_behind_labels (k.Fixed m.Class) h = refl
class_behind_labels _ h = absurd (never h)

pub behind_labels : (more : List Token) (v : List Class × List Method) (after : List Token) → Then (Repeated IsClass) (Repeated IsMethod) more v after
    → Follows after_program after → Follows (behind_list begins_label any) more
behind_labels more v after q h = classes_follow (behind_list begins_label any) method_behind_labels class_behind_labels more v after q (after_labels after h)

method_behind_delegations : (x : Kind) → IsTrue (begins_method x) → IsTrue (behind_list begins_name any x)
method_behind_delegations (k.Fixed m.Method) h = refl
method_behind_delegations _ h = absurd (never h)

class_behind_delegations : (x : Kind) → IsTrue (begins_class x) → IsTrue (behind_list begins_name any x)
class_behind_delegations (k.Fixed m.Class) h = refl
class_behind_delegations _ h = absurd (never h)

label_behind_delegations : (x : Kind) → IsTrue (begins_label x) → IsTrue (behind_list begins_name any x)
label_behind_delegations (k.Fixed m.Label) h = refl
label_behind_delegations _ h = absurd (never h)

pub behind_delegations : (more : List Token) (v : List LabelText × (List Class × List Method)) (after : List Token)
    → Then (Repeated IsLabel) (Then (Repeated IsClass) (Repeated IsMethod)) more v after → Follows after_program after → Follows (behind_list begins_name any) more
behind_delegations more v after q h = labels_follow (behind_list begins_name any) method_behind_delegations class_behind_delegations label_behind_delegations more v after q (after_delegations after h)

method_behind_nodes : (x : Kind) → IsTrue (begins_method x) → IsTrue (behind_list begins_node any x)
method_behind_nodes (k.Fixed m.Method) h = refl
method_behind_nodes _ h = absurd (never h)

class_behind_nodes : (x : Kind) → IsTrue (begins_class x) → IsTrue (behind_list begins_node any x)
class_behind_nodes (k.Fixed m.Class) h = refl
class_behind_nodes _ h = absurd (never h)

label_behind_nodes : (x : Kind) → IsTrue (begins_label x) → IsTrue (behind_list begins_node any x)
label_behind_nodes (k.Fixed m.Label) h = refl
label_behind_nodes _ h = absurd (never h)

name_behind_nodes : (x : Kind) → IsTrue (begins_name x) → IsTrue (behind_list begins_node any x)
name_behind_nodes (k.Name y) h = refl
name_behind_nodes _ h = absurd (never h)

pub behind_nodes : (more : List Token) (v : List Delegation × (List LabelText × (List Class × List Method))) (after : List Token)
    → Then (Repeated IsDelegation) (Then (Repeated IsLabel) (Then (Repeated IsClass) (Repeated IsMethod))) more v after → Follows after_program after
    → Follows (behind_list begins_node any) more
behind_nodes more v after q h = delegations_follow (behind_list begins_node any) method_behind_nodes class_behind_nodes label_behind_nodes name_behind_nodes more v after q (after_nodes after h)

-- ---- program = {node} {delegation} {label} {class} {method}

abbrev pub ProgramParts : Type 0
ProgramParts = List Node × (List Delegation × (List LabelText × (List Class × List Method)))

abbrev pub program_of : ProgramParts → Program
program_of v = record { nodes = v.0; delegations = v.1.0; labels = v.1.1.0; classes = v.1.1.1.0; methods = v.1.1.1.1 }

abbrev pub ProgramChain : List Token → ProgramParts → List Token → Type 0
ProgramChain = Then (Repeated IsNode) (Then (Repeated IsDelegation) (Then (Repeated IsLabel) (Then (Repeated IsClass) (Repeated IsMethod))))

program_back : (a : List Token) (v : Program) (b : List Token) → IsProgram a v b → (w : ProgramParts) × (v ≡ program_of w) × ProgramChain a w b
program_back a v b (program {ts = ts} {us = us} {vs = vs} {ws = ws} {xs = xs} p q r s t) =
    ((ts, (us, (vs, (ws, xs)))), refl, followed _ p (followed _ q (followed _ r (followed _ s t))))

pub program_start : {room : ℕ} (a : List Token) → Going IsProgram after_program room a ProgramChain program_of room a
program_start =
    chain program_of (λ more v after p. let q = p.second in let r = q.second in let s = r.second in program p.first q.first r.first s.first s.second) program_back
