-- Worked examples of numbers for names: what is declared, objects and values, and what a run is asked.
use Rattle.std.proofs.Common.{◌≡◌, ℕ, true, false, List, [], ◌∷◌, Some, None, refl, codes, pos, map, arith}
use Rattle.fab_base.specs.declared.object.Value.TheVariants as values
use Rattle.fab_base.specs.declared.object.Width.TheVariants as widths
use Rattle.fab_tree.specs.declared.name.Name.{Name}
use Rattle.fab_tree.specs.declared.declaration.Role.{Role}
use Rattle.fab_tree.specs.declared.declaration.Role.TheVariants as roles
use Rattle.fab_tree.specs.declared.declaration.Node.{Node}
use Rattle.fab_tree.specs.declared.declaration.Aspect.TheVariants as aspects
use Rattle.fab_tree.specs.declared.declaration.LabelText.{LabelText}
use Rattle.fab_tree.specs.declared.declaration.Sort.TheVariants as sorts
use Rattle.fab_tree.specs.declared.declaration.Class.{Class}
use Rattle.fab_tree.specs.declared.event.Step.TheVariants as steps
use Rattle.fab_tree.specs.declared.event.Event.TheVariants as events
use Rattle.fab_tree.specs.declared.start.Literal.{Literal}
use Rattle.fab_tree.specs.declared.start.Literal.TheVariants as literals
use Rattle.fab_tree.specs.declared.start.Given.{Given}
use Rattle.fab_tree.specs.declared.start.Root.{Root}
use Rattle.fab_tree.specs.declared.start.RequestText.{RequestText}
use Rattle.fab_tree.specs.declared.start.Session.{Session}
use Rattle.fab_tree.specs.declared.start.Start.{Start}
use Rattle.fab_tree.specs.declared.resolved.Sort.TheVariants as numbered
use Rattle.fab_tree.specs.declared.resolved.Session.{Session as NumberedSession}
use Rattle.fab_tree.specs.declared.resolved.Step.TheVariants as ns
use Rattle.fab_tree.specs.declared.resolved.Event.TheVariants as ne
use Rattle.fab_tree.specs.declared.expression.Number.TheVariants as digits
use Rattle.fab_language.specs.Uses.{principal_number, node_number, class_use}
use Rattle.fab_language.specs.Numbers.{principals_from, said_by, class_of, value_of, roots_from, session_of, event_of, resolved}

abbrev at : ℕ → List ℕ → Name
at place text = record { text = text; at = place }

abbrev name : List ℕ → Name
name text = at 0 text

abbrev node : Role → List ℕ → Node
node role text = record { role = role; name = name text }

abbrev given : Literal → Given
given x = record { literal = x; at = 0 }

abbrev root : List ℕ → List ℕ → List ℕ → List Literal → Root
root text c s xs = record { name = name text; class = name c; store = name s; values = map given xs }

-- label A = {P -> w; b <-; w ->};
abbrev label_a : LabelText
label_a = record {
  name = name (codes "A");
  policies =
      record { owner = name (codes "P"); aspect = aspects.Confidentiality; others = name (codes "w") ∷ [] }
      ∷ record { owner = name (codes "b"); aspect = aspects.Integrity; others = [] }
      ∷ record { owner = name (codes "w"); aspect = aspects.Confidentiality; others = [] }
      ∷ [];
}

-- class C label L access A { int n; D d; }
abbrev class_c : Class
class_c = record {
  name = name (codes "C");
  label = at 5 (codes "L");
  access = at 7 (codes "A");
  fields =
      record { sort = sorts.Number widths.Int; name = name (codes "n") }
      ∷ record { sort = sorts.Class (at 9 (codes "D")); name = name (codes "d") }
      ∷ [];
}

-- m(r, 4);
abbrev asks : ℕ → RequestText
asks place = record { method = at place (codes "m"); arguments = given (literals.Root (name (codes "r"))) ∷ given (literals.Number (digits.Int (pos 4))) ∷ [] }

-- A principal and a worker stand before the stores. The second `w` is declared twice: its name stands for the worker.
abbrev bundle : Start
bundle = record {
  program = record {
    nodes =
        node roles.Principal (codes "P") ∷ node (roles.Worker false) (codes "w") ∷ node (roles.Store false) (codes "b")
        ∷ node (roles.Store true) (codes "a") ∷ node roles.Principal (codes "Q") ∷ node (roles.Store true) (codes "w") ∷ [];
    delegations = record { actor = name (codes "a"); principal = name (codes "Q") } ∷ [];
    labels = record { name = name (codes "L"); policies = [] } ∷ label_a ∷ [];
    classes = record { name = name (codes "D"); label = name (codes "L"); access = name (codes "L"); fields = [] } ∷ class_c ∷ [];
    methods = [];
  };
  roots =
      root (codes "x") (codes "D") (codes "a") []
      ∷ root (codes "r") (codes "C") (codes "b") (literals.Number (digits.Int (pos 7)) ∷ literals.Root (name (codes "x")) ∷ [])
      ∷ [];
  sessions = record { worker = at 3 (codes "w"); requests = asks 10 ∷ asks 20 ∷ [] } ∷ [];
  posts = record { sender = name (codes "a"); receiver = name (codes "w"); bytes = 1 ∷ 2 ∷ [] } ∷ [];
  crashes = record { node = name (codes "b"); after = 3; keep = Some 5 } ∷ [];
  cache = 4;
  schedule = [];
}

-- ---- principals and nodes

of_a_principal : principal_number bundle (name (codes "Q")) ≡ 4
of_a_principal = refl

-- a store is the third principal and the second node
of_a_store : node_number bundle (name (codes "b")) ≡ 1
of_a_store = refl

not_as_a_principal : node_number bundle (name (codes "b")) ≡ principal_number bundle (name (codes "b")) → ⊥
not_as_a_principal e = absurd (omega (arith, e))

-- the first of two
of_a_doubled_name : node_number bundle (at 50 (codes "w")) ≡ 0
of_a_doubled_name = refl

behind_the_last : principal_number bundle (name (codes "z")) ≡ 6
behind_the_last = refl

behind_the_last_node : node_number bundle (name (codes "z")) ≡ 4
behind_the_last_node = refl

nodes_among_themselves : map (λ x. x.node) (principals_from 0 bundle.program.nodes) ≡ None ∷ Some 0 ∷ Some 1 ∷ Some 2 ∷ None ∷ Some 3 ∷ []
nodes_among_themselves = refl

-- ---- labels and classes

policies_in_two_lists : said_by bundle label_a.policies ≡ record {
  conf = record { owner = 0; others = 1 ∷ [] } ∷ record { owner = 1; others = [] } ∷ [];
  integ = record { owner = 2; others = [] } ∷ [];
}
policies_in_two_lists = refl

-- a use keeps its place
of_a_class : class_use bundle (at 33 (codes "C")) ≡ record { number = 1; at = 33 }
of_a_class = refl

labels_and_fields : class_of bundle class_c ≡ record {
  name = name (codes "C");
  label = record { number = 0; at = 5 };
  access = record { number = 1; at = 7 };
  fields =
      record { sort = numbered.Number widths.Int; name = name (codes "n") }
      ∷ record { sort = numbered.Class (record { number = 0; at = 9 }); name = name (codes "d") }
      ∷ [];
}
labels_and_fields = refl

-- ---- objects and values

-- a root's object has the root's number, and its store's number among the nodes
of_a_root : value_of bundle (literals.Root (name (codes "r"))) ≡ values.Ref (record { store = 1; class = 1; worker = 65535; boot = 0; number = 1; site = 65535; index = 0 })
of_a_root = refl

of_no_root : value_of bundle (literals.Root (name (codes "z"))) ≡ values.Null
of_no_root = refl

roots_in_order : map (λ x. x.oid.number) (roots_from bundle 0 bundle.roots) ≡ 0 ∷ 1 ∷ []
roots_in_order = refl

what_a_root_holds : map (λ x. x.values) (roots_from bundle 0 bundle.roots)
    ≡ [] ∷ (values.Int (pos 7) ∷ values.Ref (record { store = 2; class = 0; worker = 65535; boot = 0; number = 0; site = 65535; index = 0 }) ∷ []) ∷ []
what_a_root_holds = refl

-- ---- what a run is asked

abbrev numbers : NumberedSession → List ℕ
numbers x = map (λ y. y.request.number) x.requests

abbrev session : Session
session = record { worker = at 3 (codes "w"); requests = asks 10 ∷ asks 20 ∷ [] }

of_a_worker : (session_of bundle session).worker ≡ record { number = 0; at = 3 }
of_a_worker = refl

requests_from_one : numbers (session_of bundle session) ≡ 1 ∷ 2 ∷ []
requests_from_one = refl

places_of_methods : map (λ y. y.at) (session_of bundle session).requests ≡ 10 ∷ 20 ∷ []
places_of_methods = refl

of_both_nodes : event_of bundle (events.CrashIn 8 (steps.Deliver (name (codes "a")) (name (codes "w")))) ≡ ne.CrashIn 8 (ns.Deliver 2 0)
of_both_nodes = refl

-- ---- the whole

delegations_in_numbers : (resolved bundle).pairs ≡ (3, 4) ∷ []
delegations_in_numbers = refl

posts_between_nodes : (resolved bundle).posts ≡ record { sender = 2; receiver = 0; bytes = 1 ∷ 2 ∷ [] } ∷ []
posts_between_nodes = refl

crashes_of_nodes : (resolved bundle).crashes ≡ record { node = 1; after = 3; keep = Some 5 } ∷ []
crashes_of_nodes = refl

cache_kept : (resolved bundle).cache ≡ 4
cache_kept = refl
