-- A bundle with numbers for names: where a name is used, its number stands (`Uses`, `MethodNumbers`).
--
-- It is a function of the bundle, for every bundle. That each name is declared is a rule of its own.
use Rattle.std.specs.Prelude.{ℕ, suc, Bool, true, false, not, List, [], ◌∷◌, map, filter, Option, Some, None, if◌then◌else◌}
use Rattle.fab_base.specs.declared.label.Policy.{Policy}
use Rattle.fab_base.specs.declared.label.Label.{Label}
use Rattle.fab_base.specs.declared.object.Oid.{Oid}
use Rattle.fab_base.specs.declared.object.Value.{Value}
use Rattle.fab_base.specs.declared.object.Value.TheVariants as values
use Rattle.fab_tree.specs.declared.declaration.Node.{Node}
use Rattle.fab_tree.specs.declared.declaration.Delegation.{Delegation}
use Rattle.fab_tree.specs.declared.declaration.Aspect.{Aspect}
use Rattle.fab_tree.specs.declared.declaration.Aspect.TheVariants as aspects
use Rattle.fab_tree.specs.declared.declaration.PolicyText.{PolicyText}
use Rattle.fab_tree.specs.declared.declaration.LabelText.{LabelText}
use Rattle.fab_tree.specs.declared.declaration.Field.{Field}
use Rattle.fab_tree.specs.declared.declaration.Class.{Class}
use Rattle.fab_tree.specs.declared.event.PostLine.{PostLine}
use Rattle.fab_tree.specs.declared.event.CrashLine.{CrashLine}
use Rattle.fab_tree.specs.declared.event.Step.{Step}
use Rattle.fab_tree.specs.declared.event.Step.TheVariants as steps
use Rattle.fab_tree.specs.declared.event.Event.{Event}
use Rattle.fab_tree.specs.declared.event.Event.TheVariants as events
use Rattle.fab_tree.specs.declared.start.Literal.{Literal}
use Rattle.fab_tree.specs.declared.start.Literal.TheVariants as literals
use Rattle.fab_tree.specs.declared.start.Given.{Given}
use Rattle.fab_tree.specs.declared.start.Root.{Root}
use Rattle.fab_tree.specs.declared.start.RequestText.{RequestText}
use Rattle.fab_tree.specs.declared.start.Session.{Session}
use Rattle.fab_tree.specs.declared.start.Start.{Start}
use Rattle.fab_tree.specs.declared.resolved.Principal.{Principal}
use Rattle.fab_tree.specs.declared.resolved.NamedLabel.{NamedLabel}
use Rattle.fab_tree.specs.declared.resolved.Field.{Field as NumberedField}
use Rattle.fab_tree.specs.declared.resolved.Class.{Class as NumberedClass}
use Rattle.fab_tree.specs.declared.resolved.Root.{Root as NumberedRoot}
use Rattle.fab_tree.specs.declared.resolved.Request.{Request}
use Rattle.fab_tree.specs.declared.resolved.Asked.{Asked}
use Rattle.fab_tree.specs.declared.resolved.Session.{Session as NumberedSession}
use Rattle.fab_tree.specs.declared.resolved.Post.{Post}
use Rattle.fab_tree.specs.declared.resolved.Crash.{Crash}
use Rattle.fab_tree.specs.declared.resolved.Step.{Step as NumberedStep}
use Rattle.fab_tree.specs.declared.resolved.Step.TheVariants as ns
use Rattle.fab_tree.specs.declared.resolved.Event.{Event as NumberedEvent}
use Rattle.fab_tree.specs.declared.resolved.Event.TheVariants as ne
use Rattle.fab_tree.specs.declared.resolved.Resolved.{Resolved}
use Rattle.fab_tree.specs.Limits.{is_node}
use Rattle.fab_tree.specs.Numbers.{number_value}
use Rattle.fab_language.specs.Names.{named, number_of, root_name}
use Rattle.fab_language.specs.Uses.{principal_number, node_number, node_use, label_use, class_number, method_number, sort_of}
use Rattle.fab_language.specs.MethodNumbers.{methods_of}

-- ---- what a program declares

-- a principal, with its number among the workers and stores if it is one of them
abbrev pub principal_of : ℕ → Node → Principal
principal_of n x = record { role = x.role; name = x.name; node = if is_node x.role then Some n else None }

-- principals, of which the next worker or store has this number
abbrev pub principals_from : ℕ → List Node → List Principal
principals_from n [] = []
principals_from n (x ∷ xs) = principal_of n x ∷ principals_from (if is_node x.role then suc n else n) xs

abbrev pub pair_of : Start → Delegation → ℕ × ℕ
pair_of s x = (principal_number s x.actor, principal_number s x.principal)

abbrev pub policy_of : Start → PolicyText → Policy
policy_of s x = record { owner = principal_number s x.owner; others = map (principal_number s) x.others }

abbrev pub is_of_readers : Aspect → Bool
is_of_readers aspects.Confidentiality = true
is_of_readers aspects.Integrity = false

-- what policies say: those of readers and those of writers
abbrev pub said_by : Start → List PolicyText → Label
said_by s policies = record {
  conf = map (policy_of s) (filter (λ x. is_of_readers x.aspect) policies);
  integ = map (policy_of s) (filter (λ x. not (is_of_readers x.aspect)) policies);
}

abbrev pub label_of : Start → LabelText → NamedLabel
label_of s x = record { name = x.name; label = said_by s x.policies }

abbrev pub field_of : Start → Field → NumberedField
field_of s x = record { sort = sort_of s x.sort; name = x.name }

abbrev pub class_of : Start → Class → NumberedClass
class_of s x = record {
  name = x.name;
  label = label_use s x.label;
  access = label_use s x.access;
  fields = map (field_of s) x.fields;
}

-- ---- objects and values

-- the object of the root of this number
abbrev pub oid_of : Start → ℕ → Root → Oid
oid_of s n x = record {
  store = node_number s x.store;
  class = class_number s x.class;
  worker = 65535;
  boot = 0;
  number = n;
  site = 65535;
  index = 0;
}

abbrev pub reference_to : Start → ℕ → Option Root → Value
reference_to s n None = values.Null
reference_to s n (Some x) = values.Ref (oid_of s n x)

-- a literal; the name of a root refers to its object, and a name that no root has to none
abbrev pub value_of : Start → Literal → Value
value_of s (literals.Number n) = number_value n
value_of s literals.Null = values.Null
value_of s (literals.Root x) = reference_to s (number_of root_name s.roots x) (named root_name s.roots x)

abbrev pub values_of : Start → List Given → List Value
values_of s xs = map (λ g. value_of s g.literal) xs

abbrev pub root_of : Start → ℕ → Root → NumberedRoot
root_of s n x = record { name = x.name; oid = oid_of s n x; values = values_of s x.values }

-- roots, of which the first has this number
abbrev pub roots_from : Start → ℕ → List Root → List NumberedRoot
roots_from s n [] = []
roots_from s n (x ∷ xs) = root_of s n x ∷ roots_from s (suc n) xs

-- ---- what a run is asked

-- the request of this number of a worker
abbrev pub request_of : Start → ℕ → ℕ → RequestText → Request
request_of s worker n x = record {
  worker = worker;
  number = n;
  method = method_number s x.method;
  args = values_of s x.arguments;
}

-- the same, and the place of its method's name
abbrev pub asked_of : Start → ℕ → ℕ → RequestText → Asked
asked_of s worker n x = record { request = request_of s worker n x; at = x.method.at }

-- the requests of a worker, of which the first has this number
abbrev pub asked_from : Start → ℕ → ℕ → List RequestText → List Asked
asked_from s worker n [] = []
asked_from s worker n (x ∷ xs) = asked_of s worker n x ∷ asked_from s worker (suc n) xs

-- requests are numbered from 1 in their session
abbrev pub session_of : Start → Session → NumberedSession
session_of s x = record { worker = node_use s x.worker; requests = asked_from s (node_number s x.worker) 1 x.requests }

abbrev pub post_of : Start → PostLine → Post
post_of s x = record { sender = node_number s x.sender; receiver = node_number s x.receiver; bytes = x.bytes }

abbrev pub crash_of : Start → CrashLine → Crash
crash_of s x = record { node = node_number s x.node; after = x.after; keep = x.keep }

abbrev pub step_of : Start → Step → NumberedStep
step_of s (steps.Begin x) = ns.Begin (node_number s x)
step_of s (steps.Resume x) = ns.Resume (node_number s x)
step_of s (steps.Deliver x y) = ns.Deliver (node_number s x) (node_number s y)
step_of s (steps.Idle x y) = ns.Idle (node_number s x) (node_number s y)
step_of s (steps.Recover x) = ns.Recover (node_number s x)

abbrev pub event_of : Start → Event → NumberedEvent
event_of s (events.Step x) = ne.Step (step_of s x)
event_of s (events.CrashIn keep x) = ne.CrashIn keep (step_of s x)
event_of s (events.Post x) = ne.Post (node_number s x)
event_of s (events.Crash x) = ne.Crash (node_number s x)

-- ---- the whole

abbrev pub resolved : Start → Resolved
resolved s = record {
  nodes = principals_from 0 s.program.nodes;
  pairs = map (pair_of s) s.program.delegations;
  labels = map (label_of s) s.program.labels;
  classes = map (class_of s) s.program.classes;
  methods = (methods_of s s.program.methods 0).0;
  roots = roots_from s 0 s.roots;
  sessions = map (session_of s) s.sessions;
  posts = map (post_of s) s.posts;
  crashes = map (crash_of s) s.crashes;
  cache = s.cache;
  schedule = map (event_of s) s.schedule;
}
