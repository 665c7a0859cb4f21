-- The first rule of names: a name isn't declared in the space that its place needs.
--
-- The spaces are principals with the nodes, labels, classes, methods, the fields of one class, the locals that are
-- known at a place, and roots. The field behind a dot is looked for only where the local's class is known.
use Rattle.std.specs.Prelude.{List, [], ◌∷◌, ◌++◌, Option, Some, None}
use Rattle.std.specs.List.{flat_map}
use Rattle.fab_tree.specs.declared.name.Name.{Name}
use Rattle.fab_tree.specs.declared.declaration.Delegation.{Delegation}
use Rattle.fab_tree.specs.declared.declaration.PolicyText.{PolicyText}
use Rattle.fab_tree.specs.declared.declaration.LabelText.{LabelText}
use Rattle.fab_tree.specs.declared.declaration.Sort.{Sort}
use Rattle.fab_tree.specs.declared.declaration.Sort.TheVariants as sorts
use Rattle.fab_tree.specs.declared.declaration.Class.{Class}
use Rattle.fab_tree.specs.declared.expression.Expression.{Expression, fold-Expression}
use Rattle.fab_tree.specs.declared.expression.Form.TheOpen as f
use Rattle.fab_tree.specs.declared.statement.Right.{Right}
use Rattle.fab_tree.specs.declared.statement.Right.TheVariants as rights
use Rattle.fab_tree.specs.declared.program.Parameter.{Parameter}
use Rattle.fab_tree.specs.declared.program.Returns.{Returns}
use Rattle.fab_tree.specs.declared.program.Method.{Method}
use Rattle.fab_tree.specs.declared.event.PostLine.{PostLine}
use Rattle.fab_tree.specs.declared.event.CrashLine.{CrashLine}
use Rattle.fab_tree.specs.declared.event.Step.{Step}
use Rattle.fab_tree.specs.declared.event.Step.TheVariants as steps
use Rattle.fab_tree.specs.declared.event.Event.{Event}
use Rattle.fab_tree.specs.declared.event.Event.TheVariants as events
use Rattle.fab_tree.specs.declared.start.Literal.{Literal}
use Rattle.fab_tree.specs.declared.start.Literal.TheVariants as literals
use Rattle.fab_tree.specs.declared.start.Given.{Given}
use Rattle.fab_tree.specs.declared.start.Root.{Root}
use Rattle.fab_tree.specs.declared.start.RequestText.{RequestText}
use Rattle.fab_tree.specs.declared.start.Session.{Session}
use Rattle.fab_tree.specs.declared.start.Start.{Start}
use Rattle.fab_language.specs.declared.rule.Fault.{Fault}
use Rattle.fab_language.specs.declared.rule.NameRule.TheVariants.{Unknown}
use Rattle.fab_language.specs.Heads.{Locals, Head, declare, assign, write, call, test, atomic, result, heads_of}
use Rattle.fab_language.specs.Kinds.{class_of_local, local_of}
use Rattle.fab_language.specs.Names.{named, node_name, label_name, class_name, field_name, method_name, local_name, root_name}

-- a name that stands for something, or a fault
abbrev pub if_found : {A : Type 0} → Option A → Name → List Fault
if_found None x = record { rule = Unknown; at = x.at } ∷ []
if_found (Some y) x = []

module _ (s : Start) where
  abbrev pub in_principal : Name → List Fault
  in_principal x = if_found (named node_name s.program.nodes x) x

  abbrev pub in_label : Name → List Fault
  in_label x = if_found (named label_name s.program.labels x) x

  abbrev pub in_class_name : Name → List Fault
  in_class_name x = if_found (named class_name s.program.classes x) x

  abbrev pub in_method_name : Name → List Fault
  in_method_name x = if_found (named method_name s.program.methods x) x

  abbrev pub in_sort : Sort → List Fault
  in_sort (sorts.Number w) = []
  in_sort (sorts.Class x) = in_class_name x

  -- ---- declarations

  abbrev pub in_delegation : Delegation → List Fault
  in_delegation d = in_principal d.actor ++ in_principal d.principal

  abbrev pub in_policy : PolicyText → List Fault
  in_policy x = in_principal x.owner ++ flat_map in_principal x.others

  abbrev pub in_label_text : LabelText → List Fault
  in_label_text l = flat_map in_policy l.policies

  abbrev pub in_class : Class → List Fault
  in_class c = in_label c.label ++ in_label c.access ++ flat_map (λ f. in_sort f.sort) c.fields

  -- ---- methods

  module _ (known : Locals) where
    abbrev pub in_local : Name → List Fault
    in_local x = if_found (named local_name known x) x

    -- the field of this name of a class that is known
    abbrev pub in_field_of : Option Class → Name → List Fault
    in_field_of None y = []
    in_field_of (Some c) y = if_found (named field_name c.fields y) y

    abbrev pub in_reach : Name → Name → List Fault
    in_reach x y = in_local x ++ in_field_of (class_of_local s (local_of s known x)) y

    abbrev pub in_form : f.Form-F (List Fault) (List Fault) (List Fault) → List Fault
    in_form (f.Number n) = []
    in_form f.Null = []
    in_form (f.Local x) = in_local x
    in_form (f.Read x y) = in_reach x y
    in_form (f.Unary o e) = e
    in_form (f.Chain e others) = e ++ flat_map (λ u. u) others
    in_form (f.Compared e c g) = e ++ g

    abbrev pub in_expression : Expression → List Fault
    in_expression = fold-Expression (List Fault) (List Fault) (List Fault) in_form (λ e. e.form) (λ u. u.operand)

    abbrev pub in_right : Right → List Fault
    in_right (rights.Plain e) = in_expression e
    in_right (rights.Call m es) = in_method_name m ++ flat_map in_expression es
    in_right (rights.New c st es at) = in_class_name c ++ in_principal st ++ flat_map in_expression es
    in_right (rights.Downgrade d e x y at) = in_expression e ++ in_label x ++ in_label y

    abbrev pub in_head : Head → List Fault
    in_head (declare t x l e) = in_sort t ++ in_label l ++ in_expression e
    in_head (assign x r) = in_local x ++ in_right r
    in_head (write x y e) = in_reach x y ++ in_expression e
    in_head (call m es) = in_method_name m ++ flat_map in_expression es
    in_head (test e) = in_expression e
    in_head (atomic l) = in_label l
    in_head (result x) = in_expression x.value

  abbrev pub in_parameter : Parameter → List Fault
  in_parameter p = in_sort p.sort ++ in_label p.label

  abbrev pub in_returns : Option Returns → List Fault
  in_returns None = []
  in_returns (Some x) = in_sort x.sort ++ in_label x.label

  -- what stands before a method's body
  abbrev pub in_heading : Method → List Fault
  in_heading m = flat_map in_parameter m.parameters ++ in_returns m.returns ++ in_label m.begin ++ flat_map in_principal m.authority

  abbrev pub in_method : Method → List Fault
  in_method m = in_heading m ++ flat_map (λ h. in_head h.0 h.1) (heads_of m)

  -- ---- the run part

  abbrev pub in_literal : Literal → List Fault
  in_literal (literals.Number n) = []
  in_literal literals.Null = []
  in_literal (literals.Root x) = if_found (named root_name s.roots x) x

  abbrev pub in_given : Given → List Fault
  in_given g = in_literal g.literal

  abbrev pub in_root : Root → List Fault
  in_root x = in_class_name x.class ++ in_principal x.store ++ flat_map in_given x.values

  abbrev pub in_request : RequestText → List Fault
  in_request x = in_method_name x.method ++ flat_map in_given x.arguments

  abbrev pub in_session : Session → List Fault
  in_session x = in_principal x.worker ++ flat_map in_request x.requests

  abbrev pub in_post : PostLine → List Fault
  in_post x = in_principal x.sender ++ in_principal x.receiver

  abbrev pub in_crash : CrashLine → List Fault
  in_crash x = in_principal x.node

  abbrev pub in_step : Step → List Fault
  in_step (steps.Begin x) = in_principal x
  in_step (steps.Resume x) = in_principal x
  in_step (steps.Deliver x y) = in_principal x ++ in_principal y
  in_step (steps.Idle x y) = in_principal x ++ in_principal y
  in_step (steps.Recover x) = in_principal x

  abbrev pub in_event : Event → List Fault
  in_event (events.Step x) = in_step x
  in_event (events.CrashIn n x) = in_step x
  in_event (events.Post x) = in_principal x
  in_event (events.Crash x) = in_principal x

  -- the names that aren't declared
  abbrev pub unknown : List Fault
  unknown =
      flat_map in_delegation s.program.delegations
      ++ flat_map in_label_text s.program.labels
      ++ flat_map in_class s.program.classes
      ++ flat_map in_method s.program.methods
      ++ flat_map in_root s.roots
      ++ flat_map in_session s.sessions
      ++ flat_map in_post s.posts
      ++ flat_map in_crash s.crashes
      ++ flat_map in_event s.schedule
