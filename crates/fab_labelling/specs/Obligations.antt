-- What a program owes its labels, as a list: at a place, under a rule, a claim. When a claim holds is `Claims`.
--
-- A statement stands under labels that say what decided that it runs, `pc`, the outermost first, and a label to
-- which its failures flow, if there is one. The labels of an expression are those of what it reads. The joint of
-- labels is never computed: several labels flow to another where each of them does.
use Rattle.fab_base.specs.declared.object.Width.TheVariants as widths
use Rattle.std.specs.Prelude.{ℕ, ◌==◌, if◌then◌else◌, List, [], ◌∷◌, ◌++◌, map, take, length, Option, Some, None, slice_get}
use Rattle.std.specs.List.{flat_map, list_any, range_with_len}
use Rattle.fab_tree.specs.declared.expression.Operator.{Operator}
use Rattle.fab_tree.specs.declared.expression.Operator.TheVariants as o
use Rattle.fab_tree.specs.declared.statement.Downgrade.{Downgrade}
use Rattle.fab_tree.specs.declared.statement.Downgrade.TheVariants as downgrades
use Rattle.fab_tree.specs.declared.resolved.Use.{Use}
use Rattle.fab_tree.specs.declared.resolved.Sort.{Sort}
use Rattle.fab_tree.specs.declared.resolved.Sort.TheVariants as sorts
use Rattle.fab_tree.specs.declared.resolved.Class.{Class}
use Rattle.fab_tree.specs.declared.resolved.Expression.{Expression, fold-Expression}
use Rattle.fab_tree.specs.declared.resolved.Form.TheOpen as f
use Rattle.fab_tree.specs.declared.resolved.Right.{Right}
use Rattle.fab_tree.specs.declared.resolved.Right.TheVariants as rights
use Rattle.fab_tree.specs.declared.resolved.Statement.{Statement, fold-Statement}
use Rattle.fab_tree.specs.declared.resolved.Statement.TheOpen as s
use Rattle.fab_tree.specs.declared.resolved.Local.{Local}
use Rattle.fab_tree.specs.declared.resolved.Returns.{Returns}
use Rattle.fab_tree.specs.declared.resolved.Return.{Return}
use Rattle.fab_tree.specs.declared.resolved.Method.{Method}
use Rattle.fab_tree.specs.declared.resolved.Root.{Root}
use Rattle.fab_tree.specs.declared.resolved.Asked.{Asked}
use Rattle.fab_tree.specs.declared.resolved.Session.{Session}
use Rattle.fab_tree.specs.declared.resolved.Resolved.{Resolved}
use Rattle.fab_labelling.specs.declared.rule.LabelRule.{LabelRule}
use Rattle.fab_labelling.specs.declared.rule.LabelRule.TheVariants.{Placement, Begin, Atomic, Write, Access, Fail, Declassify, Endorse, Authority}

-- ---- claims, by the numbers of labels, classes, methods, principals, and of workers and stores

pub data Claim : Type 0 where
  -- the one label flows to the other
  flows : ℕ → ℕ → Claim
  -- its confidentiality does
  conf : ℕ → ℕ → Claim
  -- the label flows to a failure label that isn't there
  nowhere : ℕ → Claim
  -- from the one label to the other may be declassified, or endorsed, with the authority of these principals
  declassifies : ℕ → ℕ → List ℕ → Claim
  endorses : ℕ → ℕ → List ℕ → Claim
  -- the store may hold the class
  holds : ℕ → ℕ → Claim
  -- the worker acts for the principal, if a method that this one reaches has the authority of the principal
  answers_for : ℕ → ℕ → ℕ → Claim

pub record Owed : Type 0 where
  pub at : ℕ
  pub rule : LabelRule
  pub claim : Claim

abbrev pub owe : LabelRule → ℕ → Claim → Owed
owe rule at claim = record { at = at; rule = rule; claim = claim }

-- each of these labels flows to that one
abbrev pub all_flow : LabelRule → ℕ → List ℕ → ℕ → List Owed
all_flow rule at from to = map (λ l. owe rule at (flows l to)) from

-- the confidentiality of each of these does
abbrev pub all_conf : LabelRule → ℕ → List ℕ → ℕ → List Owed
all_conf rule at from to = map (λ l. owe rule at (conf l to)) from

-- each of these flows to the failure label
abbrev pub all_fail : ℕ → List ℕ → Option ℕ → List Owed
all_fail at from None = map (λ l. owe Fail at (nowhere l)) from
all_fail at from (Some to) = all_flow Fail at from to

-- further labels that decide, each once
abbrev pub under : List ℕ → List ℕ → List ℕ
under pc [] = pc
under pc (l ∷ ls) = under (if list_any (λ k. k == l) pc then pc else pc ++ l ∷ []) ls

-- ---- the labels of names

-- the class of what a local refers to
abbrev pub class_of_sort : List Class → Sort → Option Class
class_of_sort classes (sorts.Number widths.Int) = None
class_of_sort classes (sorts.Class x) = slice_get classes x.number

abbrev pub class_of_local : List Class → Option Local → Option Class
class_of_local classes None = None
class_of_local classes (Some x) = class_of_sort classes x.sort

abbrev pub label_of_local : Option Local → List ℕ
label_of_local None = []
label_of_local (Some x) = x.label.number ∷ []

abbrev pub label_of_class : Option Class → List ℕ
label_of_class None = []
label_of_class (Some c) = c.label.number ∷ []

abbrev pub label_of_returns : Option Returns → List ℕ
label_of_returns None = []
label_of_returns (Some x) = x.label.number ∷ []

-- what is owed to a label, if there is one
abbrev pub to_each : {A : Type 0} → (A → List Owed) → List A → List Owed
to_each f xs = flat_map f xs

-- ---- expressions

-- the labels of what is read in an expression, and what it owes under labels that decide and a failure label
pub record Part : Type 0 where
  pub labels : List ℕ
  pub owes : List ℕ → Option ℕ → List Owed

-- an operand of a chain, with its operator and that one's place
pub record Tail : Type 0 where
  pub operator : Operator
  pub at : ℕ
  pub part : Part

-- a division by a part fails where that is 0
abbrev pub division : Operator → ℕ → List ℕ → Option ℕ → List Owed
division o.Divide at from failure = all_fail at from failure
division o.Or at from failure = []
division o.And at from failure = []
division o.Add at from failure = []
division o.Subtract at from failure = []
division o.Multiply at from failure = []

module _ (classes : List Class) (locals : List Local) where
  abbrev pub local_labels : Use → List ℕ
  local_labels x = label_of_local (slice_get locals x.number)

  abbrev pub class_behind : Use → Option Class
  class_behind x = class_of_local classes (slice_get locals x.number)

  -- the store of an object learns that it is asked for
  abbrev pub asking : ℕ → List ℕ → Option Class → List Owed
  asking at from None = []
  asking at from (Some c) = all_conf Access at from c.access.number

  -- an object is reached through a local, which may be null
  abbrev pub reaching : Use → List ℕ → Option ℕ → List Owed
  reaching x pc failure = asking x.at (pc ++ local_labels x) (class_behind x) ++ all_fail x.at (pc ++ local_labels x) failure

  abbrev pub silent : List ℕ → Part
  silent labels = record { labels = labels; owes = λ pc failure. [] }

  abbrev pub tail_owes : List ℕ → Option ℕ → Tail → List Owed
  tail_owes pc failure u = u.part.owes pc failure ++ division u.operator u.at (pc ++ u.part.labels) failure

  abbrev pub form_step : f.Form-F Part Part Tail → Part
  form_step (f.Number n) = silent []
  form_step f.Null = silent []
  form_step (f.Local x) = silent (local_labels x)
  form_step (f.Read x field site) = record { labels = local_labels x ++ label_of_class (class_behind x); owes = reaching x }
  form_step (f.Unary o p) = p
  form_step (f.Chain p others) = record {
    labels = p.labels ++ flat_map (λ u. u.part.labels) others;
    owes = λ pc failure. p.owes pc failure ++ flat_map (tail_owes pc failure) others;
  }
  form_step (f.Compared p comparison q) = record {
    labels = p.labels ++ q.labels;
    owes = λ pc failure. p.owes pc failure ++ q.owes pc failure;
  }

  abbrev pub part : Expression → Part
  part = fold-Expression Part Part Tail form_step (λ e. e.form) (λ u. record { operator = u.operator; at = u.at; part = u.operand })

  -- a value is given to what has this label
  abbrev pub given : List ℕ → Option ℕ → Expression → ℕ → List Owed
  given pc failure e to = (part e).owes pc failure ++ all_flow Write e.at (pc ++ (part e).labels) to

  -- values are given in turn to what has these labels; one too many is given to nothing
  abbrev pub all_given : List ℕ → Option ℕ → List Expression → List ℕ → List Owed
  all_given pc failure [] to = []
  all_given pc failure (e ∷ es) [] = (part e).owes pc failure ++ all_given pc failure es []
  all_given pc failure (e ∷ es) (l ∷ ls) = given pc failure e l ++ all_given pc failure es ls

-- ---- statements

-- the labels of a method's parameters
abbrev pub parameter_labels : Method → List ℕ
parameter_labels m = map (λ x. x.label.number) (take m.parameters m.locals)

-- a method that may fail fails at its caller
abbrev pub failing : Method → ℕ → Option ℕ → List Owed
failing m at failure = if m.fails then all_fail at (m.begin.number ∷ []) failure else []

-- one label as often as there are values
abbrev pub for_each : {A : Type 0} → ℕ → List A → List ℕ
for_each l xs = map (λ x. l) xs

-- over all classes and methods, and in the method with these locals and this authority
module _ (classes : List Class) (methods : List Method) (locals : List Local) (authority : List ℕ) where
  abbrev pub calling : List ℕ → Option ℕ → Use → List Expression → Option Method → List Owed
  calling pc failure x es None = all_given classes locals pc failure es []
  calling pc failure x es (Some m) = all_flow Begin x.at pc m.begin.number ++ failing m x.at failure ++ all_given classes locals pc failure es (parameter_labels m)

  abbrev pub call_owes : List ℕ → Option ℕ → Use → List Expression → List Owed
  call_owes pc failure x es = calling pc failure x es (slice_get methods x.number)

  -- an object of the class is made at the place, with these values
  abbrev pub making : List ℕ → Option ℕ → ℕ → List Expression → Option Class → List Owed
  making pc failure at es None = all_given classes locals pc failure es []
  making pc failure at es (Some c) =
      all_flow Write at pc c.label.number ++ all_conf Access at pc c.access.number ++ all_given classes locals pc failure es (for_each c.label.number es)

  abbrev pub downgrading : Downgrade → ℕ → ℕ → ℕ → Owed
  downgrading downgrades.Declassify at from to = owe Declassify at (declassifies from to authority)
  downgrading downgrades.Endorse at from to = owe Endorse at (endorses from to authority)

  -- what is assigned, and the labels that flow with it
  abbrev pub right_owes : List ℕ → Option ℕ → Right → List Owed
  right_owes pc failure (rights.Plain e) = (part classes locals e).owes pc failure
  right_owes pc failure (rights.Call x es) = call_owes pc failure x es
  right_owes pc failure (rights.New x store es site at) = owe Placement at (holds store.number x.number) ∷ making pc failure at es (slice_get classes x.number)
  right_owes pc failure (rights.Downgrade d e from to site at) =
      (part classes locals e).owes pc failure ++ all_flow Write at (part classes locals e).labels from.number ++ downgrading d at from.number to.number ∷ []

  abbrev pub returned : Option Method → List ℕ
  returned None = []
  returned (Some m) = label_of_returns m.returns

  abbrev pub right_labels : Right → List ℕ
  right_labels (rights.Plain e) = (part classes locals e).labels
  right_labels (rights.Call x es) = returned (slice_get methods x.number)
  right_labels (rights.New x store es site at) = []
  right_labels (rights.Downgrade d e from to site at) = to.number ∷ []

  -- a field of what a local refers to is written
  abbrev pub writing : List ℕ → Use → Expression → Option Class → List Owed
  writing pc x e None = []
  writing pc x e (Some c) = all_flow Write x.at (pc ++ local_labels classes locals x ++ (part classes locals e).labels) c.label.number

  abbrev pub Owes : Type 0
  Owes = List ℕ → Option ℕ → List Owed

  abbrev pub in_order : List Owes → Owes
  in_order xs pc failure = flat_map (λ x. x pc failure) xs

  abbrev pub statement_step : s.Statement-F Owes → Owes
  statement_step (s.Assign x r at) pc failure =
      right_owes pc failure r ++ to_each (all_flow Write at (pc ++ right_labels r)) (label_of_local (slice_get locals x))
  statement_step (s.Write x field e site) pc failure =
      (part classes locals e).owes pc failure ++ reaching classes locals x pc failure ++ writing pc x e (class_behind classes locals x)
  statement_step (s.Call x es) pc failure = call_owes pc failure x es
  statement_step (s.If e block otherwise) pc failure =
      let inside = under pc (part classes locals e).labels in
      (part classes locals e).owes pc failure ++ in_order block inside failure ++ in_order otherwise inside failure
  statement_step (s.While e block) pc failure =
      (part classes locals e).owes pc failure ++ in_order block (under pc (part classes locals e).labels) failure
  statement_step (s.Atomic x block otherwise at) pc failure =
      let inside = under pc (x.number ∷ []) in
      all_flow Atomic at pc x.number ++ in_order block inside (Some x.number) ++ in_order otherwise inside failure
  statement_step (s.Fail at) pc failure = all_fail at pc failure

  abbrev pub statement_owes : Statement → Owes
  statement_owes = fold-Statement Owes statement_step

  abbrev pub block_owes : List Statement → Owes
  block_owes xs = in_order (map statement_owes xs)

  -- what is returned flows to the label of the result
  abbrev pub return_owes : Option Returns → Option Return → Owes
  return_owes returns None pc failure = []
  return_owes returns (Some x) pc failure =
      (part classes locals x.value).owes pc failure ++ to_each (all_flow Write x.at (pc ++ (part classes locals x.value).labels)) (label_of_returns returns)

-- ---- methods, roots and requests

-- failures of a method flow to its begin label, if it is marked as failing
abbrev pub failure_of : Method → Option ℕ
failure_of m = if m.fails then Some m.begin.number else None

abbrev pub authority_of : Method → List ℕ
authority_of m = map (λ x. x.number) m.authority

abbrev pub method_owes : List Class → List Method → Method → List Owed
method_owes classes methods m =
    let pc = m.begin.number ∷ [] in
    block_owes classes methods m.locals (authority_of m) m.body pc (failure_of m)
    ++ return_owes classes methods m.locals (authority_of m) m.returns m.result pc (failure_of m)

abbrev pub root_owes : Root → Owed
root_owes x = owe Placement x.name.at (holds x.oid.store x.oid.class)

-- the worker of a request acts for each principal whose authority it uses, the least number first
abbrev pub request_owes : ℕ → Asked → List Owed
request_owes count x = map (λ p. owe Authority x.at (answers_for x.request.worker x.request.method p)) (range_with_len 0 count)

abbrev pub session_owes : ℕ → Session → List Owed
session_owes count x = flat_map (request_owes count) x.requests

-- all that a bundle owes its labels
abbrev pub owed : Resolved → List Owed
owed r = flat_map (method_owes r.classes r.methods) r.methods ++ map root_owes r.roots ++ flat_map (session_owes (length r.nodes)) r.sessions
