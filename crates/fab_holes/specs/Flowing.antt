-- What flows to the locals of a program's methods, as pairs of labels: what is assigned to a local, and what is given to a parameter.
--
-- Nothing else that a program owes has the label of a local as its target.
use Rattle.std.specs.Prelude.{ℕ, nat_lt, if◌then◌else◌, List, [], ◌∷◌, ◌++◌, map, Option, Some, None, slice_get}
use Rattle.std.specs.List.{flat_map}
use Rattle.fab_tree.specs.declared.resolved.Use.{Use}
use Rattle.fab_tree.specs.declared.resolved.Class.{Class}
use Rattle.fab_tree.specs.declared.resolved.Expression.{Expression}
use Rattle.fab_tree.specs.declared.resolved.Right.{Right}
use Rattle.fab_tree.specs.declared.resolved.Right.TheVariants as rights
use Rattle.fab_tree.specs.declared.resolved.Statement.{Statement, fold-Statement}
use Rattle.fab_tree.specs.declared.resolved.Statement.TheOpen as s
use Rattle.fab_tree.specs.declared.resolved.Local.{Local}
use Rattle.fab_tree.specs.declared.resolved.Method.{Method}
use Rattle.fab_tree.specs.declared.resolved.Resolved.{Resolved}
use Rattle.fab_labelling.specs.Obligations.{part, under, label_of_local, parameter_labels, right_labels, authority_of}

-- each of these labels to that one
abbrev pub all_to : List ℕ → ℕ → List (ℕ × ℕ)
all_to from to = map (λ l. (l, to)) from

module _ (classes : List Class) (methods : List Method) (locals : List Local) (authority : List ℕ) where
  -- values are given in turn to what has these labels
  abbrev pub given_flows : List ℕ → List Expression → List ℕ → List (ℕ × ℕ)
  given_flows pc [] to = []
  given_flows pc (e ∷ es) [] = []
  given_flows pc (e ∷ es) (l ∷ ls) = all_to (pc ++ (part classes locals e).labels) l ++ given_flows pc es ls

  abbrev pub parameters_of : Option Method → List ℕ
  parameters_of None = []
  parameters_of (Some m) = parameter_labels m

  abbrev pub call_flows : List ℕ → Use → List Expression → List (ℕ × ℕ)
  call_flows pc x es = given_flows pc es (parameters_of (slice_get methods x.number))

  abbrev pub right_flows : List ℕ → Right → List (ℕ × ℕ)
  right_flows pc (rights.Plain e) = []
  right_flows pc (rights.Call x es) = call_flows pc x es
  right_flows pc (rights.New x store es site at) = []
  right_flows pc (rights.Downgrade d e from to site at) = []

  -- under these labels that decide
  abbrev pub Flowing : Type 0
  Flowing = List ℕ → List (ℕ × ℕ)

  abbrev pub in_a_row : List Flowing → Flowing
  in_a_row xs pc = flat_map (λ x. x pc) xs

  abbrev pub flows_step : s.Statement-F Flowing → Flowing
  flows_step (s.Assign x r at) pc = right_flows pc r ++ flat_map (all_to (pc ++ right_labels classes methods locals authority r)) (label_of_local (slice_get locals x))
  flows_step (s.Write x field e site) pc = []
  flows_step (s.Call x es) pc = call_flows pc x es
  flows_step (s.If e block otherwise) pc = let inside = under pc (part classes locals e).labels in in_a_row block inside ++ in_a_row otherwise inside
  flows_step (s.While e block) pc = in_a_row block (under pc (part classes locals e).labels)
  flows_step (s.Atomic x block otherwise at) pc = let inside = under pc (x.number ∷ []) in in_a_row block inside ++ in_a_row otherwise inside
  flows_step (s.Fail at) pc = []

  abbrev pub statement_flows : Statement → Flowing
  statement_flows = fold-Statement Flowing flows_step

  abbrev pub block_flows : List Statement → Flowing
  block_flows xs = in_a_row (map statement_flows xs)

abbrev pub method_flows : List Class → List Method → Method → List (ℕ × ℕ)
method_flows classes methods m = block_flows classes methods m.locals (authority_of m) m.body (m.begin.number ∷ [])

abbrev pub all_flows : Resolved → List (ℕ × ℕ)
all_flows r = flat_map (method_flows r.classes r.methods) r.methods

-- those to labels from this number on
abbrev pub only : ℕ → List (ℕ × ℕ) → List (ℕ × ℕ)
only n ps = flat_map (λ p. if nat_lt p.1 n then [] else p ∷ []) ps
