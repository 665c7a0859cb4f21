-- The labels that a program uses, and that each of them is declared.
use Rattle.std.proofs.Common.{ℕ, ◌<◌, List, [], ◌∷◌, ◌++◌, map, length}
use Rattle.std.specs.List.{AllByRecursion, flat_map}
use Rattle.fab_tree.specs.declared.resolved.Class.{Class}
use Rattle.fab_tree.specs.declared.resolved.Right.{Right}
use Rattle.fab_tree.specs.declared.resolved.Right.TheVariants as rights
use Rattle.fab_tree.specs.declared.resolved.Statement.{Statement, fold-Statement}
use Rattle.fab_tree.specs.declared.resolved.Statement.TheOpen as s
use Rattle.fab_tree.specs.declared.resolved.Local.{Local}
use Rattle.fab_tree.specs.declared.resolved.Method.{Method}
use Rattle.fab_tree.specs.declared.resolved.Resolved.{Resolved}
use Rattle.fab_labelling.specs.Obligations.{label_of_returns}

-- ---- the labels that statements name

abbrev pub named_by_right : Right → List ℕ
named_by_right (rights.Plain e) = []
named_by_right (rights.Call x es) = []
named_by_right (rights.New x store es site at) = []
named_by_right (rights.Downgrade d e from to site at) = from.number ∷ to.number ∷ []

abbrev pub of_all_parts : List (List ℕ) → List ℕ
of_all_parts = flat_map (λ ls. ls)

abbrev pub labels_step : s.Statement-F (List ℕ) → List ℕ
labels_step (s.Assign x r at) = named_by_right r
labels_step (s.Write x field e site) = []
labels_step (s.Call x es) = []
labels_step (s.If e block otherwise) = of_all_parts block ++ of_all_parts otherwise
labels_step (s.While e block) = of_all_parts block
labels_step (s.Atomic x block otherwise at) = x.number ∷ of_all_parts block ++ of_all_parts otherwise
labels_step (s.Fail at) = []

abbrev pub labels_in : Statement → List ℕ
labels_in = fold-Statement (List ℕ) labels_step

abbrev pub labels_in_block : List Statement → List ℕ
labels_in_block xs = of_all_parts (map labels_in xs)

-- ---- so many labels are declared, and these are some of them

abbrev pub AreBelow : ℕ → List ℕ → Type 0
AreBelow n ls = AllByRecursion (λ l. l < n) ls

abbrev pub IsLabelledLocal : ℕ → Local → Type 0
IsLabelledLocal n x = x.label.number < n

pub record IsLabelledClass (n : ℕ) (c : Class) : Type 0 where
  pub label : c.label.number < n
  pub access : c.access.number < n

pub record IsLabelledMethod (n : ℕ) (m : Method) : Type 0 where
  pub locals : AllByRecursion (IsLabelledLocal n) m.locals
  pub returns : AreBelow n (label_of_returns m.returns)
  pub begin : m.begin.number < n
  pub body : AreBelow n (labels_in_block m.body)

-- each label that the program uses is declared
pub record HasLabels (r : Resolved) : Type 0 where
  pub classes : AllByRecursion (IsLabelledClass (length r.labels)) r.classes
  pub methods : AllByRecursion (IsLabelledMethod (length r.labels)) r.methods
