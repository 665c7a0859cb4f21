-- Under which labels each site stands.
--
-- A site stands under the labels that decide whether its statement runs (`Obligations`). Who sees them all sees the site.
use Rattle.std.specs.Prelude.{ℕ, List, [], ◌∷◌, ◌++◌, map, Option, Some, None}
use Rattle.std.specs.List.{flat_map}
use Rattle.fab_tree.specs.declared.resolved.Expression.{Expression, fold-Expression}
use Rattle.fab_tree.specs.declared.resolved.Form.TheOpen as f
use Rattle.fab_tree.specs.declared.resolved.Right.{Right}
use Rattle.fab_tree.specs.declared.resolved.Right.TheVariants as rights
use Rattle.fab_tree.specs.declared.resolved.Statement.{Statement, fold-Statement}
use Rattle.fab_tree.specs.declared.resolved.Statement.TheOpen as s
use Rattle.fab_tree.specs.declared.resolved.Class.{Class}
use Rattle.fab_tree.specs.declared.resolved.Local.{Local}
use Rattle.fab_tree.specs.declared.resolved.Return.{Return}
use Rattle.fab_tree.specs.declared.resolved.Method.{Method}
use Rattle.fab_tree.specs.declared.resolved.Resolved.{Resolved}
use Rattle.fab_labelling.specs.Obligations.{part, under}

-- these sites and those, in their order
abbrev pub all_sites : List (List ℕ) → List ℕ
all_sites = flat_map (λ ns. ns)

abbrev pub form_sites : f.Form-F (List ℕ) (List ℕ) (List ℕ) → List ℕ
form_sites (f.Number n) = []
form_sites f.Null = []
form_sites (f.Local x) = []
form_sites (f.Read x field site) = site ∷ []
form_sites (f.Unary o ns) = ns
form_sites (f.Chain ns others) = ns ++ all_sites others
form_sites (f.Compared ns comparison ms) = ns ++ ms

-- the sites in an expression, in the order of the text
abbrev pub sites_in : Expression → List ℕ
sites_in = fold-Expression (List ℕ) (List ℕ) (List ℕ) form_sites (λ e. e.form) (λ u. u.operand)

abbrev pub right_sites : Right → List ℕ
right_sites (rights.Plain e) = sites_in e
right_sites (rights.Call x es) = flat_map sites_in es
right_sites (rights.New x store es site at) = site ∷ flat_map sites_in es
right_sites (rights.Downgrade d e from to site at) = site ∷ sites_in e

-- sites with the labels under which they stand
abbrev pub Sited : Type 0
Sited = List (ℕ × List ℕ)

abbrev pub all_under : List ℕ → List ℕ → Sited
all_under pc sites = map (λ n. (n, pc)) sites

module _ (classes : List Class) (locals : List Local) where
  abbrev pub in_order : List (List ℕ → Sited) → List ℕ → Sited
  in_order xs pc = flat_map (λ x. x pc) xs

  abbrev pub statement_sites : s.Statement-F (List ℕ → Sited) → List ℕ → Sited
  statement_sites (s.Assign x r at) pc = all_under pc (right_sites r)
  statement_sites (s.Write x field e site) pc = all_under pc (site ∷ sites_in e)
  statement_sites (s.Call x es) pc = all_under pc (flat_map sites_in es)
  statement_sites (s.If e block otherwise) pc =
      let inside = under pc (part classes locals e).labels in
      all_under pc (sites_in e) ++ in_order block inside ++ in_order otherwise inside
  statement_sites (s.While e block) pc = all_under pc (sites_in e) ++ in_order block (under pc (part classes locals e).labels)
  statement_sites (s.Atomic x block otherwise at) pc =
      let inside = under pc (x.number ∷ []) in
      in_order block inside ++ in_order otherwise inside
  statement_sites (s.Fail at) pc = []

  abbrev pub sited : Statement → List ℕ → Sited
  sited = fold-Statement (List ℕ → Sited) statement_sites

  abbrev pub block_sites : List Statement → List ℕ → Sited
  block_sites xs = in_order (map sited xs)

abbrev pub return_sites : Option Return → List ℕ
return_sites None = []
return_sites (Some x) = sites_in x.value

abbrev pub method_sites : List Class → Method → Sited
method_sites classes m =
    let pc = m.begin.number ∷ [] in
    block_sites classes m.locals m.body pc ++ all_under pc (return_sites m.result)

-- all sites of a program, in the order of the text
abbrev pub sites_of : Resolved → Sited
sites_of r = flat_map (method_sites r.classes) r.methods

-- the labels of each site, in that order
abbrev pub pcs_of : Resolved → List (List ℕ)
pcs_of r = map (λ x. x.1) (sites_of r)
