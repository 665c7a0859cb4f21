-- The downgrades of a program, with their kinds, in the order of the text.
use Rattle.std.specs.Prelude.{Bool, true, false, List, [], ◌∷◌, ◌++◌}
use Rattle.std.specs.List.{flat_map, filter}
use Rattle.fab_tree.specs.declared.statement.Downgrade.{Downgrade}
use Rattle.fab_tree.specs.declared.statement.Downgrade.TheVariants.{Declassify, Endorse}
use Rattle.fab_tree.specs.declared.resolved.Method.{Method}
use Rattle.fab_tree.specs.declared.resolved.Right.{Right}
use Rattle.fab_tree.specs.declared.resolved.Right.TheVariants as rights
use Rattle.fab_tree.specs.declared.resolved.Statement.{Statement, fold-Statement}
use Rattle.fab_tree.specs.declared.resolved.Statement.TheOpen as s
use Rattle.fab_erasure.specs.Agreement.{Downgrading}
use Rattle.fab_downgrades.specs.declared.rows.Downgraded.{Downgraded}

abbrev pub downgraded_by_right : Right → List Downgraded
downgraded_by_right (rights.Plain e) = []
downgraded_by_right (rights.Call x es) = []
downgraded_by_right (rights.New x store es site at) = []
downgraded_by_right (rights.Downgrade d e from to site at) =
    record { downgrade = d; at = at; site = site; from = from.number; to = to.number } ∷ []

abbrev pub all_in : List (List Downgraded) → List Downgraded
all_in = flat_map (λ ds. ds)

abbrev pub downgraded_step : s.Statement-F (List Downgraded) → List Downgraded
downgraded_step (s.Assign x r at) = downgraded_by_right r
downgraded_step (s.Write x field e site) = []
downgraded_step (s.Call m args) = []
downgraded_step (s.If e block otherwise) = all_in block ++ all_in otherwise
downgraded_step (s.While e block) = all_in block
downgraded_step (s.Atomic label block otherwise at) = all_in block ++ all_in otherwise
downgraded_step (s.Fail at) = []

abbrev pub downgraded_in : Statement → List Downgraded
downgraded_in = fold-Statement (List Downgraded) downgraded_step

-- those of a method
abbrev pub downgraded_by : Method → List Downgraded
downgraded_by m = flat_map downgraded_in m.body

-- ---- kinds

abbrev pub declassifies : Downgrade → Bool
declassifies Declassify = true
declassifies Endorse = false

abbrev pub endorses : Downgrade → Bool
endorses Declassify = false
endorses Endorse = true

abbrev pub declassified_by : Method → List Downgraded
declassified_by m = filter (λ d. declassifies d.downgrade) (downgraded_by m)

-- ---- without kind and place

-- its site, and the labels from and to which it goes
abbrev pub plain : Downgraded → Downgrading
plain d = (d.site, (d.from, d.to))
