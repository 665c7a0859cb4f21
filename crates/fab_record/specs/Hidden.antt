-- The sites that are out of view, gathered along a program by whether what stands around them is seen.
use Rattle.std.specs.Prelude.{ℕ, Bool, true, false, ◌&&◌, List, [], ◌∷◌, ◌++◌, map}
use Rattle.std.specs.List.{flat_map, list_all}
use Rattle.fab_tree.specs.declared.resolved.Class.{Class}
use Rattle.fab_tree.specs.declared.resolved.Expression.{Expression}
use Rattle.fab_tree.specs.declared.resolved.Local.{Local}
use Rattle.fab_tree.specs.declared.resolved.Method.{Method}
use Rattle.fab_tree.specs.declared.resolved.Resolved.{Resolved}
use Rattle.fab_tree.specs.declared.resolved.Statement.{Statement, fold-Statement}
use Rattle.fab_tree.specs.declared.resolved.Statement.TheOpen as s
use Rattle.fab_labelling.specs.Obligations.{part}
use Rattle.fab_labelling.specs.Sites.{return_sites, right_sites, sites_in}

-- sites, where what stands around them isn't seen
abbrev pub unless_seen : Bool → List ℕ → List ℕ
unless_seen true sites = []
unless_seen false sites = sites

-- of parts in order
abbrev pub each_hidden : List (Bool → List ℕ) → Bool → List ℕ
each_hidden xs seen = flat_map (λ x. x seen) xs

module _ (sees : ℕ → Bool) where
  module _ (classes : List Class) (locals : List Local) where
    -- whatever an expression reads is seen
    abbrev pub reads_seen : Expression → Bool
    reads_seen e = list_all sees (part classes locals e).labels

    abbrev pub hidden_step : s.Statement-F (Bool → List ℕ) → Bool → List ℕ
    hidden_step (s.Assign x r at) seen = unless_seen seen (right_sites r)
    hidden_step (s.Write x field e site) seen = unless_seen seen (site ∷ sites_in e)
    hidden_step (s.Call x es) seen = unless_seen seen (flat_map sites_in es)
    hidden_step (s.If e block otherwise) seen =
        unless_seen seen (sites_in e) ++ each_hidden block (seen && reads_seen e) ++ each_hidden otherwise (seen && reads_seen e)
    hidden_step (s.While e block) seen = unless_seen seen (sites_in e) ++ each_hidden block (seen && reads_seen e)
    hidden_step (s.Atomic label block otherwise at) seen =
        each_hidden block (seen && sees label.number) ++ each_hidden otherwise (seen && sees label.number)
    hidden_step (s.Fail at) seen = []

    abbrev pub hidden_in : Statement → Bool → List ℕ
    hidden_in = fold-Statement (Bool → List ℕ) hidden_step

    abbrev pub hidden_block : List Statement → Bool → List ℕ
    hidden_block xs = each_hidden (map hidden_in xs)

  abbrev pub hidden_method : List Class → Method → List ℕ
  hidden_method classes m =
      hidden_block classes m.locals m.body (sees m.begin.number) ++ unless_seen (sees m.begin.number) (return_sites m.result)

  -- the sites of a program that are out of view
  abbrev pub hidden_sites : Resolved → List ℕ
  hidden_sites r = flat_map (hidden_method r.classes) r.methods
