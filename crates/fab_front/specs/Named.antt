-- Nodes by their names.
use Rattle.std.specs.Prelude.{ℕ, Bool, ◌&&◌, List, is_some}
use Rattle.std.specs.List.{list_any, list_all}
use Rattle.std.specs.Str.{bytes_eq}
use Rattle.fab_tree.specs.declared.resolved.Resolved.{Resolved}
use Rattle.fab_language.specs.Words.{has_number}

-- a worker or store has this name
abbrev pub is_node_name : Resolved → List ℕ → Bool
is_node_name r name = list_any (λ x. is_some x.node && bytes_eq x.name.text name) r.nodes

-- each of these names is that of a worker or store
abbrev pub are_node_names : Resolved → List (List ℕ) → Bool
are_node_names r names = list_all (is_node_name r) names

-- the worker or store of this number has one of these names
abbrev pub is_named : Resolved → List (List ℕ) → ℕ → Bool
is_named r names n = list_any (λ x. has_number n x.node && list_any (bytes_eq x.name.text) names) r.nodes
