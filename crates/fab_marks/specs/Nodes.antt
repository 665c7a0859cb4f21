-- Nodes of a bundle by their names, and the sets of them that words name.
use Rattle.std.specs.Prelude.{ℕ, ◌&&◌, ◌||◌, not, Bool, false, List, [], ◌∷◌, Option, is_some, option_and_then, unwrap_or, find}
use Rattle.std.specs.List.{list_all, list_any}
use Rattle.std.specs.Str.{bytes_eq}
use Rattle.fab_tree.specs.declared.resolved.Principal.{Principal}
use Rattle.fab_tree.specs.declared.resolved.Resolved.{Resolved}
use Rattle.fab_language.specs.Names.{is_hostile}
use Rattle.fab_language.specs.Words.{has_number}

-- the worker or store of a name
abbrev pub node_named : Resolved → List ℕ → Option Principal
node_named r name = find (λ x. is_some x.node && bytes_eq x.name.text name) r.nodes

abbrev pub is_node : Resolved → List ℕ → Bool
is_node r name = is_some (node_named r name)

-- its number, which is its column in a picture; 0 for a name that is no node's
abbrev pub number_of : Resolved → List ℕ → ℕ
number_of r name = unwrap_or (option_and_then (λ x. x.node) (node_named r name)) 0

-- each of these names is that of a worker or store
abbrev pub are_nodes : Resolved → List (List ℕ) → Bool
are_nodes r names = list_all (is_node r) names

-- the node of this number is hostile, or has one of these names
abbrev pub is_among : Resolved → List (List ℕ) → ℕ → Bool
is_among r names n = list_any (λ x. has_number n x.node && (is_hostile x.role || list_any (bytes_eq x.name.text) names)) r.nodes

-- What goes from one node to another is sent into the set: these nodes and the hostile ones. Where none is named there is no set.
abbrev pub is_sent_in : Resolved → List (List ℕ) → ℕ → ℕ → Bool
is_sent_in r [] from to = false
is_sent_in r (name ∷ names) from to = is_among r (name ∷ names) to && not (is_among r (name ∷ names) from)
