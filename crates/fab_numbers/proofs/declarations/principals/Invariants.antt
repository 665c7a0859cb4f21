use Rattle.std.proofs.Common.{◌≡◌, ◌+◌, ◌++◌, drop, count_by}
use Rattle.fab_tree.specs.Limits.{is_node}
use Rattle.fab_language.specs.Numbers.{principals_from}
use Rattle.fab_numbers.proofs.declarations.principals.Given as goal

abbrev pub invariant-loop-node : goal.invariant-loop-node
invariant-loop-node l =
    (l.number + count_by (λ x. is_node x.role) (drop l.node-index l.nodes) ≡ count_by (λ x. is_node x.role) l.nodes)
    × (l.principals ++ principals_from l.number (drop l.node-index l.nodes) ≡ principals_from 0 l.nodes)
