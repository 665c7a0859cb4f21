use Rattle.std.proofs.Common.{◌≡◌, ◌+◌, drop, length}
use Rattle.std.specs.List.{flat_map}
use Rattle.fab_tree.specs.Sites.{in_expression}
use Rattle.fab_bundle.proofs.sites.+expression.Given as goal

abbrev pub invariant-room_after_operands-loop-other :
    goal.invariant-room_after_operands-loop-other
invariant-room_after_operands-loop-other l =
    l.left + length (flat_map (λ u. in_expression u.operand) l.operands) ≡ l.initial.left + length (flat_map (λ u. in_expression u.operand) (drop l.other-index l.operands))
