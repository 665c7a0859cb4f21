use Rattle.std.proofs.Common.{◌≡◌, ◌+◌, drop, length}
use Rattle.std.specs.List.{flat_map}
use Rattle.fab_tree.specs.Sites.{in_statement}
use Rattle.fab_bundle.proofs.sites.+sites.Given as goal

abbrev pub invariant-room_after_block-loop-statement :
    goal.invariant-room_after_block-loop-statement
invariant-room_after_block-loop-statement l =
    l.left + length (flat_map in_statement l.block) ≡ l.initial.left + length (flat_map in_statement (drop l.statement-index l.block))
