use Rattle.std.proofs.Common.{◌≡◌, ◌+◌, drop, length}
use Rattle.std.specs.List.{flat_map}
use Rattle.fab_tree.specs.Sites.{in_method}
use Rattle.fab_bundle.proofs.sites.room_after_sites_of_methods.Given as goal

abbrev pub invariant-loop-method : goal.invariant-loop-method
invariant-loop-method l =
    l.left + length (flat_map in_method l.methods) ≡ l.initial.left + length (flat_map in_method (drop l.method-index l.methods))
