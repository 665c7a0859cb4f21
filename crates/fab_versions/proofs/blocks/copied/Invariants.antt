use Rattle.std.proofs.Common.{◌≡◌, ◌++◌, length}
use Rattle.fab_versions.proofs.Standing.{under_keys}
use Rattle.fab_versions.proofs.blocks.copied.Given as goal

-- the blocks so far and those that are left are all
abbrev pub invariant-copies : goal.invariant-copies
invariant-copies l = under_keys l.copy.items ++ under_keys l.rest ≡ under_keys l.blocks

abbrev pub decreases-copies : goal.decreases-copies
decreases-copies l = length l.rest
