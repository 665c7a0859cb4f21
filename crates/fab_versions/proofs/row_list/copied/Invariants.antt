use Rattle.std.proofs.Common.{◌≡◌, ◌++◌, length}
use Rattle.fab_versions.proofs.row_list.copied.Given as goal

-- the copies and what is left are all
abbrev pub invariant-rows : goal.invariant-rows
invariant-rows l = l.copy.items ++ l.rest ≡ l.rows

abbrev pub decreases-rows : goal.decreases-rows
decreases-rows l = length l.rest
