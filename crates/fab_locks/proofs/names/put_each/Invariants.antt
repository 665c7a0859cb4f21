use Rattle.std.proofs.Common.{length}
use Rattle.fab_locks.specs.Indexes.{any_named}
use Rattle.fab_locks.proofs.Putting.{PutsAll}
use Rattle.fab_locks.proofs.names.put_each.Given as goal

-- what puts the names that are left puts them all
abbrev pub invariant-each : goal.invariant-each
invariant-each g l = PutsAll (any_named g.T.Named.name_of l.rest) (any_named g.T.Named.name_of l.list) l.number l.fn.names l.names

abbrev pub decreases-each : goal.decreases-each
decreases-each g l = length l.rest
