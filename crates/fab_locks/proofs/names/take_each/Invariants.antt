use Rattle.std.proofs.Common.{length}
use Rattle.fab_locks.specs.Indexes.{any_named}
use Rattle.fab_locks.proofs.Putting.{TakesAll}
use Rattle.fab_locks.proofs.names.take_each.Given as goal

-- what takes out the names that are left takes them all out
abbrev pub invariant-each : goal.invariant-each
invariant-each g l = TakesAll (any_named g.T.Named.name_of l.rest) (any_named g.T.Named.name_of l.list) l.number l.fn.names l.names

abbrev pub decreases-each : goal.decreases-each
decreases-each g l = length l.rest
