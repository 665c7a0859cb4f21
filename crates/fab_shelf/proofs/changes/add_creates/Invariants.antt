use Rattle.std.proofs.Common.{◌≡◌, ◌++◌, map, take}
use Rattle.fab_protocol.specs.Versions.{begun}
use Rattle.fab_shelf.proofs.changes.add_creates.Given as goal

abbrev pub invariant-loop-create : goal.invariant-loop-create
invariant-loop-create l = l.rows ≡ l.initial.rows ++ map begun (take l.create-index l.creates)
