use Rattle.std.proofs.Common.{◌≡◌, take, map}
use Rattle.fab_protocol.specs.Versions.{version_of}
use Rattle.fab_commit.proofs.touched.versions_of.Given as goal

abbrev pub invariant-loop-name : goal.invariant-loop-name
invariant-loop-name l = l.versions ≡ map (λ o. (o, version_of l.answers o)) (take l.name-index l.names)
