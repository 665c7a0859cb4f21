use Rattle.std.proofs.Common.{◌≡◌, take, map}
use Rattle.fab_protocol.specs.Versions.{version_of}
use Rattle.fab_parts.proofs.parts.with_versions.Given as goal

abbrev pub invariant-loop-row : goal.invariant-loop-row
invariant-loop-row l = l.all ≡ map (λ c. (c.0, version_of l.answers c.0, c.1)) (take l.row-index l.rows)
