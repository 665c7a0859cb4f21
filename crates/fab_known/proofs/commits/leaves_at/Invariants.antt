use Rattle.std.proofs.Common.{◌≡◌, map, take}
use Rattle.fab_release.specs.Replay.{leaves_at}
use Rattle.fab_release.specs.Sights.{Public, Sight}
use Rattle.fab_known.specs.Commits.{commitment_of}
use Rattle.fab_known.proofs.commits.leaves_at.Given as goal

abbrev pub invariant-loop-commit : goal.invariant-loop-commit
invariant-loop-commit l = (sight : Sight) (P : Public) → l.rows ≡ leaves_at sight P l.store l.fn.tid (map commitment_of (take l.commit-index l.commits))
