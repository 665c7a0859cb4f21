use Rattle.std.proofs.Common.{◌≡◌, map}
use Rattle.fab_release.specs.Bundles.{public_root}
use Rattle.fab_rights.specs.Computed.{has_bit}
use Rattle.fab_record.proofs.part.all_roots.Given as goal

abbrev pub invariant-loop-root : goal.invariant-loop-root
invariant-loop-root l = l.shown ≡ map (public_root (has_bit l.seen.labels) (has_bit l.seen.classes)) l.yielded
