use Rattle.std.proofs.Common.{◌≡◌, map}
use Rattle.fab_release.specs.Bundles.{public_asked}
use Rattle.fab_rights.specs.Computed.{has_bit}
use Rattle.fab_record.proofs.part.all_asked.Given as goal

abbrev pub invariant-loop-asked : goal.invariant-loop-asked
invariant-loop-asked l = l.shown ≡ map (public_asked (has_bit l.seen.labels) (has_bit l.seen.classes) l.methods) l.yielded
