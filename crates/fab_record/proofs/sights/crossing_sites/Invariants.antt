use Rattle.std.proofs.Common.{◌≡◌, ◌++◌, drop, map}
use Rattle.fab_downgrades.specs.Downgraded.{plain}
use Rattle.fab_rights.specs.Computed.{has_bit}
use Rattle.fab_record.specs.Views.{crossing_sites}
use Rattle.fab_record.proofs.sights.crossing_sites.Given as goal

abbrev pub invariant-loop-downgrade : goal.invariant-loop-downgrade
invariant-loop-downgrade l =
    l.sites ++ crossing_sites (has_bit l.labels) (map plain (drop l.downgrade-index l.downgrades)) ≡ crossing_sites (has_bit l.labels) (map plain l.downgrades)
