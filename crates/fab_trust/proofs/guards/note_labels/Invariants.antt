use Rattle.std.proofs.Common.{◌≡◌, drop}
use Rattle.std.specs.List.{flat_map}
use Rattle.fab_trust.specs.Noted.{guards_at, noted}
use Rattle.fab_trust.proofs.guards.note_labels.Given as goal

abbrev pub invariant-loop-source : goal.invariant-loop-source
invariant-loop-source l =
    noted l.scope.start.now l.found (flat_map (λ s. guards_at l.at s l.authority) (drop l.source-index l.sources))
    ≡ noted l.scope.start.now l.initial.found (flat_map (λ s. guards_at l.at s l.authority) l.sources)
