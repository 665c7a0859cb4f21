use Rattle.std.proofs.Common.{◌≡◌, drop}
use Rattle.std.specs.List.{flat_map}
use Rattle.fab_trust.specs.Noted.{kind_guards, noted}
use Rattle.fab_trust.proofs.guards.note_rows.Given as goal

abbrev pub invariant-loop-row : goal.invariant-loop-row
invariant-loop-row l =
    noted l.scope.start.now l.found (flat_map (kind_guards l.scope.pcs.now l.authority) (drop l.row-index l.rows))
    ≡ noted l.scope.start.now l.initial.found (flat_map (kind_guards l.scope.pcs.now l.authority) l.rows)
