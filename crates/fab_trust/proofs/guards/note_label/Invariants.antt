use Rattle.std.proofs.Common.{◌≡◌, drop}
use Rattle.fab_trust.specs.Noted.{guards_at, noted}
use Rattle.fab_trust.proofs.guards.note_label.Given as goal

abbrev pub invariant-loop-principal : goal.invariant-loop-principal
invariant-loop-principal l =
    noted l.scope.start.now l.found (guards_at l.at l.source (drop l.principal-index l.authority)) ≡ noted l.scope.start.now l.initial.found (guards_at l.at l.source l.authority)
