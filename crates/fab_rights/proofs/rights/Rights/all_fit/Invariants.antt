use Rattle.std.proofs.Common.{◌≡◌, ◌↔◌, length}
use Rattle.std.specs.List.{AllZip}
use Rattle.fab_rights.specs.Rights.{FitsField}
use Rattle.fab_rights.specs.Computed.{fit_fields}
use Rattle.fab_rights.proofs.rights.Rights.all_fit.Given as goal

abbrev pub invariant-loop-shape : goal.invariant-loop-shape
invariant-loop-shape l = record {
  exact : AllZip (FitsField l.self) l.shapes l.values ↔ AllZip (FitsField l.self) l.wanted l.given;
  computed : fit_fields l.self l.shapes l.values ≡ fit_fields l.self l.wanted l.given;
}

abbrev pub decreases-loop-shape : goal.decreases-loop-shape
decreases-loop-shape l = length l.wanted
