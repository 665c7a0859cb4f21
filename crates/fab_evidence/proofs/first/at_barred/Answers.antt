use Rattle.std.proofs.Common.{[], refl}
use Rattle.fab_evidence.specs.First.{not_enabled, rows_of}
use Rattle.fab_evidence.proofs.Walking.{differ_rows}
use Rattle.fab_evidence.proofs.first.at_barred.Goals as goal

pub returns-then-not-is_same : goal.returns-then-not-is_same
returns-then-not-is_same c =
    differ_rows c.differing.result c.args.line c.args.found.now c.first_line.result.0.now c.first_line.result.1.now _ [] not_enabled _ c.first_line.ensures.lines refl refl
    (c.differing.ensures (rows_of c.first_line.result.1.now) [])
