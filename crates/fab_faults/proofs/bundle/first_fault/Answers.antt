use Rattle.fab_language.specs.Faults.{faults}
use Rattle.fab_faults.proofs.Least.{told}
use Rattle.fab_faults.proofs.bundle.first_fault.Goals as goal

pub returns : goal.returns
returns c = told (faults c.args.tables.now) c.in_ok-first.first c.in_ok-first.ensures
