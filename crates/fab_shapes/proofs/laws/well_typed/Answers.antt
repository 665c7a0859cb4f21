use Rattle.fab_shapes.proofs.Programs.{program_fits}
use Rattle.fab_shapes.proofs.laws.well_typed.Goals as goal

pub returns : goal.returns
returns c = program_fits
