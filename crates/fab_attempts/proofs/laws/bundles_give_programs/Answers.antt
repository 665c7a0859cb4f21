use Rattle.fab_attempts.proofs.Programs.{program_of}
use Rattle.fab_attempts.proofs.laws.bundles_give_programs.Goals as goal

pub returns : goal.returns
returns c = program_of
