use Rattle.fab_integrity.proofs.Once.{once}
use Rattle.fab_integrity.proofs.Runs.{serial, ends, left_out, faithful}
use Rattle.fab_integrity.proofs.laws.integrity.Goals as goal

pub returns : goal.returns
returns c = record { serial = serial; ends = ends; once = once; left_out = left_out; faithful = faithful }
