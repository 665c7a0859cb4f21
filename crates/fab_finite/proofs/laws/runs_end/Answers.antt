use Rattle.std.proofs.Common.{arith}
use Rattle.fab_world.specs.Serial.{attempts}
use Rattle.fab_finite.proofs.Ends.{ends_by_lines, ends_by_starts}
use Rattle.fab_finite.proofs.laws.runs_end.Goals as goal

pub returns : goal.returns
returns c = record {
  starts = λ S given law grows moves can. ends_by_starts S given law grows moves (attempts moves) can (omega arith);
  lines = ends_by_lines;
}
