use Rattle.fab_attempts.specs.Known.{IsKnown}
use Rattle.fab_attempts.proofs.Puts.{puts_known, caches_kept}
use Rattle.fab_attempts.proofs.laws.puts_stay_known.Goals as goal

pub returns : goal.returns
returns c = record {
  puts = puts_known;
  caches = λ program t. caches_kept (IsKnown program t);
}
