use Rattle.fab_worker.proofs.AttemptNumbers.{heard, resumed, silent}
use Rattle.fab_worker.proofs.laws.attempts_keep_their_number.Goals as goal

pub returns : goal.returns
returns c = record {
  resumed = resumed;
  heard = heard;
  silent = silent;
}
