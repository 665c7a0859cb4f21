use Rattle.fab_alone.proofs.Runs.{in_turn}
use Rattle.fab_alone.proofs.laws.alone_is_in_turn.Goals as goal

pub returns : goal.returns
returns c = λ S n given law posts lines moves alone honest rights found more run calm over.
    in_turn S given law honest n alone.worker alone.only rights found more posts lines moves run calm over
