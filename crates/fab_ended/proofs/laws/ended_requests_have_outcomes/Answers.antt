use Rattle.fab_ended.proofs.Ended.{are_ended, are_final}
use Rattle.fab_ended.proofs.laws.ended_requests_have_outcomes.Goals as goal

pub returns : goal.returns
returns c = record { ended = are_ended; unmarked = are_final }
