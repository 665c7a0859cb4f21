use Rattle.fab_left.proofs.Stacks.{block_over, trial_over, call_over}
use Rattle.fab_left.proofs.laws.what_is_over_passes.Goals as goal

pub returns : goal.returns
returns c = record { blocks = block_over; trials = trial_over; calls = call_over }
