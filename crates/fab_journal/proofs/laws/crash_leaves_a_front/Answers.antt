use Rattle.fab_journal.proofs.Appending.{left_is_front, front_is_left}
use Rattle.fab_journal.proofs.laws.crash_leaves_a_front.Goals as goal

pub returns : goal.returns
returns c = λ old bytes left. (left_is_front old bytes left, front_is_left old bytes left)
