use Rattle.fab_attempts.proofs.Suiting.{answer_shaped}
use Rattle.fab_attempts.proofs.laws.answers_have_shapes.Goals as goal

pub returns : goal.returns
returns c = answer_shaped
