use Rattle.fab_erasure.proofs.Agrees.{erasure_agrees}
use Rattle.fab_erasure.proofs.laws.erasing_agrees.Goals as goal

pub returns : goal.returns
returns c = erasure_agrees
