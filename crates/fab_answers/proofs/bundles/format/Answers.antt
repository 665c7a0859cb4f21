use Rattle.fab_answers.proofs.Saying.{format_said}
use Rattle.fab_answers.proofs.bundles.format.Goals as goal

pub returns : goal.returns
returns c = rw c.in_ok-reply.ensures (format_said c.requires)
