use Rattle.fab_evaluation.proofs.RootObjects.{distinct}
use Rattle.fab_evaluation.proofs.objects.at_start.Goals as goal

pub from_rows-requires : goal.from_rows-requires
from_rows-requires c = rw (c.in_ok-rows.ensures, c.as_slice.ensures) (distinct c.args.start.now.roots c.requires)
