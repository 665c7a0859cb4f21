use Rattle.fab_infer.proofs.Holding.{mask_none, mask_some}
use Rattle.fab_infer.proofs.closing.mask_at.Goals as goal

pub returns-in-Some : goal.returns-in-Some
returns-in-Some c = mask_some c.args.masks.now c.args.hole c.in-Some.mask.now c.in-Some.ensures.lookup.0 c.in-Some.ensures.lookup.1

pub returns-in-None : goal.returns-in-None
returns-in-None c = mask_none c.args.masks.now c.args.hole c.in-None.ensures.lookup.0
