use Rattle.fab_infer.proofs.Holding.{gained, not_gained, set_more, set_none}
use Rattle.fab_infer.proofs.closing.gain.Goals as goal

pub returns-then-hole-masks-clause-more : goal.returns-then-hole-masks-clause-more
returns-then-hole-masks-clause-more c = set_none c.args.masks.now c.args.hole c.args.more c.if-hole-masks.true

pub returns-then-hole-masks-clause-said : goal.returns-then-hole-masks-clause-said
returns-then-hole-masks-clause-said c = not_gained c.args.masks.now c.args.hole c.args.more c.if-hole-masks.true

pub returns-clause-more : goal.returns-clause-more
returns-clause-more c = set_more c.args.masks.now c.args.hole c.args.more c.if-hole-masks.false

pub returns-clause-said : goal.returns-clause-said
returns-clause-said c = gained c.args.masks.now c.args.hole c.args.more c.if-hole-masks.false

pub returns-clause-bits : goal.returns-clause-bits
returns-clause-bits c = λ h. (c.type_inv.masks h).fits
