use Rattle.fab_authority.proofs.Deciding.{placement_decided}
use Rattle.fab_check.proofs.placement.may_hold.Goals as goal

pub returns : goal.returns
returns c =
    let class = c.args.class.now in
    placement_decided c.args.verdicts.now.start c.may_hold.result c.acts.result.now c.acts.ensures c.args.p class.label.number class.access.number c.label-label.result.now c.label-access.result.now c.label-label.ensures c.label-access.ensures c.may_hold.ensures.exact
