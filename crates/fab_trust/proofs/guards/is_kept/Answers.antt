use Rattle.std.proofs.Common.{◌∙◌}
use Rattle.fab_trust.proofs.Deciding.{kept_by}
use Rattle.fab_trust.proofs.guards.is_kept.Goals as goal

pub returns : goal.returns
returns c =
    let scope = c.args.scope.now in
    c.is_some.ensures
    ∙ kept_by scope.start.now c.args.guard scope.acts.now c.integ_at.result.now c.new.result c.first_cover.result c.requires c.integ_at.ensures c.new.ensures c.first_cover.ensures.first
